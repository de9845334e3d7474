-- One more group is closed.
use Rattle.std.proofs.Common.{◌≡◌, ◌∙◌, ℕ, ◌+◌, ◌*◌, ◌^◌, ◌<◌, ◌≤◌, List, [], ◌∷◌, ◌++◌, length, pos, ℤ, Ok, Err, sym, ap, subst, refl, arith}
use Rattle.std.specs.Prelude.{unsigned_abs}
use Rattle.std.specs.List.{flat_map, AllByRecursion}
use Rattle.std.proofs.lemmas.List.{length-append}
use Rattle.std.proofs.lemmas.List.Concat.{flat_map-append}
use Rattle.thrift_structs.specs.Listed.{ListFits}
use Rattle.thrift_structs.specs.ChunkWriting.{ChunkFits}
use Rattle.thrift_structs.specs.declared.column_chunks.ChunkMeta.{ChunkMeta}
use Rattle.std.proofs.lemmas.List.Elements.{All-from_recursion}
use Rattle.schema_elements.specs.ElementWriting.{ElementFits}
use Rattle.schema_elements.specs.declared.elements.SchemaElement.{SchemaElement}
use Rattle.footer_structs.specs.FooterWriting.{footer_bytes, group_bytes, GroupFits}
use Rattle.footer_structs.specs.ReadFooters.{total_rows}
use Rattle.footer_structs.specs.declared.row_groups.GroupMeta.{GroupMeta}
use Rattle.footer_structs.specs.declared.file_metadata.FileMeta.{FileMeta}
use Rattle.footer_structs.specs.Footers.{orders_in}
use Rattle.footer_structs.specs.FileEnds.{footer_limit}
use Rattle.closed_groups.specs.ClosedGroups.{file_meta, group_meta, Closed, meta_of, with_group, Closes, meta_with, PutsGroup, IsSound}
use Rattle.closed_groups.specs.declared.group_list.Unclosed.{Unclosed}
use Rattle.closed_groups.specs.declared.group_list.Unclosed.TheVariants.{TooLong, NoMemory}
use Rattle.closed_groups.proofs.FooterSizes.{group_more, groups_within}

rows_more : (gs : List GroupMeta) (g : GroupMeta) → total_rows (gs ++ g ∷ []) ≡ total_rows gs + unsigned_abs g.num_rows
unfolding total_rows
rows_more [] g = omega arith
rows_more (x ∷ gs) g = omega (arith, rows_more gs g)

abbrev pub shown : FileMeta → ℕ → Closed
shown m place = record { schema = m.schema; orders = orders_in m.column_orders; groups = m.row_groups; place = place }

-- no groups
units : (xs : List ℤ) → AllByRecursion (λ x. Unit {0}) xs
units [] = tt
units (x ∷ xs) = (tt, units xs)

pub none_sound : (schema : List SchemaElement) (orders : List ℤ) (groups : List GroupMeta) → ListFits ElementFits schema → length orders < 2 ^ 32 → groups ≡ []
    → IsSound (record (file_meta schema orders groups) { num_rows = pos 0 }) 0 0 4
unfolding total_rows
none_sound schema orders groups fits few none =
    subst (λ (gs : List GroupMeta). IsSound (record (file_meta schema orders gs) { num_rows = pos 0 }) 0 0 4) (sym none) (record {
      schema = fits;
      orders = record { size = few; each = All-from_recursion (λ x. Unit {0}) orders (units orders) };
      each = tt;
      sum = refl;
      short = omega arith;
      few = omega arith;
      counted = refl;
      rows_few = omega arith;
      placed = omega arith;
      is = refl;
    })

meta_more : (m : FileMeta) (coded rows place : ℕ) (columns : List ChunkMeta) (size r : ℕ) → IsSound m coded rows place
    → meta_with m (group_meta columns size r) (rows + r) ≡ meta_of (with_group (shown m place) (group_meta columns size r) size)
meta_more m coded rows place columns size r known =
    let g : GroupMeta = group_meta columns size r in
    let more : List GroupMeta = m.row_groups ++ g ∷ [] in
    let count : rows + r ≡ total_rows more = omega (arith, known.counted, rows_more m.row_groups g) in
    ap (λ (x : FileMeta). record x { num_rows = pos (rows + r); row_groups = more }) known.is
    ∙ ap (λ (n : ℕ). record (file_meta m.schema (orders_in m.column_orders) more) { num_rows = pos n }) count

each_more : (gs : List GroupMeta) (g : GroupMeta) → AllByRecursion GroupFits gs → GroupFits g → AllByRecursion GroupFits (gs ++ g ∷ [])
each_more [] g all one = (one, tt)
each_more (x ∷ gs) g all one = (all.0, each_more gs g all.1 one)

-- what is known of the groups with one more
pub sound_more : (m : FileMeta) (coded rows place : ℕ) (columns : List ChunkMeta) (size r len : ℕ) (n : FileMeta) → IsSound m coded rows place → ListFits ChunkFits columns
    → size ≤ 2 ^ 30 * length columns → r ≤ 2 ^ 25 → len ≡ length (group_bytes (group_meta columns size r))
    → PutsGroup m n (rows + r) (group_meta columns size r) (Ok tt) → IsSound n (coded + len) (rows + r) (place + size)
sound_more m coded rows place columns size r len n known fits small few own puts =
    let g : GroupMeta = group_meta columns size r in
    let m' : FileMeta = meta_with m g (rows + r) in
    let groups : length (flat_map group_bytes (m.row_groups ++ g ∷ [])) ≡ coded + len =
    ap length (flat_map-append group_bytes m.row_groups (g ∷ [])) ∙ omega (arith, known.sum, own, length-append (flat_map group_bytes m.row_groups) (flat_map group_bytes (g ∷ [])), length-append (group_bytes g) []) in
    let own_more : length columns + 1 ≤ len = omega (arith, own, group_more g) in
    subst (λ (x : FileMeta). IsSound x (coded + len) (rows + r) (place + size)) (sym puts.0) (record {
      schema = known.schema;
      orders = known.orders;
      each = each_more m.row_groups g known.each fits;
      sum = sym groups;
      short = omega (arith, puts.1, groups, groups_within m');
      few = omega (arith, known.few, own_more, length-append m.row_groups (g ∷ []));
      counted = omega (arith, known.counted, rows_more m.row_groups g);
      rows_few = omega (arith, known.rows_few, few, own_more);
      placed = omega (arith, known.placed, small, own_more);
      is = meta_more m coded rows place columns size r known;
    })

-- how the group closes, as it is seen
pub closes_ok : (m n : FileMeta) (coded rows place : ℕ) (columns : List ChunkMeta) (size r : ℕ) → IsSound m coded rows place
    → PutsGroup m n (rows + r) (group_meta columns size r) (Ok tt) → Closes (shown m place) (shown n (place + size)) (group_meta columns size r) size (Ok tt)
closes_ok m n coded rows place columns size r known puts =
    (ap (λ (x : FileMeta). shown x (place + size)) puts.0, subst (λ (x : FileMeta). length (footer_bytes x) ≤ footer_limit) (meta_more m coded rows place columns size r known) puts.1)

pub closes_err : (m n : FileMeta) (coded rows place : ℕ) (columns : List ChunkMeta) (size r : ℕ) (e : Unclosed) → IsSound m coded rows place
    → PutsGroup m n (rows + r) (group_meta columns size r) (Err e) → Closes (shown m place) (shown n place) (group_meta columns size r) size (Err e)
closes_err m n coded rows place columns size r (TooLong len) known puts =
    (ap (λ (x : FileMeta). shown x place) puts.0, puts.1 ∙ ap (λ (x : FileMeta). length (footer_bytes x)) (meta_more m coded rows place columns size r known), puts.2)
closes_err m n coded rows place columns size r NoMemory known puts = ap (λ (x : FileMeta). shown x place) puts

-- after a refusal the same is known
pub sound_kept : (m n : FileMeta) (coded rows place k : ℕ) (group : GroupMeta) (e : Unclosed) → IsSound m coded rows place → PutsGroup m n k group (Err e) → IsSound n coded rows place
sound_kept m n coded rows place k group (TooLong len) known puts = subst (λ (x : FileMeta). IsSound x coded rows place) (sym puts.0) known
sound_kept m n coded rows place k group NoMemory known puts = subst (λ (x : FileMeta). IsSound x coded rows place) (sym puts) known
