-- What stands after one more row.
use Rattle.std.proofs.Common.{◌≡◌, ◌∙◌, ℕ, ◌+◌, ◌<◌, ◌≤◌, List, [], ◌∷◌, ◌++◌, length, map, Bool, true, false, cond, Option, None, Some, Result, Ok, Err, unwrap_or, sym, ap, subst, refl, arith, nat_le, ℤ}
use Rattle.std.specs.Prelude.{MatchBool}
use Rattle.std.specs.FinMap.{get, insert}
use Rattle.std.proofs.lemmas.List.{map-append, length-append, length-map}
use Rattle.std.proofs.lemmas.List.Sums.{fold-append, sum_by-cons}
use Rattle.std.proofs.lemmas.Bool.Decides.{nat_tests}
use Rattle.std.specs.List.{concat}
use Rattle.json_tree.specs.Json.{Json}
use Rattle.shred_schema.specs.Groups.{Group}
use Rattle.shred_schema.specs.Recs.{RowRec}
use Rattle.shred_schema.specs.Views.{group_of, row_rec_of}
use Rattle.shred_schema.specs.declared.nodes.Column.{Column}
use Rattle.shred_schema.specs.declared.records.RowRecord.{RowRecord}
use Rattle.schema_elements.specs.declared.elements.SchemaElement.{SchemaElement}
use Rattle.shredder.specs.Shredded.{shred_row}
use Rattle.striping_laws.specs.Rows.{text_len, texts_len}
use Rattle.footer_structs.specs.FooterWriting.{footer_bytes}
use Rattle.footer_structs.specs.declared.row_groups.GroupMeta.{GroupMeta}
use Rattle.group_writing.specs.GroupChunks.{Path, chunks_size}
use Rattle.open_group.specs.declared.settings.Settings.{Settings}
use Rattle.open_group.specs.Filling.{is_full, is_full_by, rows_count, records_of}
use Rattle.open_group.specs.OpenGroups.{Open, records_in, node_of, KeepsColumn}
use Rattle.footer_structs.specs.FileEnds.{footer_limit}
use Rattle.closed_groups.specs.ClosedGroups.{Closed, meta_of, footer_size, file_meta}
use Rattle.shelf.specs.Storage.{Files, Storage, appended}
use Rattle.shelf.proofs.Appending.{get_inserted}
use Rattle.store_write.specs.Cutting.{Cut, with_row, cut_of}
use Rattle.store_write.specs.Frames.{Format, Body, begun, close, body_of}
use Rattle.store_write.specs.Made.{format, schema_of, paths_of, orders_of, chunks_of, struct_of}
use Rattle.store_write.specs.Writers.{StandsBy, StandsIn, chunks_with, closed_with, IsClosed, records_with, texts_with, is_full_with, IsKept, Pushes}
use Rattle.store_write.specs.declared.file_writer.FileWriter.{FileWriter}

-- one more row is cut
pub cut_more : {Row : Type 0} (is_full : List Row → Bool) (rows : List Row) (row : Row) → cut_of is_full (rows ++ row ∷ []) ≡ with_row is_full (cut_of is_full rows) row
unfolding cut_of
cut_more is_full rows row = fold-append (with_row is_full) (record { closed = []; rest = [] }) rows (row ∷ [])

-- one more group is closed
pub body_more : {Row Meta : Type 0} (f : Format Row Meta) (groups : List (List Row)) (group : List Row) → body_of f (groups ++ group ∷ []) ≡ close f (body_of f groups) group
unfolding body_of
body_more f groups group = fold-append (close f) (Ok begun) groups (group ∷ [])

texts_more : (rows : List (Option Json)) (row : Option Json) → texts_len (rows ++ row ∷ []) ≡ texts_len rows + (text_len row + 1)
texts_more [] row = omega arith
texts_more (r ∷ rows) row = omega (arith, texts_more rows row)

records_more : (settings : Settings) (n : Group) (rows : List (Option Json)) (row : Option Json) → records_of settings n (rows ++ row ∷ []) ≡ records_of settings n rows ++ shred_row n row settings.widths ∷ []
records_more settings n rows row = map-append (λ (r : Option Json). shred_row n r settings.widths) rows (row ∷ [])

-- the records of the rows that are left, with one more
rest_more : (g : Open) (rest : List (Option Json)) (row : Option Json) → records_in g ≡ records_of g.settings (node_of g) rest → records_with g row ≡ records_of g.settings (node_of g) (rest ++ row ∷ [])
rest_more g rest row is =
    ap (λ (rs : List RowRec). rs ++ shred_row (node_of g) row g.settings.widths ∷ []) is ∙ sym (records_more g.settings (node_of g) rest row)

-- they fill the group as the rows do
full_same : (g : Open) (rest : List (Option Json)) (row : Option Json) → records_in g ≡ records_of g.settings (node_of g) rest → g.texts ≡ texts_len rest
    → is_full g.settings (node_of g) (rest ++ row ∷ []) ≡ is_full_with g row
unfolding is_full
full_same g rest row is texts =
    let s : Settings = g.settings in
    let n : Group = node_of g in
    let records : records_with g row ≡ records_of s n (rest ++ row ∷ []) = rest_more g rest row is in
    let count : length (rest ++ row ∷ []) ≡ length (records_with g row) =
    sym (ap length records ∙ length-map (rest ++ row ∷ []) (λ (r : Option Json). shred_row n r s.widths)) in
    let sum : texts_len (rest ++ row ∷ []) ≡ texts_with g row = texts_more rest row ∙ ap (λ (k : ℕ). k + (text_len row + 1)) (sym texts) in
    ap (λ (k : ℕ). is_full_by s k (texts_len (rest ++ row ∷ [])) (rows_count n (records_of s n (rest ++ row ∷ [])))) count
    ∙ ap (λ (k : ℕ). is_full_by s (length (records_with g row)) k (rows_count n (records_of s n (rest ++ row ∷ [])))) sum
    ∙ ap (λ (rs : List RowRec). is_full_by s (length (records_with g row)) (texts_with g row) (rows_count n rs)) (sym records)

at_cut : {Row : Type 0} (b : Bool) (x y : Cut Row) → b ≡ true → cond b x y ≡ x
at_cut b x y e = ap (λ (t : Bool). cond t x y) e

off_cut : {Row : Type 0} (b : Bool) (x y : Cut Row) → b ≡ false → cond b x y ≡ y
off_cut b x y e = ap (λ (t : Bool). cond t x y) e

-- the row is kept
pub stands_kept : (g h : Open) (c d : Closed) (before after : Storage) (bytes : List ℕ) (rows : List (Option Json)) (row : Option Json) → is_full_with g row ≡ false
    → IsKept g h c d before after row → h.paths ≡ g.paths → StandsBy g.settings (node_of g) g c bytes rows → StandsBy g.settings (node_of g) h d bytes (rows ++ row ∷ [])
stands_kept g h c d before after bytes rows row full kept paths k =
    let s : Settings = g.settings in
    let n : Group = node_of g in
    let cut : Cut (Option Json) = cut_of (is_full s n) rows in
    let now : cut_of (is_full s n) (rows ++ row ∷ []) ≡ record { closed = cut.closed; rest = cut.rest ++ row ∷ [] } =
    cut_more (is_full s n) rows row ∙ off_cut (is_full s n (cut.rest ++ row ∷ [])) _ _ (full_same g cut.rest row k.rest k.texts ∙ full) in
    record {
      schema = ap (λ (x : Closed). x.schema) kept.closed ∙ k.schema;
      orders = ap (λ (x : Closed). x.orders) kept.closed ∙ k.orders;
      paths = paths ∙ k.paths;
      closed = ap (λ (x : Cut (Option Json)). body_of (format s n) x.closed) now ∙ k.closed ∙ ap (λ (x : Closed). Ok (record { bytes = bytes; metas = x.groups })) (sym kept.closed);
      rest = kept.rows ∙ rest_more g cut.rest row k.rest ∙ ap (λ (x : Cut (Option Json)). records_of s n x.rest) (sym now);
      texts = kept.texts ∙ ap (λ (j : ℕ). j + (text_len row + 1)) k.texts ∙ sym (texts_more cut.rest row) ∙ ap (λ (x : Cut (Option Json)). texts_len x.rest) (sym now);
      at_end = ap (λ (x : Closed). x.place) kept.closed ∙ k.at_end;
    }

size_is : (chunks : List (List ℕ)) → chunks_size chunks ≡ length (concat chunks)
size_is [] = refl
size_is (x ∷ xs) = omega (arith, sum_by-cons {X = List ℕ} length x xs, size_is xs, length-append x (concat xs))

within : (len : ℕ) → len ≤ footer_limit → nat_le len footer_limit ≡ true
within len h = grind (arith, nat_tests)

beyond : (len : ℕ) → footer_limit < len → nat_le len footer_limit ≡ false
beyond len h = grind (arith, nat_tests)

-- the footer, by what is kept
pub footer_same : (s : Settings) (n : Group) (c : Closed) (groups : List GroupMeta) → c.schema ≡ schema_of n → c.orders ≡ orders_of (paths_of n)
    → (format s n).footer groups ≡ footer_bytes (file_meta c.schema c.orders groups)
footer_same s n c groups schema orders =
    ap (λ (sch : List SchemaElement). footer_bytes (file_meta sch (orders_of (paths_of n)) groups)) (sym schema) ∙ ap (λ (os : List ℤ). footer_bytes (file_meta c.schema os groups)) (sym orders)

-- a group closes after others
pub body_with : (g : Open) (c : Closed) (bytes : List ℕ) (groups : List (List (Option Json))) (group : List (Option Json)) (records : List RowRec)
    → c.schema ≡ schema_of (node_of g) → c.orders ≡ orders_of (paths_of (node_of g)) → g.paths ≡ paths_of (node_of g) → c.place ≡ length bytes
    → body_of (format g.settings (node_of g)) groups ≡ Ok (record { bytes = bytes; metas = c.groups }) → records_of g.settings (node_of g) group ≡ records → footer_size (closed_with g c records) ≤ footer_limit
    → body_of (format g.settings (node_of g)) (groups ++ group ∷ []) ≡ Ok (record { bytes = bytes ++ concat (chunks_with g records); metas = (closed_with g c records).groups })
body_with g c bytes groups group records schema orders paths place before is small =
    let s : Settings = g.settings in
    let n : Group = node_of g in
    let f : Format (Option Json) GroupMeta = format s n in
    let later : List GroupMeta = (closed_with g c records).groups in
    let struct : f.meta (length bytes) group ≡ struct_of s n g.paths c.place records =
    ap (λ (rs : List RowRec). struct_of s n (paths_of n) (length bytes) rs) is ∙ ap (λ (ps : List Path). struct_of s n ps (length bytes) records) (sym paths)
    ∙ ap (λ (p : ℕ). struct_of s n g.paths p records) (sym place) in
    let metas : c.groups ++ f.meta (length bytes) group ∷ [] ≡ later = ap (λ (m : GroupMeta). c.groups ++ m ∷ []) struct in
    let footer : f.footer (c.groups ++ f.meta (length bytes) group ∷ []) ≡ footer_bytes (meta_of (closed_with g c records)) = ap f.footer metas ∙ footer_same s n c later schema orders in
    let chunks : concat (f.chunks group) ≡ concat (chunks_with g records) = ap (λ (rs : List RowRec). concat (chunks_of s n rs)) is in
    let short : nat_le (length (f.footer (c.groups ++ f.meta (length bytes) group ∷ []))) footer_limit ≡ true = within _ (subst (λ (x : List ℕ). length x ≤ footer_limit) (sym footer) small) in
    body_more f groups group ∙ ap (λ (r : Result (Body GroupMeta) ℕ). close f r group) before
    ∙ ap (λ (t : Bool). cond t (Ok (record { bytes = bytes ++ concat (f.chunks group); metas = c.groups ++ f.meta (length bytes) group ∷ [] })) (Err (length (f.footer (c.groups ++ f.meta (length bytes) group ∷ []))))) short
    ∙ ap (λ (x : List ℕ). Ok (record { bytes = bytes ++ x; metas = c.groups ++ f.meta (length bytes) group ∷ [] })) chunks
    ∙ ap (λ (ms : List GroupMeta). Ok (record { bytes = bytes ++ concat (chunks_with g records); metas = ms })) metas

-- a group doesn't close after others
pub body_long : (g : Open) (c : Closed) (bytes : List ℕ) (groups : List (List (Option Json))) (group : List (Option Json)) (records : List RowRec)
    → c.schema ≡ schema_of (node_of g) → c.orders ≡ orders_of (paths_of (node_of g)) → g.paths ≡ paths_of (node_of g) → c.place ≡ length bytes
    → body_of (format g.settings (node_of g)) groups ≡ Ok (record { bytes = bytes; metas = c.groups }) → records_of g.settings (node_of g) group ≡ records → footer_limit < footer_size (closed_with g c records)
    → body_of (format g.settings (node_of g)) (groups ++ group ∷ []) ≡ Err (footer_size (closed_with g c records))
body_long g c bytes groups group records schema orders paths place before is big =
    let s : Settings = g.settings in
    let n : Group = node_of g in
    let f : Format (Option Json) GroupMeta = format s n in
    let later : List GroupMeta = (closed_with g c records).groups in
    let struct : f.meta (length bytes) group ≡ struct_of s n g.paths c.place records =
    ap (λ (rs : List RowRec). struct_of s n (paths_of n) (length bytes) rs) is ∙ ap (λ (ps : List Path). struct_of s n ps (length bytes) records) (sym paths)
    ∙ ap (λ (p : ℕ). struct_of s n g.paths p records) (sym place) in
    let metas : c.groups ++ f.meta (length bytes) group ∷ [] ≡ later = ap (λ (m : GroupMeta). c.groups ++ m ∷ []) struct in
    let footer : f.footer (c.groups ++ f.meta (length bytes) group ∷ []) ≡ footer_bytes (meta_of (closed_with g c records)) = ap f.footer metas ∙ footer_same s n c later schema orders in
    let long : nat_le (length (f.footer (c.groups ++ f.meta (length bytes) group ∷ []))) footer_limit ≡ false = beyond _ (subst (λ (x : List ℕ). footer_limit < length x) (sym footer) big) in
    body_more f groups group ∙ ap (λ (r : Result (Body GroupMeta) ℕ). close f r group) before
    ∙ ap (λ (t : Bool). cond t (Ok (record { bytes = bytes ++ concat (f.chunks group); metas = c.groups ++ f.meta (length bytes) group ∷ [] })) (Err (length (f.footer (c.groups ++ f.meta (length bytes) group ∷ []))))) long
    ∙ ap (λ (x : List ℕ). Err (length x)) footer

-- the rows are cut so with the row that fills the group
cut_full : (g : Open) (rows : List (Option Json)) (row : Option Json) (rest : List (Option Json)) → is_full_with g row ≡ true → (cut_of (is_full g.settings (node_of g)) rows).rest ≡ rest
    → records_in g ≡ records_of g.settings (node_of g) rest → g.texts ≡ texts_len rest
    → cut_of (is_full g.settings (node_of g)) (rows ++ row ∷ []) ≡ record { closed = (cut_of (is_full g.settings (node_of g)) rows).closed ++ ((cut_of (is_full g.settings (node_of g)) rows).rest ++ row ∷ []) ∷ []; rest = [] }
cut_full g rows row rest full is records texts =
    cut_more (is_full g.settings (node_of g)) rows row
    ∙ at_cut (is_full g.settings (node_of g) ((cut_of (is_full g.settings (node_of g)) rows).rest ++ row ∷ [])) _ _
    (ap (λ (r : List (Option Json)). is_full g.settings (node_of g) (r ++ row ∷ [])) is ∙ full_same g rest row records texts ∙ full)

-- the chunks of the group that closes with the row follow those before
pub closed_pushed : (g : Open) (c : Closed) (bytes : List ℕ) (rows : List (Option Json)) (row : Option Json) → is_full_with g row ≡ true → footer_size (closed_with g c (records_with g row)) ≤ footer_limit
    → StandsBy g.settings (node_of g) g c bytes rows
    → body_of (format g.settings (node_of g)) (cut_of (is_full g.settings (node_of g)) (rows ++ row ∷ [])).closed
    ≡ Ok (record { bytes = bytes ++ concat (chunks_with g (records_with g row)); metas = (closed_with g c (records_with g row)).groups })
closed_pushed g c bytes rows row full short k =
    let cut : Cut (Option Json) = cut_of (is_full g.settings (node_of g)) rows in
    ap (λ (x : Cut (Option Json)). body_of (format g.settings (node_of g)) x.closed) (cut_full g rows row cut.rest full refl k.rest k.texts)
    ∙ body_with g c bytes cut.closed (cut.rest ++ row ∷ []) (records_with g row) k.schema k.orders k.paths k.at_end k.closed (sym (rest_more g cut.rest row k.rest)) short

-- the footer would be too long with that group
pub long_pushed : (g : Open) (c : Closed) (bytes : List ℕ) (rows : List (Option Json)) (row : Option Json) → is_full_with g row ≡ true → footer_limit < footer_size (closed_with g c (records_with g row))
    → StandsBy g.settings (node_of g) g c bytes rows
    → body_of (format g.settings (node_of g)) (cut_of (is_full g.settings (node_of g)) (rows ++ row ∷ [])).closed ≡ Err (footer_size (closed_with g c (records_with g row)))
long_pushed g c bytes rows row full long k =
    let cut : Cut (Option Json) = cut_of (is_full g.settings (node_of g)) rows in
    ap (λ (x : Cut (Option Json)). body_of (format g.settings (node_of g)) x.closed) (cut_full g rows row cut.rest full refl k.rest k.texts)
    ∙ body_long g c bytes cut.closed (cut.rest ++ row ∷ []) (records_with g row) k.schema k.orders k.paths k.at_end k.closed (sym (rest_more g cut.rest row k.rest)) long

-- the group closes with the row
pub stands_closed : (name : List ℕ) (g h : Open) (c d : Closed) (before after : Storage) (bytes : List ℕ) (rows : List (Option Json)) (row : Option Json) → is_full_with g row ≡ true
    → IsClosed name g h c d before after (records_with g row) → h.paths ≡ g.paths → StandsBy g.settings (node_of g) g c bytes rows
    → StandsBy g.settings (node_of g) h d (bytes ++ concat (chunks_with g (records_with g row))) (rows ++ row ∷ [])
stands_closed name g h c d before after bytes rows row full done paths k =
    let s : Settings = g.settings in
    let n : Group = node_of g in
    let cut : Cut (Option Json) = cut_of (is_full s n) rows in
    let group : List (Option Json) = cut.rest ++ row ∷ [] in
    let more : List ℕ = concat (chunks_with g (records_with g row)) in
    let now : cut_of (is_full s n) (rows ++ row ∷ []) ≡ record { closed = cut.closed ++ group ∷ []; rest = [] } =
    cut_more (is_full s n) rows row ∙ at_cut (is_full s n group) _ _ (full_same g cut.rest row k.rest k.texts ∙ full) in
    let body : body_of (format s n) (cut.closed ++ group ∷ []) ≡ Ok (record { bytes = bytes ++ more; metas = d.groups }) =
    body_with g c bytes cut.closed group (records_with g row) k.schema k.orders k.paths k.at_end k.closed (sym (rest_more g cut.rest row k.rest)) done.short
    ∙ ap (λ (x : Closed). Ok (record { bytes = bytes ++ more; metas = x.groups })) (sym done.closed) in
    record {
      schema = ap (λ (x : Closed). x.schema) done.closed ∙ k.schema;
      orders = ap (λ (x : Closed). x.orders) done.closed ∙ k.orders;
      paths = paths ∙ k.paths;
      closed = ap (λ (x : Cut (Option Json)). body_of (format s n) x.closed) now ∙ body;
      rest = ap (λ (rs : List RowRecord). map row_rec_of rs) done.rows ∙ ap (λ (x : Cut (Option Json)). records_of s n x.rest) (sym now);
      texts = done.texts ∙ ap (λ (x : Cut (Option Json)). texts_len x.rest) (sym now);
      at_end = ap (λ (x : Closed). x.place) done.closed ∙ omega (arith, k.at_end, size_is (chunks_with g (records_with g row)), length-append bytes more);
    }

-- the same of another writer of the same column and choices
pub stands_on : (g h : Open) (c d : Closed) (bytes : List ℕ) (rows : List (Option Json)) → KeepsColumn g h → StandsBy g.settings (node_of g) h d bytes rows → StandsBy h.settings (node_of h) h d bytes rows
stands_on g h c d bytes rows keeps k =
    subst (λ (s : Settings). StandsBy s (node_of h) h d bytes rows) (sym keeps.settings)
    (subst (λ (x : Column). StandsBy g.settings (group_of x.node) h d bytes rows) (sym keeps.column) k)

-- a file that was there, with more bytes
pub grown : (m : Files) (name bytes more : List ℕ) → get m name ≡ Some bytes → get (insert m name (unwrap_or (get m name) [] ++ more)) name ≡ Some (bytes ++ more)
grown m name bytes more there =
    get_inserted m name (unwrap_or (get m name) [] ++ more) ∙ ap (λ (o : Option (List ℕ)). Some (unwrap_or o [] ++ more)) there

pub stands_pushed : (w v : FileWriter) (before after : Storage) (row : Option Json) (rows : List (Option Json)) → Pushes w.name w.open v.open w.closed v.closed before after row (Ok tt)
    → KeepsColumn w.open v.open → v.name ≡ w.name → v.broken ≡ w.broken → StandsIn before.files w rows → StandsIn after.files v (rows ++ row ∷ [])
stands_pushed w v before after row rows pushes keeps name broken stands = by (is_full_with w.open row) refl before.files refl pushes stands
  where
    by : (full : Bool) → is_full_with w.open row ≡ full → (files : Option Files) → before.files ≡ files
        → MatchBool full (IsClosed w.name w.open v.open w.closed v.closed before after (records_with w.open row)) (IsKept w.open v.open w.closed v.closed before after row)
        → StandsIn files w rows → StandsIn after.files v (rows ++ row ∷ [])
    by true full None files done k = subst (λ (o : Option Files). StandsIn o v (rows ++ row ∷ [])) (sym (ap (λ (s : Storage). s.files) done.added ∙ ap (λ (o : Option Files). appended o w.name (concat (chunks_with w.open (records_with w.open row)))) files)) tt
    by true full (Some m) files done k =
        let more : List ℕ = concat (chunks_with w.open (records_with w.open row)) in
        subst (λ (o : Option Files). StandsIn o v (rows ++ row ∷ [])) (sym (ap (λ (s : Storage). s.files) done.added ∙ ap (λ (o : Option Files). appended o w.name more) files)) (
          k.0 ++ more,
          ap (get (insert m w.name (unwrap_or (get m w.name) [] ++ more))) name ∙ grown m w.name k.0 more k.1,
          record {
            whole = broken ∙ k.2.whole;
            stands = stands_on w.open v.open w.closed v.closed (k.0 ++ more) (rows ++ row ∷ []) keeps
                (stands_closed w.name w.open v.open w.closed v.closed before after k.0 rows row full done keeps.paths k.2.stands);
          },
        )
    by false full None files kept k = subst (λ (o : Option Files). StandsIn o v (rows ++ row ∷ [])) (sym (ap (λ (s : Storage). s.files) kept.same ∙ files)) tt
    by false full (Some m) files kept k =
        subst (λ (o : Option Files). StandsIn o v (rows ++ row ∷ [])) (sym (ap (λ (s : Storage). s.files) kept.same ∙ files)) (
          k.0,
          ap (get m) name ∙ k.1,
          record {
            whole = broken ∙ k.2.whole;
            stands = stands_on w.open v.open w.closed v.closed k.0 (rows ++ row ∷ []) keeps (stands_kept w.open v.open w.closed v.closed before after k.0 rows row full kept keeps.paths k.2.stands);
          },
        )
