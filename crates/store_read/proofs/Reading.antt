-- What is read of a file in parts: what each part says adds up.
use Rattle.std.proofs.Common.{◌≡◌, ◌∙◌, refl, sym, ap, subst, ℕ, List, [], ◌∷◌, ◌++◌, Option, None, Result, Ok, Err, append_assoc, append-nil}
use Rattle.vs_bytes.specs.Numbers.{part}
use Rattle.vs_bytes.specs.Outcome.{◌>>=◌}
use Rattle.shelf.specs.Storage.{Storage, FailsRead}
use Rattle.shelf.specs.Calls.{IsCounted, with_range, with_ranges}
use Rattle.shelf.specs.declared.byte_range.ByteRange.{ByteRange}
use Rattle.vs_bytes.specs.declared.leaf_columns.Entry.{Entry}
use Rattle.vs_bytes.specs.declared.leaf_columns.Leaf.{Leaf}
use Rattle.vs_bytes.specs.declared.rule.Rule.{Rule}
use Rattle.vs_bytes.specs.declared.rule.Rule.TheVariants as rule
use Rattle.thrift_structs.specs.ChunkRanges.{chunk_range}
use Rattle.thrift_structs.specs.declared.column_chunks.ChunkMeta.{ChunkMeta}
use Rattle.footer_structs.specs.declared.row_groups.GroupMeta.{GroupMeta}
use Rattle.file_columns.specs.declared.columns.FileColumn.{FileColumn}
use Rattle.group_reading.specs.ChunkEntries.{chunk_entries}
use Rattle.group_reading.specs.declared.group_faults.GroupFault.{GroupFault}
use Rattle.store_read.specs.FileGroups.{values_in, chunk_seen, range_in, chunk_plan, leaf_at, chunk_at, rows_in, with_chunk, nth_seen, nth_plan}
use Rattle.store_read.specs.Ranges.{IsFile, OfFile, Asks, AsksFirst, FailsAt, Gives, Refuses, ReadsFile}
use Rattle.store_read.specs.declared.read_stop.ReadStop.{ReadStop}
use Rattle.store_read.specs.declared.read_stop.ReadStop.TheVariants.{Violated, Failed, NoMemory}

-- no range was asked for
pub no_ranges : (s : Storage) → s ≡ with_ranges s []
no_ranges s = ap (λ ranges. record s { touched = ranges }) (sym (append-nil s.touched))

pub asks_none : (s : Storage) (plan : List ByteRange) → AsksFirst s s plan
asks_none s plan = record { front = []; rest = plan; planned = refl; asked = no_ranges s }

pub asks_all : (before after : Storage) (plan : List ByteRange) → Asks before after plan → AsksFirst before after plan
asks_all before after plan asks = record { front = plan; rest = []; planned = append-nil plan; asked = asks.asked }

-- the read of a range failed
pub fails_one : (before after : Storage) (range : ByteRange) → FailsRead before.counts after.counts → IsCounted (with_range before range) after → FailsAt before after (range ∷ [])
fails_one before after range failed asked = record { front = []; last = range; rest = []; planned = refl; failed = failed; asked = asked }

-- ranges that were asked for one after the other
pub ranges_on : (before now : Storage) (front more : List ByteRange) → now ≡ with_ranges before front → with_ranges now more ≡ with_ranges before (front ++ more)
ranges_on before now front more asked = ap (λ (s : Storage). with_ranges s more) asked ∙ ap (λ ranges. record before { touched = ranges }) (append_assoc before.touched front more)

pub asked_on : (before now new : Storage) (front more : List ByteRange) → now ≡ with_ranges before front → new ≡ with_ranges now more → new ≡ with_ranges before (front ++ more)
asked_on before now new front more asked again = again ∙ ranges_on before now front more asked

-- One chunk.

chunk_defined : (end rows : ℕ) (leaf : Leaf) (chunk : ChunkMeta) (file : List ℕ) (found : Result (ℕ × ℕ) Rule) → chunk_range chunk leaf end ≡ found → chunk_seen end rows leaf chunk file ≡ (found >>= λ range. chunk_entries leaf (values_in chunk.meta_data) rows (part file range.0 range.1))
unfolding chunk_seen
chunk_defined end rows leaf chunk file found is = ap (λ (r : Result (ℕ × ℕ) Rule). r >>= λ range. chunk_entries leaf (values_in chunk.meta_data) rows (part file range.0 range.1)) is

chunk_planned : (name : List ℕ) (end : ℕ) (leaf : Leaf) (chunk : ChunkMeta) (found : Result (ℕ × ℕ) Rule) → chunk_range chunk leaf end ≡ found → chunk_plan name end leaf chunk ≡ range_in name found
unfolding chunk_plan
chunk_planned name end leaf chunk found is = ap (range_in name) is

pub chunk_refused : (s : Storage) (name : List ℕ) (end rows : ℕ) (leaf : Leaf) (chunk : ChunkMeta) (broken : Rule) → chunk_range chunk leaf end ≡ Err broken → Refuses s s name (chunk_plan name end leaf chunk) (λ file. chunk_seen end rows leaf chunk file ≡ Err broken)
chunk_refused s name end rows leaf chunk broken is = record {
  of_file = λ file known. chunk_defined end rows leaf chunk file (Err broken) is;
  asks = asks_none s (chunk_plan name end leaf chunk);
}

pub chunk_read : (before after : Storage) (name : List ℕ) (end rows values : ℕ) (leaf : Leaf) (chunk : ChunkMeta) (range : ℕ × ℕ) (result : Result (List Entry) (ReadStop Rule)) → chunk_range chunk leaf end ≡ Ok range → values ≡ values_in chunk.meta_data →
    ReadsFile (λ entries. entries) before after name (record { name = name; at = range.0; size = range.1 } ∷ []) (λ file. chunk_entries leaf values rows (part file range.0 range.1)) result →
    ReadsFile (λ entries. entries) before after name (chunk_plan name end leaf chunk) (chunk_seen end rows leaf chunk) result
chunk_read before after name end rows values leaf chunk range result is count read =
    subst (λ (plan : List ByteRange). ReadsFile (λ (entries : List Entry). entries) before after name plan (chunk_seen end rows leaf chunk) result) (sym (chunk_planned name end leaf chunk (Ok range) is))
    (subst (λ (defined : List ℕ → Result (List Entry) Rule). ReadsFile (λ (entries : List Entry). entries) before after name (record { name = name; at = range.0; size = range.1 } ∷ []) defined result) same read)
  where
    each : (file : List ℕ) → chunk_entries leaf values rows (part file range.0 range.1) ≡ chunk_seen end rows leaf chunk file
    each file = ap (λ n. chunk_entries leaf n rows (part file range.0 range.1)) count ∙ sym (chunk_defined end rows leaf chunk file (Ok range) is)

    same : (λ (file : List ℕ). chunk_entries leaf values rows (part file range.0 range.1)) ≡ chunk_seen end rows leaf chunk
    same = λ i file. each file i

pub nth_missing : (s : Storage) (name : List ℕ) (end : ℕ) (column : FileColumn) (group : GroupMeta) (j : ℕ) → chunk_at column group j ≡ None → Refuses s s name (nth_plan name end column group j) (λ file. nth_seen end column group j file ≡ Err rule.FooterField)
unfolding nth_seen
nth_missing s name end column group j none = record {
  of_file = λ file known. ap (λ (chunk : Option ChunkMeta). with_chunk chunk (λ chunk. chunk_seen end (rows_in group) (leaf_at column j) chunk file)) none;
  asks = asks_none s (nth_plan name end column group j);
}

-- A walk over the leaves of a group.

-- entries of leaves that were read, before those that are still to come
abbrev pub put_before : List (List Entry) → Result (List (List Entry)) GroupFault → Result (List (List Entry)) GroupFault
put_before found left = left >>= λ later. Ok (found ++ later)

pub record Walk (before now : Storage) (name : List ℕ) (plan rest : List ByteRange) (defined left : List ℕ → Result (List (List Entry)) GroupFault) (found : List (List Entry)) : Type 0 where
  pub front : List ByteRange
  pub planned : front ++ rest ≡ plan
  pub asked : now ≡ with_ranges before front
  pub ahead : OfFile before name (λ file. defined file ≡ put_before found (left file))

none_before : (left : Result (List (List Entry)) GroupFault) → left ≡ put_before [] left
none_before (Ok later) = refl
none_before (Err fault) = refl

pub walk_begins : (s : Storage) (name : List ℕ) (plan : List ByteRange) (defined : List ℕ → Result (List (List Entry)) GroupFault) → Walk s s name plan plan defined defined []
walk_begins s name plan defined = record { front = []; planned = refl; asked = no_ranges s; ahead = λ file known. none_before (defined file) }

-- what is known of the file later was known before
known_before : (before now : Storage) (name : List ℕ) (front : List ByteRange) (P : List ℕ → Type 0) → now ≡ with_ranges before front → OfFile now name P → OfFile before name P
known_before before now name front P asked holds file known = holds file (subst (λ (s : Storage). IsFile s.files name file) (sym asked) known)

-- the next leaf, and those after it
abbrev pub one_leaf : Result (List Entry) GroupFault → Result (List (List Entry)) GroupFault → Result (List (List Entry)) GroupFault
one_leaf step later = step >>= λ entries. later >>= λ rest. Ok (entries ∷ rest)

one_more : (found : List (List Entry)) (entries : List Entry) (later : Result (List (List Entry)) GroupFault) → put_before found (one_leaf (Ok entries) later) ≡ put_before (found ++ entries ∷ []) later
one_more found entries (Ok rest) = ap (λ (xs : List (List Entry)). Ok xs) (sym (append_assoc found (entries ∷ []) rest))
one_more found entries (Err fault) = refl

pub walk_goes : (before now new : Storage) (name : List ℕ) (plan first rest : List ByteRange) (defined left later : List ℕ → Result (List (List Entry)) GroupFault) (step : List ℕ → Result (List Entry) GroupFault) (found more : List (List Entry)) (entries : List Entry) →
    Walk before now name plan (first ++ rest) defined left found → ((file : List ℕ) → left file ≡ one_leaf (step file) (later file)) →
    Gives now new name first (λ file. step file ≡ Ok entries) → more ≡ found ++ entries ∷ [] → Walk before new name plan rest defined later more
walk_goes before now new name plan first rest defined left later step found more entries walk cut gives is = record {
  front = walk.front ++ first;
  planned = append_assoc walk.front first rest ∙ walk.planned;
  asked = asked_on before now new walk.front first walk.asked gives.asks.asked;
  ahead = λ file known.
      walk.ahead file known
      ∙ (ap (put_before found) (cut file ∙ ap (λ (s : Result (List Entry) GroupFault). one_leaf s (later file)) (known_before before now name walk.front (λ f. step f ≡ Ok entries) walk.asked gives.of_file file known))
      ∙ (one_more found entries (later file) ∙ ap (λ (xs : List (List Entry)). put_before xs (later file)) (sym is)));
}

pub walk_part : (before now : Storage) (name : List ℕ) (plan rest : List ByteRange) (defined left : List ℕ → Result (List (List Entry)) GroupFault) (found : List (List Entry)) → Walk before now name plan rest defined left found → AsksFirst before now plan
walk_part before now name plan rest defined left found walk = record { front = walk.front; rest = rest; planned = walk.planned; asked = walk.asked }

-- what was asked for in a step, after what was asked for before
pub first_on : (before now new : Storage) (plan first rest front : List ByteRange) → front ++ (first ++ rest) ≡ plan → now ≡ with_ranges before front → AsksFirst now new first → AsksFirst before new plan
first_on before now new plan first rest front planned asked step = record {
  front = front ++ step.front;
  rest = step.rest ++ rest;
  planned = append_assoc front step.front (step.rest ++ rest) ∙ (ap (λ xs. front ++ xs) (sym (append_assoc step.front step.rest rest) ∙ ap (λ xs. xs ++ rest) step.planned) ∙ planned);
  asked = asked_on before now new front step.front asked step.asked;
}

pub fails_on : (before now new : Storage) (plan first rest front : List ByteRange) → front ++ (first ++ rest) ≡ plan → now ≡ with_ranges before front → FailsAt now new first → FailsAt before new plan
fails_on before now new plan first rest front planned asked step =
    let last : List ByteRange = step.last ∷ [] in
    let later : List ByteRange = step.last ∷ step.rest in
    record {
      front = front ++ step.front;
      last = step.last;
      rest = step.rest ++ rest;
      planned = append_assoc front step.front (later ++ rest) ∙ (ap (λ xs. front ++ xs) (sym (append_assoc step.front later rest) ∙ ap (λ xs. xs ++ rest) step.planned) ∙ planned);
      failed = subst (λ (s : Storage). FailsRead s.counts new.counts) asked step.failed;
      asked = step.asked ∙ ap (λ (s : Storage). record s { counts = new.counts }) (ranges_on before now front (step.front ++ last) asked ∙ ap (with_ranges before) (sym (append_assoc front step.front last)));
    }

pub walk_stops : (before now new : Storage) (name : List ℕ) (plan first rest : List ByteRange) (defined left later : List ℕ → Result (List (List Entry)) GroupFault) (step : List ℕ → Result (List Entry) GroupFault) (found : List (List Entry)) (stop : ReadStop GroupFault) →
    Walk before now name plan (first ++ rest) defined left found → ((file : List ℕ) → left file ≡ one_leaf (step file) (later file)) →
    ReadsFile {A = List Entry} {B = List Entry} (λ entries. entries) now new name first step (Err stop) →
    ReadsFile {A = List (List Entry)} {B = List (List Entry)} (λ leaves. leaves) before new name plan defined (Err stop)
walk_stops before now new name plan first rest defined left later step found (Violated fault) walk cut stops = record {
  of_file = λ file known.
      walk.ahead file known
      ∙ ap (put_before found) (cut file ∙ ap (λ (s : Result (List Entry) GroupFault). one_leaf s (later file)) (known_before before now name walk.front (λ f. step f ≡ Err fault) walk.asked stops.of_file file known));
  asks = first_on before now new plan first rest walk.front walk.planned walk.asked stops.asks;
}
walk_stops before now new name plan first rest defined left later step found Failed walk cut stops = fails_on before now new plan first rest walk.front walk.planned walk.asked stops
walk_stops before now new name plan first rest defined left later step found NoMemory walk cut stops = first_on before now new plan first rest walk.front walk.planned walk.asked stops

pub walk_ends : (before now : Storage) (name : List ℕ) (plan rest : List ByteRange) (defined left : List ℕ → Result (List (List Entry)) GroupFault) (found : List (List Entry)) →
    Walk before now name plan rest defined left found → rest ≡ [] → ((file : List ℕ) → left file ≡ Ok []) → Gives before now name plan (λ file. defined file ≡ Ok found)
walk_ends before now name plan rest defined left found walk none done = record {
  of_file = λ file known. walk.ahead file known ∙ (ap (put_before found) (done file) ∙ ap (λ (xs : List (List Entry)). Ok xs) (append-nil found));
  asks = record { asked = walk.asked ∙ ap (with_ranges before) (sym (append-nil walk.front) ∙ (ap (λ xs. walk.front ++ xs) (sym none) ∙ walk.planned)) };
}
