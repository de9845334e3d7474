-- The end of a file.
use Rattle.std.proofs.Common.{◌≡◌, ◌∙◌, ℕ, ◌<◌, List, [], ◌∷◌, ◌++◌, length, Option, None, Some, Result, Ok, Err, inl, inr, sym, ap, subst, refl, arith, append-nil, append_assoc}
use Rattle.std.specs.List.{concat}
use Rattle.std.proofs.lemmas.List.{length-append, take-append-le}
use Rattle.std.proofs.Math.Seq.{take-append_seam}
use Rattle.shred_schema.specs.Recs.{RowRec}
use Rattle.footer_structs.specs.FooterWriting.{footer_bytes}
use Rattle.json_tree.specs.Json.{Json}
use Rattle.footer_structs.specs.declared.row_groups.GroupMeta.{GroupMeta}
use Rattle.open_group.specs.Filling.{is_full, records_of}
use Rattle.open_group.specs.OpenGroups.{Open, records_in, node_of}
use Rattle.store_write.specs.Cutting.{Cut, cut_of, with_last}
use Rattle.store_write.specs.Frames.{Body, body_of, with_ending}
use Rattle.store_write.specs.Made.{format, made}
use Rattle.store_write.proofs.Standing.{footer_same, body_with, body_long, grown}
use Rattle.store_write.specs.declared.file_writer.FileWriter.{FileWriter}
use Rattle.footer_structs.specs.FileEnds.{footer_limit}
use Rattle.closed_groups.specs.ClosedGroups.{Closed, meta_of, ending_of, footer_size}
use Rattle.shelf.specs.Storage.{Files, Storage, Has, appended}
use Rattle.shelf.specs.Calls.{Adds}
use Rattle.shelf.specs.declared.shelf.ShelfError.{ShelfError}
use Rattle.shelf.specs.declared.shelf.ShelfError.TheVariants as shelf
use Rattle.shelf.proofs.Appending.{has_appended}
use Rattle.shelf.proofs.Adding.{adds_later, adds_more}
use Rattle.store_write.specs.Writers.{chunks_with, closed_with, IsClosed, Closes, left_closed, end_bytes, IsShortEnd, EndsWith, Finishes, StandsBy, StandsIn, MadeIn, settings_in, node_in}
use Rattle.store_write.specs.declared.write_error.First.{First}
use Rattle.store_write.specs.declared.write_error.First.TheVariants as first

-- the file is there after its chunks were added
pub there_closed : (name : List ℕ) (g h : Open) (c d : Closed) (before after : Storage) (records : List RowRec) → IsClosed name g h c d before after records → Has after.files name
there_closed name g h c d before after records done =
    subst (λ (s : Storage). Has s.files name) (sym done.added) (has_appended before.files name (concat (chunks_with g records)))

-- a refusal on a front of some bytes is one on all of them
later : (first before after : Storage) (name done part : List ℕ) (e : ShelfError) → before ≡ record first { files = appended first.files name done } → Adds before after name part (Err e)
    → Adds first after name (done ++ part) (Err e)
later first before after name done part e is adds =
    subst (λ (s : List ℕ). Adds first after name s (Err e)) (ap (λ (s : List ℕ). done ++ s) (append-nil part)) (adds_later first before after name done part [] e is adds)

-- bytes were added, and then there was no memory for the rest
stopped : (first after : Storage) (name done part : List ℕ) → after ≡ record first { files = appended first.files name done } → Adds first after name (done ++ part) (Err shelf.NoMemory)
stopped first after name done part is =
    (length done, omega (arith, length-append done part), is ∙ ap (λ (s : List ℕ). record first { files = appended first.files name s }) (sym (take-append_seam done part)))

-- the group of the rows that are left closes, and then the footer is added, or not
pub finishes_closed : (name : List ℕ) (g h : Open) (c d : Closed) (before mid after : Storage) (records : List RowRec) (r : Result (Unit {0}) First) → 0 < length records
    → IsClosed name g h c d before mid records → EndsWith name (ending_of (footer_bytes (meta_of d))) mid after r → Finishes name g c records before after r
finishes_closed name g h c d before mid after [] r some done ends = absurd (omega arith)
finishes_closed name g h c d before mid after (x ∷ xs) r some done ends =
    by r (subst (λ (y : Closed). EndsWith name (ending_of (footer_bytes (meta_of y))) mid after r) done.closed ends)
  where
    by : (r : Result (Unit {0}) First) → EndsWith name (ending_of (footer_bytes (meta_of (closed_with g c (x ∷ xs))))) mid after r → Finishes name g c (x ∷ xs) before after r
    by (Ok u) e = (adds_more before mid after name (concat (chunks_with g (x ∷ xs))) (ending_of (footer_bytes (meta_of (closed_with g c (x ∷ xs))))) done.added e, done.short)
    by (Err first.Failed) e = (done.short, later before mid after name (concat (chunks_with g (x ∷ xs))) (ending_of (footer_bytes (meta_of (closed_with g c (x ∷ xs))))) shelf.Failed done.added e)
    by (Err (first.FooterFull len)) e = absurd e
    by (Err first.NoMemory) e =
        elim e [
          | inl same ↦ inr (done.short, stopped before after name (concat (chunks_with g (x ∷ xs))) (ending_of (footer_bytes (meta_of (closed_with g c (x ∷ xs))))) (same ∙ done.added))
          | inr part ↦ inr (done.short, later before mid after name (concat (chunks_with g (x ∷ xs))) (ending_of (footer_bytes (meta_of (closed_with g c (x ∷ xs))))) shelf.NoMemory done.added part)
        ]

-- a front of a front: the group of the rows that are left doesn't close
front : (before after : Storage) (name part rest : List ℕ) (e : ShelfError) → Adds before after name part (Err e) → Adds before after name (part ++ rest) (Err e)
front before after name part rest shelf.Absent h = h
front before after name part rest shelf.Taken h = h
front before after name part rest shelf.Failed h = (
  h.0,
  omega (arith, h.1, length-append part rest),
  h.2,
  h.3 ∙ ap (λ (s : List ℕ). record before { files = appended before.files name s; counts = after.counts }) (sym (take-append-le h.0 part rest h.1)),
)
front before after name part rest shelf.NoMemory h =
    (h.0, omega (arith, h.1, length-append part rest), h.2 ∙ ap (λ (s : List ℕ). record before { files = appended before.files name s }) (sym (take-append-le h.0 part rest h.1)))

pub finishes_refused : (name : List ℕ) (g h : Open) (c d : Closed) (before after : Storage) (records : List RowRec) (e : First) → 0 < length records
    → Closes name g h c d before after records (Err e) → Finishes name g c records before after (Err e)
finishes_refused name g h c d before after [] e some closes = absurd (omega arith)
finishes_refused name g h c d before after (x ∷ xs) first.Failed some closes =
    (closes.0, front before after name (concat (chunks_with g (x ∷ xs))) (ending_of (footer_bytes (meta_of (closed_with g c (x ∷ xs))))) shelf.Failed closes.1)
finishes_refused name g h c d before after (x ∷ xs) (first.FooterFull len) some closes = (some, closes.0, closes.1, closes.2)
finishes_refused name g h c d before after (x ∷ xs) first.NoMemory some closes =
    elim closes [
      | inl same ↦ inl same
      | inr part ↦ inr (part.0, front before after name (concat (chunks_with g (x ∷ xs))) (ending_of (footer_bytes (meta_of (closed_with g c (x ∷ xs))))) shelf.NoMemory part.1)
    ]

-- no rows are left
pub finishes_alone : (name : List ℕ) (g : Open) (c : Closed) (before after : Storage) (records : List RowRec) (r : Result (Unit {0}) First) → length records ≡ 0
    → EndsWith name (ending_of (footer_bytes (meta_of c))) before after r → Finishes name g c records before after r
finishes_alone name g c before after (x ∷ xs) r none ends = absurd (omega arith)
finishes_alone name g c before after [] (Ok u) none ends = (ends, tt)
finishes_alone name g c before after [] (Err first.Failed) none ends = (tt, ends)
finishes_alone name g c before after [] (Err (first.FooterFull len)) none ends = absurd ends
finishes_alone name g c before after [] (Err first.NoMemory) none ends = elim ends [ inl same ↦ inl same | inr part ↦ inr (tt, part) ]

-- The file of the rows.

made_by : (g : Open) (c : Closed) (bytes : List ℕ) (rows : List (Option Json)) (cut : Cut (Option Json)) → cut_of (is_full g.settings (node_of g)) rows ≡ cut → StandsBy g.settings (node_of g) g c bytes rows
    → IsShortEnd g c (records_of g.settings (node_of g) cut.rest)
    → with_ending (format g.settings (node_of g)) (body_of (format g.settings (node_of g)) (with_last cut.closed cut.rest)) ≡ Ok (bytes ++ end_bytes g c (records_of g.settings (node_of g) cut.rest))
made_by g c bytes rows cut is k short = by cut.rest refl short
  where
    closed_is : body_of (format g.settings (node_of g)) cut.closed ≡ Ok (record { bytes = bytes; metas = c.groups })
    closed_is = ap (λ (x : Cut (Option Json)). body_of (format g.settings (node_of g)) x.closed) (sym is) ∙ k.closed

    by : (rest : List (Option Json)) → cut.rest ≡ rest → IsShortEnd g c (records_of g.settings (node_of g) rest)
        → with_ending (format g.settings (node_of g)) (body_of (format g.settings (node_of g)) (with_last cut.closed rest)) ≡ Ok (bytes ++ end_bytes g c (records_of g.settings (node_of g) rest))
    by [] e small =
        ap (λ (r : Result (Body GroupMeta) ℕ). with_ending (format g.settings (node_of g)) r) closed_is
        ∙ ap (λ (x : List ℕ). Ok (bytes ++ ending_of x)) (footer_same g.settings (node_of g) c c.groups k.schema k.orders)
    by (x ∷ xs) e small =
        let records : List RowRec = records_of g.settings (node_of g) (x ∷ xs) in
        let chunks : List ℕ = concat (chunks_with g records) in
        ap (λ (r : Result (Body GroupMeta) ℕ). with_ending (format g.settings (node_of g)) r) (body_with g c bytes cut.closed (x ∷ xs) records k.schema k.orders k.paths k.at_end closed_is refl small)
        ∙ ap (λ (x : List ℕ). Ok ((bytes ++ chunks) ++ ending_of x)) (footer_same g.settings (node_of g) c (closed_with g c records).groups k.schema k.orders)
        ∙ ap Ok (append_assoc bytes chunks (ending_of (footer_bytes (meta_of (closed_with g c records)))))

-- what stands, with its end, is the file of the rows
pub made_is : (g : Open) (c : Closed) (bytes : List ℕ) (rows : List (Option Json)) → StandsBy g.settings (node_of g) g c bytes rows → IsShortEnd g c (records_in g)
    → made g.settings (node_of g) rows ≡ Ok (bytes ++ end_bytes g c (records_in g))
made_is g c bytes rows k short =
    let cut : Cut (Option Json) = cut_of (is_full g.settings (node_of g)) rows in
    made_by g c bytes rows cut refl k (subst (λ (rs : List RowRec). IsShortEnd g c rs) k.rest short) ∙ ap (λ (rs : List RowRec). Ok (bytes ++ end_bytes g c rs)) (sym k.rest)

long_by : (g : Open) (c : Closed) (bytes : List ℕ) (rows : List (Option Json)) (cut : Cut (Option Json)) → cut_of (is_full g.settings (node_of g)) rows ≡ cut → StandsBy g.settings (node_of g) g c bytes rows
    → 0 < length (records_of g.settings (node_of g) cut.rest) → footer_limit < footer_size (left_closed g c (records_of g.settings (node_of g) cut.rest))
    → with_ending (format g.settings (node_of g)) (body_of (format g.settings (node_of g)) (with_last cut.closed cut.rest)) ≡ Err (footer_size (left_closed g c (records_of g.settings (node_of g) cut.rest)))
long_by g c bytes rows cut is k some long = by cut.rest some long
  where
    closed_is : body_of (format g.settings (node_of g)) cut.closed ≡ Ok (record { bytes = bytes; metas = c.groups })
    closed_is = ap (λ (x : Cut (Option Json)). body_of (format g.settings (node_of g)) x.closed) (sym is) ∙ k.closed

    by : (rest : List (Option Json)) → 0 < length (records_of g.settings (node_of g) rest) → footer_limit < footer_size (left_closed g c (records_of g.settings (node_of g) rest))
        → with_ending (format g.settings (node_of g)) (body_of (format g.settings (node_of g)) (with_last cut.closed rest)) ≡ Err (footer_size (left_closed g c (records_of g.settings (node_of g) rest)))
    by [] some long = absurd (omega (arith, some))
    by (x ∷ xs) some long =
        ap (λ (r : Result (Body GroupMeta) ℕ). with_ending (format g.settings (node_of g)) r)
        (body_long g c bytes cut.closed (x ∷ xs) (records_of g.settings (node_of g) (x ∷ xs)) k.schema k.orders k.paths k.at_end closed_is refl long)

-- with the group of the rows that are left the footer would be too long
pub made_long : (g : Open) (c : Closed) (bytes : List ℕ) (rows : List (Option Json)) → StandsBy g.settings (node_of g) g c bytes rows → 0 < length (records_in g) → footer_limit < footer_size (left_closed g c (records_in g))
    → made g.settings (node_of g) rows ≡ Err (footer_size (left_closed g c (records_in g)))
made_long g c bytes rows k some long =
    let cut : Cut (Option Json) = cut_of (is_full g.settings (node_of g)) rows in
    long_by g c bytes rows cut refl k (subst (λ (rs : List RowRec). 0 < length rs) k.rest some) (subst (λ (rs : List RowRec). footer_limit < footer_size (left_closed g c rs)) k.rest long)
    ∙ ap (λ (rs : List RowRec). Err (footer_size (left_closed g c rs))) (sym k.rest)

pub made_in : (w : FileWriter) (before after : Storage) (rows : List (Option Json)) → Finishes w.name w.open w.closed (records_in w.open) before after (Ok tt) → StandsIn before.files w rows
    → MadeIn after.files w.name (settings_in w) (node_in w) rows
made_in w before after rows ends stands = by before.files refl stands
  where
    by : (files : Option Files) → before.files ≡ files → StandsIn files w rows → MadeIn after.files w.name (settings_in w) (node_in w) rows
    by None is k = subst (λ (o : Option Files). MadeIn o w.name (settings_in w) (node_in w) rows) (sym (ap (λ (s : Storage). s.files) ends.0 ∙ ap (λ (o : Option Files). appended o w.name (end_bytes w.open w.closed (records_in w.open))) is)) tt
    by (Some m) is k =
        let more : List ℕ = end_bytes w.open w.closed (records_in w.open) in
        subst (λ (o : Option Files). MadeIn o w.name (settings_in w) (node_in w) rows) (sym (ap (λ (s : Storage). s.files) ends.0 ∙ ap (λ (o : Option Files). appended o w.name more) is))
        (k.0 ++ more, grown m w.name k.0 more k.1, made_is w.open w.closed k.0 rows k.2.stands ends.1)
