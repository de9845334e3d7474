-- What appends leave, one after another.
use Rattle.std.proofs.Common.{◌≡◌, ◌∙◌, ℕ, suc, ◌+◌, ◌≤◌, List, [], ◌∷◌, ◌++◌, length, take, drop, Some, Err, sym, ap, subst, refl, append_assoc, append-nil, add-one, get_or, ◌<◌, arith, length-append, IsSome}
use Rattle.std.proofs.lemmas.List.{take-append-le, take_more, take-append-drop}
use Rattle.std.proofs.Math.Seq.{take-append-add, drop-cons}
use Rattle.std.specs.FinMap.{get}
use Rattle.std.specs.List.{concat}
use Rattle.shelf.specs.declared.shelf.ShelfError.{ShelfError}
use Rattle.shelf.specs.declared.shelf.ShelfError.TheVariants.{Absent, Taken, Failed, NoMemory}
use Rattle.shelf.specs.declared.tally.Counts.{Counts}
use Rattle.shelf.specs.declared.byte_range.ByteRange.{ByteRange}
use Rattle.shelf.specs.Storage.{Files, Storage, Has, appended, FailsWrite}
use Rattle.shelf.specs.Calls.{Adds, with_prefix}
use Rattle.shelf.specs.Memory.{GainsPrefix}
use Rattle.shelf.proofs.Appending.{appended_none, appended_again}

abbrev known : Files → List ByteRange → Counts → Storage
known m touched counts = record { files = Some m; touched = touched; counts = counts }

pub adds_failed : (m n : Files) (touched : List ByteRange) (a b : Counts) (name bytes : List ℕ) (e : ShelfError) → GainsPrefix m n name bytes → e ≡ Failed → FailsWrite a b
    → Adds (known m touched a) (known n touched b) name bytes (Err e)
adds_failed m n touched a b name bytes e gains is fails =
    subst (λ (r : ShelfError). Adds (known m touched a) (known n touched b) name bytes (Err r)) (sym is)
    (gains.count, gains.within, fails, ap (λ f. record { files = f; touched = touched; counts = b }) gains.gained)

pub adds_nothing : (m n : Files) (touched : List ByteRange) (a : Counts) (name bytes : List ℕ) → IsSome (get m name) → n ≡ m
    → Adds (known m touched a) (known n touched a) name bytes (Err NoMemory)
adds_nothing m n touched a name bytes some same =
    (0, omega arith, ap (λ f. record { files = f; touched = touched; counts = a }) (ap Some same ∙ sym (appended_none (Some m) name some)))

-- a front of a later part, behind what stands before it
front : (done part rest : List ℕ) (k : ℕ) → k ≤ length part → done ++ take k part ≡ take (length done + k) (done ++ (part ++ rest))
front done part rest k within = sym (take-append-add done (part ++ rest) k ∙ ap (λ (s : List ℕ). done ++ s) (take-append-le k part rest within))

abbrev moved : Storage → List ℕ → List ℕ → Storage
moved s name done = record s { files = appended s.files name done }

-- pieces were added, and the next one was refused
pub adds_later : (first before after : Storage) (name done part rest : List ℕ) (e : ShelfError) → before ≡ record first { files = appended first.files name done }
    → Adds before after name part (Err e) → Adds first after name (done ++ (part ++ rest)) (Err e)
adds_later first before after name done part rest e is adds = by e (subst (λ (s : Storage). Adds s after name part (Err e)) is adds)
  where
    inside : (k : ℕ) → k ≤ length part → length done + k ≤ length (done ++ (part ++ rest))
    inside k within = omega (arith, length-append done (part ++ rest), length-append part rest)

    same : (k : ℕ) → k ≤ length part → with_prefix (moved first name done) name part k ≡ with_prefix first name (done ++ (part ++ rest)) (length done + k)
    same k within = ap (λ f. record first { files = f }) (appended_again first.files name done (take k part) ∙ ap (appended first.files name) (front done part rest k within))

    by : (e : ShelfError) → Adds (moved first name done) after name part (Err e) → Adds first after name (done ++ (part ++ rest)) (Err e)
    by Absent h = h
    by Taken h = h
    by Failed h = (length done + h.0, inside h.0 h.1, h.2, h.3 ∙ ap (λ (s : Storage). record s { counts = after.counts }) (same h.0 h.1))
    by NoMemory h = (length done + h.0, inside h.0 h.1, h.2 ∙ same h.0 h.1)

concat-append : (xs ys : List (List ℕ)) → concat (xs ++ ys) ≡ concat xs ++ concat ys
concat-append [] ys = refl
concat-append (x ∷ xs) ys = ap (λ (s : List ℕ). x ++ s) (concat-append xs ys) ∙ sym (append_assoc x (concat xs) (concat ys))

-- one piece more
pub concat_more : (xs : List (List ℕ)) (i : ℕ) (x : List ℕ) → i < length xs → x ≡ get_or xs i x → concat (take (i + 1) xs) ≡ concat (take i xs) ++ x
concat_more xs i x below is =
    ap concat (take_more xs i x below ∙ ap (λ (y : List ℕ). take i xs ++ y ∷ []) (sym is)) ∙ concat-append (take i xs) (x ∷ []) ∙ ap (λ (s : List ℕ). concat (take i xs) ++ s) (append-nil x)

-- all pieces, round one of them
pub concat_round : (xs : List (List ℕ)) (i : ℕ) (x : List ℕ) → i < length xs → x ≡ get_or xs i x → concat xs ≡ concat (take i xs) ++ (x ++ concat (drop (i + 1) xs))
concat_round xs i x below is =
    let behind : drop i xs ≡ x ∷ drop (i + 1) xs = rw (add-one i) (drop-cons xs i x below ∙ ap (λ (y : List ℕ). y ∷ drop (suc i) xs) (sym is)) in
    ap concat (sym (take-append-drop i xs)) ∙ concat-append (take i xs) (drop i xs) ∙ ap (λ (ys : List (List ℕ)). concat (take i xs) ++ concat ys) behind

-- one piece more was added
pub adds_more : (first before after : Storage) (name done part : List ℕ) → before ≡ record first { files = appended first.files name done }
    → after ≡ record before { files = appended before.files name part } → after ≡ record first { files = appended first.files name (done ++ part) }
adds_more first before after name done part is more =
    more ∙ ap (λ (s : Storage). record s { files = appended s.files name part }) is ∙ ap (λ f. record first { files = f }) (appended_again first.files name done part)

-- before the first piece
pub adds_none : (s : Storage) (name : List ℕ) → Has s.files name → s ≡ record s { files = appended s.files name [] }
adds_none s name has = ap (λ f. record s { files = f }) (sym (appended_none s.files name has))
