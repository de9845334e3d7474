-- Bytes at the end of a file, one piece after another.
use Rattle.std.proofs.Common.{◌≡◌, ◌∙◌, ℕ, ◌≤◌, List, [], ◌++◌, length, take, Option, Some, None, Ok, Err, Bool, true, false, cond, sym, ap, subst, refl, unwrap_or, IsSome, append-nil, append_assoc, Ordering, arith}
use Rattle.std.proofs.lemmas.Bool.{false≢true}
use Rattle.std.specs.declared.cmp.Ordering.TheVariants.{Less, Equal, Greater}
use Rattle.std.specs.FinMap.{get, insert, get-insert, get_tied, same_map, slice_cmp-IsAntisymmetric, nat_cmp-IsAntisymmetric}
use Rattle.std.specs.Cmp.{tied_itself}
use Rattle.std.specs.Cmp.Lexicographic.{slice_cmp, nat_list_cmp_total}
use Rattle.std.specs.Ordering.{nat_cmp, eq_by_cmp, is_eq}
use Rattle.shelf.specs.Storage.{Files, Storage, Has, with_file, appended}
use Rattle.shelf.specs.Memory.{GainsPrefix}
use Rattle.shelf.specs.Calls.{Measures, Creates, Adds}
use Rattle.shelf.specs.declared.shelf.ShelfError.TheVariants.{Failed}

abbrev order : List ℕ → List ℕ → Ordering
order = slice_cmp nat_cmp

same_files : (m n : Files) → ((q : List ℕ) → get m q ≡ get n q) → m ≡ n
same_files m n e = same_map nat_list_cmp_total (slice_cmp-IsAntisymmetric nat_cmp-IsAntisymmetric) m n e

-- what was put there is there
pub get_inserted : (m : Files) (name bytes : List ℕ) → get (insert m name bytes) name ≡ Some bytes
get_inserted m name bytes =
    get-insert nat_list_cmp_total m name bytes name ∙ ap (λ (o : Ordering). cond (is_eq o) (Some bytes) (get m name)) (tied_itself nat_list_cmp_total name)

over_twice : (b : Bool) (x y z : Option (List ℕ)) → cond b x (cond b y z) ≡ cond b x z
over_twice true x y z = refl
over_twice false x y z = refl

-- the later bytes of a file count
pub insert_again : (m : Files) (name a b : List ℕ) → insert (insert m name a) name b ≡ insert m name b
insert_again m name a b =
    same_files _ _ (λ q. get-insert nat_list_cmp_total (insert m name a) name b q
    ∙ ap (λ (o : Option (List ℕ)). cond (eq_by_cmp order q name) (Some b) o) (get-insert nat_list_cmp_total m name a q)
    ∙ over_twice (eq_by_cmp order q name) (Some b) (Some a) (get m q) ∙ sym (get-insert nat_list_cmp_total m name b q))

tied : (m : Files) (name q bytes : List ℕ) (o : Ordering) → order q name ≡ o → get m name ≡ Some bytes → cond (is_eq o) (Some bytes) (get m q) ≡ get m q
tied m name q bytes Less e there = refl
tied m name q bytes Equal e there = sym there ∙ get_tied nat_list_cmp_total m q name e
tied m name q bytes Greater e there = refl

-- to put a file where it is changes nothing
pub insert_same : (m : Files) (name bytes : List ℕ) → get m name ≡ Some bytes → insert m name bytes ≡ m
insert_same m name bytes there =
    same_files _ _ (λ q. get-insert nat_list_cmp_total m name bytes q ∙ tied m name q bytes (order q name) refl there)

kept : (m : Files) (name : List ℕ) (o : Option (List ℕ)) → get m name ≡ o → IsSome o → insert m name (unwrap_or o [] ++ []) ≡ m
kept m name (Some bytes) e some = ap (insert m name) (append-nil bytes) ∙ insert_same m name bytes e
kept m name None e some = absurd (false≢true some)

-- no bytes at the end change nothing
pub appended_none : (files : Option Files) (name : List ℕ) → Has files name → appended files name [] ≡ files
appended_none None name has = refl
appended_none (Some m) name has = ap Some (kept m name (get m name) refl has)

-- two pieces are one
pub appended_again : (files : Option Files) (name a b : List ℕ) → appended (appended files name a) name b ≡ appended files name (a ++ b)
appended_again None name a b = refl
appended_again (Some m) name a b =
    let before : List ℕ = unwrap_or (get m name) [] in
    ap Some (ap (λ (o : Option (List ℕ)). insert (insert m name (before ++ a)) name (unwrap_or o [] ++ b)) (get_inserted m name (before ++ a))
    ∙ insert_again m name (before ++ a) ((before ++ a) ++ b) ∙ ap (insert m name) (append_assoc before a b))

some_of : (o : Option (List ℕ)) (bytes : List ℕ) → o ≡ Some bytes → IsSome o
some_of o bytes e = subst IsSome (sym e) refl

-- the file stays there
pub has_appended : (files : Option Files) (name bytes : List ℕ) → Has (appended files name bytes) name
has_appended None name bytes = tt
has_appended (Some m) name bytes = some_of _ _ (get_inserted m name (unwrap_or (get m name) [] ++ bytes))

-- a file that was just made is there
pub has_created : (files : Option Files) (name bytes : List ℕ) → Has (with_file files name bytes) name
has_created None name bytes = tt
has_created (Some m) name bytes = some_of _ _ (get_inserted m name bytes)

-- files that stayed gained none of the bytes
pub gains_none : (m n : Files) (name bytes : List ℕ) → IsSome (get m name) → n ≡ m → GainsPrefix m n name bytes
gains_none m n name bytes some same = record { count = 0; within = omega arith; gained = ap Some same ∙ sym (appended_none (Some m) name some) }

-- the first n of them
pub gains_part : (m n : Files) (name bytes part : List ℕ) (count : ℕ) → part ≡ take count bytes → count ≤ length bytes → n ≡ insert m name (unwrap_or (get m name) [] ++ part) → GainsPrefix m n name bytes
gains_part m n name bytes part count is within same =
    record { count = count; within = within; gained = ap Some (same ∙ ap (λ (s : List ℕ). insert m name (unwrap_or (get m name) [] ++ s)) is) }

-- a file that was made is there, and stays there where bytes are added to it
pub there_once_created : (before after : Storage) (name : List ℕ) → Creates before after name (Ok tt) → Has after.files name
there_once_created before after name made = subst (λ (s : Storage). Has s.files name) (sym made.1) (has_created before.files name [])

pub there_once_added : (before after : Storage) (name bytes : List ℕ) → Adds before after name bytes (Ok tt) → Has after.files name
there_once_added before after name bytes added = subst (λ (s : Storage). Has s.files name) (sym added) (has_appended before.files name bytes)

pub there_after_part : (before after : Storage) (name bytes : List ℕ) → Adds before after name bytes (Err Failed) → Has after.files name
there_after_part before after name bytes added = subst (λ (s : Storage). Has s.files name) (sym added.3) (has_appended before.files name (take added.0 bytes))

pub there_once_measured : (before after : Storage) (name : List ℕ) (size : ℕ) → Has before.files name → Measures before after name (Ok size) → Has after.files name
there_once_measured before after name size has measured = subst (λ (s : Storage). Has s.files name) (sym measured.1) has
