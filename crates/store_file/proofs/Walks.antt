-- The walk over the groups of a file: what was asked for, and what was found in them.
use Rattle.std.proofs.Common.{◌≡◌, ◌∙◌, refl, sym, ap, subst, ℕ, ◌+◌, ◌<◌, ◌≤◌, Bool, List, [], ◌∷◌, ◌++◌, length, get_or, take, drop, Some, Result, Ok, Err, arith, append-nil}
use Rattle.std.specs.List.{slice_get}
use Rattle.std.proofs.lemmas.Option.{slice_get_within, slice_get-get_or}
use Rattle.std.proofs.lemmas.List.{take_more, drop_more, take-append-drop, length-take-le, length-drop}
use Rattle.std.proofs.lemmas.Grind.{flat_map-append}
use Rattle.shelf.specs.Storage.{Storage}
use Rattle.shelf.specs.declared.byte_range.ByteRange.{ByteRange}
use Rattle.footer_structs.specs.declared.row_groups.GroupMeta.{GroupMeta}
use Rattle.shelf.specs.Calls.{with_ranges}
use Rattle.store_read.specs.Ranges.{IsFile, OfFile, Asks, AsksFirst, FailsAt}
use Rattle.store_read.proofs.Reading.{no_ranges, asked_on, first_on, fails_on}
use Rattle.store_file.specs.SeenGroups.{all_found, with_group, seen_of}
use Rattle.store_file.specs.FileCalls.{groups_in, chunks_in, plan_of}
use Rattle.store_file.specs.declared.file_faults.Violation.{Violation}
use Rattle.store_file.specs.declared.store_file.StoreFile.{StoreFile}
use Rattle.store_file.proofs.SeenGroups.{behind, seen_on}

-- Lists, parted at an item.

pub record Parts {G : Type 0} (groups : List G) (k : ℕ) (g : G) : Type 0 where
  pub inside : k < length groups
  pub front : take (k + 1) groups ≡ take k groups ++ g ∷ []
  pub whole : groups ≡ take k groups ++ (g ∷ drop (k + 1) groups)
  pub count : length (take k groups) ≡ k

pub parts_at : {G : Type 0} (groups : List G) (k : ℕ) (g : G) → slice_get groups k ≡ Some g → Parts groups k g
parts_at {G = G} groups k g at =
    let inside : k < length groups = slice_get_within groups k g at in
    let found : Some (get_or groups k g) ≡ Some g = sym (slice_get-get_or groups k g inside) ∙ at in
    let own : get_or groups k g ≡ g = cc in
    record {
      inside = inside;
      front = take_more groups k g inside ∙ ap (λ (x : G). take k groups ++ x ∷ []) own;
      whole = sym (take-append-drop k groups) ∙ ap (λ (later : List G). take k groups ++ later) (drop_more groups k g inside ∙ ap (λ (x : G). x ∷ drop (k + 1) groups) own);
      count = length-take-le k groups (omega (arith, inside));
    }

pub all_taken : {G : Type 0} (groups : List G) (k : ℕ) → k ≤ length groups → length groups ≤ k → take k groups ≡ groups
all_taken groups k within past =
    let none : drop k groups ≡ [] = none_left (drop k groups) (omega (arith, length-drop k groups, past)) in
    sym (append-nil (take k groups)) ∙ (ap (λ later. take k groups ++ later) (sym none) ∙ take-append-drop k groups)
  where
    none_left : {G : Type 0} (xs : List G) → length xs ≡ 0 → xs ≡ []
    none_left [] e = refl
    none_left (x ∷ xs) e = absurd (omega (arith, e))

-- What was found in the groups.

-- a group more
pub seen_more : {A G : Type 0} (gives : ℕ → G → Result (List A) Violation) (groups : List G) (k : ℕ) (g : G) (done more : List A) → slice_get groups k ≡ Some g → seen_of gives 0 (take k groups) ≡ all_found done → gives k g ≡ Ok more →
    seen_of gives 0 (take (k + 1) groups) ≡ all_found (done ++ more)
unfolding seen_of
seen_more {A = A} {G = G} gives groups k g done more at seen given =
    let parts = parts_at groups k g at in
    ap (seen_of gives 0) parts.front
    ∙ (seen_on gives 0 k (take k groups) (g ∷ []) done seen (omega (arith, parts.count))
    ∙ (ap (λ (r : Result (List A) Violation). behind done (with_group r (all_found []))) given
    ∙ ap (λ (found : List A). all_found (done ++ found)) (append-nil more)))

-- the group that is next, before those after it
pub seen_next : {A G : Type 0} (gives : ℕ → G → Result (List A) Violation) (groups : List G) (k : ℕ) (g : G) (done : List A) (given : Result (List A) Violation) → slice_get groups k ≡ Some g → seen_of gives 0 (take k groups) ≡ all_found done → gives k g ≡ given →
    seen_of gives 0 groups ≡ behind done (with_group given (seen_of gives (k + 1) (drop (k + 1) groups)))
unfolding seen_of
seen_next {A = A} {G = G} gives groups k g done given at seen is =
    let parts = parts_at groups k g at in
    ap (seen_of gives 0) parts.whole
    ∙ (seen_on gives 0 k (take k groups) (g ∷ drop (k + 1) groups) done seen (omega (arith, parts.count))
    ∙ ap (λ (r : Result (List A) Violation). behind done (with_group r (seen_of gives (k + 1) (drop (k + 1) groups)))) is)

pub seen_stops : {A G : Type 0} (gives : ℕ → G → Result (List A) Violation) (groups : List G) (k : ℕ) (g : G) (done : List A) (violation : Violation) → slice_get groups k ≡ Some g → seen_of gives 0 (take k groups) ≡ all_found done → gives k g ≡ Err violation →
    seen_of gives 0 groups ≡ record { found = done; stop = Some violation }
seen_stops {A = A} gives groups k g done violation at seen is =
    seen_next gives groups k g done (Err violation) at seen is ∙ ap (λ (found : List A). record { found = found; stop = Some violation }) (append-nil done)

-- all of it, by what comes after the first k groups
pub seen_front : {A G : Type 0} (gives : ℕ → G → Result (List A) Violation) (groups : List G) (k : ℕ) (done : List A) → k ≤ length groups → seen_of gives 0 (take k groups) ≡ all_found done →
    seen_of gives 0 groups ≡ behind done (seen_of gives k (drop k groups))
seen_front gives groups k done within seen =
    ap (seen_of gives 0) (sym (take-append-drop k groups)) ∙ seen_on gives 0 k (take k groups) (drop k groups) done seen (omega (arith, length-take-le k groups within))

-- What was asked for.

pub plan_more : (f : StoreFile) (mask : List Bool) (groups : List GroupMeta) (k : ℕ) (g : GroupMeta) → slice_get groups k ≡ Some g → plan_of f mask (take (k + 1) groups) ≡ plan_of f mask (take k groups) ++ chunks_in f mask g
plan_more f mask groups k g at =
    ap (plan_of f mask) (parts_at groups k g at).front
    ∙ (flat_map-append (chunks_in f mask) (take k groups) (g ∷ [])
    ∙ ap (λ (ranges : List ByteRange). plan_of f mask (take k groups) ++ ranges) (append-nil (chunks_in f mask g)))

pub plan_next : (f : StoreFile) (mask : List Bool) (groups : List GroupMeta) (k : ℕ) (g : GroupMeta) → slice_get groups k ≡ Some g → plan_of f mask (take k groups) ++ (chunks_in f mask g ++ plan_of f mask (drop (k + 1) groups)) ≡ plan_of f mask groups
plan_next f mask groups k g at =
    sym (ap (plan_of f mask) (parts_at groups k g at).whole ∙ flat_map-append (chunks_in f mask) (take k groups) (g ∷ drop (k + 1) groups))

-- all chunks of the first k groups were asked for
pub record AskedGroups (f : StoreFile) (mask : List Bool) (before now : Storage) (k : ℕ) : Type 0 where
  pub within : k ≤ length (groups_in f)
  pub ranges : now ≡ with_ranges before (plan_of f mask (take k (groups_in f)))

pub asked_none : (f : StoreFile) (mask : List Bool) (s : Storage) → AskedGroups f mask s s 0
asked_none f mask s = record { within = omega arith; ranges = no_ranges s }

pub asked_more : (f : StoreFile) (mask : List Bool) (before now new : Storage) (k : ℕ) (g : GroupMeta) → slice_get (groups_in f) k ≡ Some g → AskedGroups f mask before now k → Asks now new (chunks_in f mask g) → AskedGroups f mask before new (k + 1)
asked_more f mask before now new k g at asked more = record {
  within = omega (arith, (parts_at (groups_in f) k g at).inside);
  ranges = asked_on before now new (plan_of f mask (take k (groups_in f))) (chunks_in f mask g) asked.ranges more.asked ∙ ap (with_ranges before) (sym (plan_more f mask (groups_in f) k g at));
}

pub asked_first : (f : StoreFile) (mask : List Bool) (before now new : Storage) (k : ℕ) (g : GroupMeta) → slice_get (groups_in f) k ≡ Some g → AskedGroups f mask before now k → AsksFirst now new (chunks_in f mask g) → AsksFirst before new (plan_of f mask (groups_in f))
asked_first f mask before now new k g at asked more = first_on before now new (plan_of f mask (groups_in f)) (chunks_in f mask g) (plan_of f mask (drop (k + 1) (groups_in f))) (plan_of f mask (take k (groups_in f))) (plan_next f mask (groups_in f) k g at) asked.ranges more

pub asked_fails : (f : StoreFile) (mask : List Bool) (before now new : Storage) (k : ℕ) (g : GroupMeta) → slice_get (groups_in f) k ≡ Some g → AskedGroups f mask before now k → FailsAt now new (chunks_in f mask g) → FailsAt before new (plan_of f mask (groups_in f))
asked_fails f mask before now new k g at asked more = fails_on before now new (plan_of f mask (groups_in f)) (chunks_in f mask g) (plan_of f mask (drop (k + 1) (groups_in f))) (plan_of f mask (take k (groups_in f))) (plan_next f mask (groups_in f) k g at) asked.ranges more

pub asked_all : (f : StoreFile) (mask : List Bool) (before now : Storage) (k : ℕ) → AskedGroups f mask before now k → length (groups_in f) ≤ k → Asks before now (plan_of f mask (groups_in f))
asked_all f mask before now k asked past = record {
  asked = asked.ranges ∙ ap (λ (gs : List GroupMeta). with_ranges before (plan_of f mask gs)) (all_taken (groups_in f) k asked.within past);
}

-- what the file is known to have, it had before
pub of_before : (f : StoreFile) (mask : List Bool) (before now : Storage) (k : ℕ) (P : List ℕ → Type 0) → AskedGroups f mask before now k → OfFile now f.name P → OfFile before f.name P
of_before f mask before now k P asked holds file known = holds file (subst (λ (s : Storage). IsFile s.files f.name file) (sym asked.ranges) known)
