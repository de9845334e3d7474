-- Groups that were seen, and those after them.
use Rattle.std.proofs.Common.{◌≡◌, ◌∙◌, sym, ap, ℕ, ◌+◌, List, [], ◌∷◌, ◌++◌, length, Option, None, Some, Result, Ok, Err, arith, append_assoc}
use Rattle.store_file.specs.SeenGroups.{Seen, all_found, with_group, seen_of}
use Rattle.store_file.specs.declared.file_faults.Violation.{Violation}

-- what was found before
abbrev pub behind : {A : Type 0} → List A → Seen A → Seen A
behind done s = record { found = done ++ s.found; stop = s.stop }

pub whole : {A : Type 0} (s : Seen A) → s.stop ≡ None → s ≡ all_found s.found
whole s none = ap (λ (stop : Option Violation). record { found = s.found; stop = stop }) none

joined : {A : Type 0} (r : Result (List A) Violation) (s t later : Seen A) (done : List A) → with_group r s ≡ all_found done → (s ≡ all_found s.found → t ≡ behind s.found later) → with_group r t ≡ behind done later
joined {A = A} (Ok xs) s t later done e f =
    let none : s.stop ≡ None = ap (λ (w : Seen A). w.stop) e in
    let all : xs ++ s.found ≡ done = ap (λ (w : Seen A). w.found) e in
    ap (with_group (Ok xs)) (f (whole s none))
    ∙ ap (λ (found : List A). record { found = found; stop = later.stop }) (sym (append_assoc xs s.found later.found) ∙ ap (λ (found : List A). found ++ later.found) all)
joined {A = A} (Err violation) s t later done e f =
    let wrong : Some violation ≡ None = ap (λ (w : Seen A). w.stop) e in
    cc

pub seen_on : {A G : Type 0} (gives : ℕ → G → Result (List A) Violation) (i at : ℕ) (xs ys : List G) (done : List A) → seen_of gives i xs ≡ all_found done → at ≡ i + length xs → seen_of gives i (xs ++ ys) ≡ behind done (seen_of gives at ys)
unfolding seen_of
seen_on {A = A} gives i at [] ys done e is =
    let none : [] ≡ done = ap (λ (w : Seen A). w.found) e in
    let same : i ≡ at = omega (arith, is) in
    ap (λ n. seen_of gives n ys) same ∙ ap (λ (found : List A). behind found (seen_of gives at ys)) none
seen_on {A = A} gives i at (x ∷ xs) ys done e is =
    joined (gives i x) (seen_of gives (i + 1) xs) (seen_of gives (i + 1) (xs ++ ys)) (seen_of gives at ys) done e
    (λ all. seen_on gives (i + 1) at xs ys (seen_of gives (i + 1) xs).found all (omega (arith, is)))
