-- Whole texts.
use Rattle.std.proofs.Common.{◌≡◌, ◌∙◌, refl, sym, ap, ℕ, ◌+◌, ◌==◌, ◌<◌, ◌≤◌, List, [], ◌∷◌, true, false, Option, Some, None, Err, length, arith}
use Rattle.std.proofs.lemmas.Bool.Decides.{nat_tests}
use Rattle.vs_bytes.specs.Outcome.{Reads}
use Rattle.byte_parsing.specs.Parse.{read_as, past}
use Rattle.vs_bytes.specs.declared.refused.Absent.{Absent}
use Rattle.vs_bytes.specs.declared.refused.Refused.{Refused}
use Rattle.vs_bytes.specs.declared.refused.Refused.TheVariants.{Fault, NoMemory}
use Rattle.byte_parsing.proofs.Holds.{holds_past}
use Rattle.query_tree.specs.declared.step.Step.{Step}
use Rattle.path_parsing.specs.Grammar.{StepSyntax, path_of, steps_bytes, path_bytes, IsPathBefore, IsPath}
use Rattle.path_parsing.specs.Reading.{steps_at, path_at}
use Rattle.path_parsing.specs.Parses.{Parses}
use Rattle.path_parsing.proofs.Complete.{path_complete}
use Rattle.path_parsing.proofs.Lengths.{steps_length}
use Rattle.path_parsing.proofs.Sound.{steps_sound, path_sound}

pub path_sound_at : (xs : List ℕ) (ss : List StepSyntax) (after : List ℕ) → path_at xs ≡ Some (ss, after) → (xs ≡ path_bytes ss after) × IsPathBefore ss after
path_sound_at xs ss after e = (path_sound xs).here (ss, after) e

-- what was read, and the value of it
pub record WasRead (o : Option (List StepSyntax × List ℕ)) (steps : List Step) (rest : List ℕ) : Type 0 where
  pub written : List StepSyntax
  pub read : o ≡ Some (written, rest)
  pub means : steps ≡ path_of written

was_read : (o : Option (List StepSyntax × List ℕ)) (steps : List Step) (rest : List ℕ) → read_as path_of o ≡ Some (steps, rest) → WasRead o steps rest
was_read None steps rest e = cc
was_read (Some r) steps rest e =
    let both : ◌≡◌ {A = List Step × List ℕ} (path_of r.0, r.1) (steps, rest) = cc in
    record { written = r.0; read = ap (λ ys. Some (r.0, ys)) (ap (λ p. p.1) both); means = sym (ap (λ p. p.0) both) }

pub steps_within : (k : ℕ) (xs : List ℕ) (steps : List Step) (rest : List ℕ) → read_as path_of (steps_at k xs) ≡ Some (steps, rest) → length rest ≤ length xs
steps_within k xs steps rest e =
    let r = was_read (steps_at k xs) steps rest e in
    let p = (steps_sound k xs).here (r.written, rest) r.read in
    let all : length xs ≡ length (steps_bytes r.written rest) = ap (λ ys. length ys) p.bytes in
    omega (arith, steps_length r.written rest)

past_length : (b : ℕ) (xs rest : List ℕ) → past b xs ≡ Some rest → length xs ≡ length rest + 1
past_length b xs rest e = let all : length xs ≡ length (b ∷ rest) = ap (λ ys. length ys) ((holds_past b xs).here rest e) in omega arith

-- the bytes after the steps come after the first byte
pub rest_shorter : (b k : ℕ) (xs inside : List ℕ) (steps : List Step) (rest : List ℕ) → past b xs ≡ Some inside → read_as path_of (steps_at k inside) ≡ Some (steps, rest) → length rest < length xs
rest_shorter b k xs inside steps rest e f = omega (arith, past_length b xs inside e, steps_within k inside steps rest f)

-- Whole texts.

empty : (xs : List ℕ) → (length xs == 0) ≡ true → xs ≡ []
empty [] e = refl
empty (x ∷ xs) e = absurd (grind (arith, nat_tests))

pub is_path : (text : List ℕ) (steps : List Step) (rest : List ℕ) → read_as path_of (path_at text) ≡ Some (steps, rest) → (length rest == 0) ≡ true → IsPath text steps
is_path text steps rest e none =
    let r = was_read (path_at text) steps rest e in
    let read : path_at text ≡ Some (r.written, []) = r.read ∙ ap (λ ys. Some (r.written, ys)) (empty rest none) in
    let p = path_sound_at text r.written [] read in
    record { written = r.written; bytes = p.0; is_path = p.1; means = r.means }

path_read : (text : List ℕ) (steps : List Step) (p : IsPath text steps) → path_at text ≡ Some (p.written, [])
path_read text steps p = ap path_at p.bytes ∙ path_complete p.written [] p.is_path refl

pub paths_are_one : (text : List ℕ) (s t : List Step) → IsPath text s → IsPath text t → s ≡ t
paths_are_one text s t p q =
    let same : ◌≡◌ {A = Option (List StepSyntax × List ℕ)} (Some (p.written, [])) (Some (q.written, [])) = sym (path_read text s p) ∙ path_read text t q in
    let both : ◌≡◌ {A = List StepSyntax × List ℕ} (p.written, []) (q.written, []) = cc in
    p.means ∙ ap (λ r. path_of r.0) both ∙ sym q.means

pub no_path_rest : (text : List ℕ) (steps : List Step) (rest : List ℕ) → read_as path_of (path_at text) ≡ Some (steps, rest) → (length rest == 0) ≡ false → (s : List Step) → IsPath text s → ⊥
no_path_rest text steps rest e some s p =
    let r = was_read (path_at text) steps rest e in
    let same : ◌≡◌ {A = Option (List StepSyntax × List ℕ)} (Some (p.written, [])) (Some (r.written, rest)) = sym (path_read text s p) ∙ r.read in
    let both : ◌≡◌ {A = List StepSyntax × List ℕ} (p.written, []) (r.written, rest) = cc in
    let none : [] ≡ rest = ap (λ q. q.1) both in
    by rest none some
  where
    by : (rest : List ℕ) → [] ≡ rest → (length rest == 0) ≡ false → ⊥
    by [] e f = cc
    by (x ∷ xs) e f = cc

no_path : (text : List ℕ) → read_as path_of (path_at text) ≡ None → (s : List Step) → IsPath text s → ⊥
no_path text e s p = by (path_at text) (path_read text s p) e
  where
    by : (o : Option (List StepSyntax × List ℕ)) → o ≡ Some (p.written, []) → read_as path_of o ≡ None → ⊥
    by None e f = cc
    by (Some r) e f = cc

pub fault_is : (text : List ℕ) (refused : Refused Absent) → Reads {A = List Step × List ℕ} {F = Absent} (λ x. x) (Err refused) (read_as path_of (path_at text)) → Parses {A = List Step} (λ x. x) text (Err refused)
fault_is text (Fault fault) h = no_path text h
fault_is text NoMemory h = tt
