-- The canonical text of steps is a path of them.
use Rattle.std.proofs.Common.{◌≡◌, ◌∙◌, refl, sym, ap, ap₂, subst, ℕ, ◌≤◌, List, [], ◌∷◌, ◌++◌, map, flat_map, Bool, true, false, cond, length, append_assoc, decimal, arith}
use Rattle.std.proofs.lemmas.List.{length-map}
use Rattle.std.specs.List.{AllByRecursion}
use Rattle.std.specs.Str.{is_utf8}
use Rattle.byte_parsing.specs.Words.{is_name, EndsName}
use Rattle.query_tree.specs.PathText.{step_text, path_text}
use Rattle.query_tree.specs.declared.step.Step.{Step}
use Rattle.query_tree.specs.declared.step.Step.TheVariants.{Field, Index, Star}
use Rattle.json_tree.specs.Text as texts
use Rattle.path_parsing.specs.Canonical.{IsWritable}
use Rattle.path_parsing.specs.Grammar.{StepSyntax, dotted, quoted, indexed, starred, step_bytes, steps_bytes, path_bytes, IsWellStep, AreWellSteps, IsPath, step_of, path_of}
use Rattle.path_parsing.proofs.Decimals.{printed}
use Rattle.json_tree.proofs.QuotedStrings.{pieces_of, string_spells, string_means, string_paired, string_well}

abbrev written_of : Step → StepSyntax
written_of (Field name) = cond (is_name name) (dotted name) (quoted (pieces_of name))
written_of (Index n) = indexed (decimal n)
written_of Star = starred

-- what is known of a step that is written so
record IsWrittenSo (s : Step) (w : StepSyntax) (text : List ℕ) : Type 0 where
  spells : (after : List ℕ) → step_bytes w after ≡ text ++ after
  well : (after : List ℕ) → EndsName after → IsWellStep w after
  means : step_of w ≡ s

name_so : (name : List ℕ) (b : Bool) → is_name name ≡ b → is_utf8 name ≡ true → IsWrittenSo (Field name) (cond b (dotted name) (quoted (pieces_of name))) (cond b (46 ∷ name) (91 ∷ (texts.quoted name ++ 93 ∷ [])))
name_so name true e h = record { spells = λ after. refl; well = λ after ends. (e, ends); means = refl }
name_so name false e h = record {
  spells = λ after. ap (λ ys. 91 ∷ ys) (string_spells name (93 ∷ after) ∙ sym (append_assoc (texts.quoted name) (93 ∷ []) after));
  well = λ after ends. (string_well name h, string_paired name);
  means = ap (λ t. Field t) (string_means name);
}

step_so : (s : Step) → IsWritable s → IsWrittenSo s (written_of s) (step_text s)
step_so (Field name) h = name_so name (is_name name) refl h
step_so (Index n) h =
    let p = printed n (omega arith) in
    record {
      spells = λ after. ap (λ ys. 91 ∷ ys) (sym (append_assoc (decimal n) (93 ∷ []) after));
      well = λ after ends. (p.whole, p.few 9 (omega arith) (omega arith));
      means = ap (λ m. Index m) p.value;
    }
step_so Star h = record { spells = λ after. refl; well = λ after ends. tt; means = refl }

steps_spell : (ss : List Step) → AllByRecursion IsWritable ss → steps_bytes (map written_of ss) [] ≡ flat_map step_text ss
steps_spell [] h = refl
steps_spell (s ∷ ss) h = (step_so s h.0).spells (steps_bytes (map written_of ss) []) ∙ ap (λ ys. step_text s ++ ys) (steps_spell ss h.1)

-- a step ends a name
ends_name : (ws : List StepSyntax) → EndsName (steps_bytes ws [])
ends_name [] = tt
ends_name (dotted name ∷ ws) = refl
ends_name (quoted ps ∷ ws) = refl
ends_name (indexed digits ∷ ws) = refl
ends_name (starred ∷ ws) = refl

steps_well : (ss : List Step) → AllByRecursion IsWritable ss → AreWellSteps (map written_of ss) []
steps_well [] h = tt
steps_well (s ∷ ss) h = ((step_so s h.0).well (steps_bytes (map written_of ss) []) (ends_name (map written_of ss)), steps_well ss h.1)

steps_mean : (ss : List Step) → AllByRecursion IsWritable ss → ss ≡ path_of (map written_of ss)
steps_mean [] h = refl
steps_mean (s ∷ ss) h = ap₂ (λ x xs. x ∷ xs) (sym (step_so s h.0).means) (steps_mean ss h.1)

pub canonical_is_path : (ss : List Step) → AllByRecursion IsWritable ss → length ss ≤ 64 → length (path_text ss) ≤ 4096 → IsPath (path_text ss) ss
canonical_is_path ss h few short =
    let bytes : path_text ss ≡ path_bytes (map written_of ss) [] = ap (λ ys. 36 ∷ ys) (sym (steps_spell ss h)) in
    record {
      written = map written_of ss;
      bytes = bytes;
      is_path = record { well = steps_well ss h; few = omega (arith, length-map ss written_of); short = subst (λ ys. length ys ≤ 4096) bytes short };
      means = steps_mean ss h;
    }
