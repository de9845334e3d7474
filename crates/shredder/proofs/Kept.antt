-- The members that are kept.
use Rattle.std.proofs.Common.{◌≡◌, ℕ, suc, Bool, true, false, List, [], ◌∷◌, length, Some, None, refl, arith}
use Rattle.std.specs.List.{list_any}
use Rattle.json_tree.specs.Json.{Json, object, Fields, no_fields, field, names_of}
use Rattle.variant_write.specs.Chosen.{chosen}
use Rattle.shredder.specs.Shredded.{members_left}

pub kept_some : (code : Json → List ℕ) (kept : List Bool) (members : Fields) → length kept ≡ length (names_of members) → list_any (λ keep. keep) kept ≡ true → members_left code (chosen kept members) ≡ Some (code (object (chosen kept members)))
kept_some code [] members each h = absurd (let wrong : false ≡ true = h in cc)
kept_some code (keep ∷ kept) no_fields each h = absurd (let wrong : suc (length kept) ≡ 0 = each in omega (arith, wrong))
kept_some code (true ∷ kept) (field name j members) each h = refl
kept_some code (false ∷ kept) (field name j members) each h = kept_some code kept members (omega (arith, each)) h

pub kept_none : (code : Json → List ℕ) (kept : List Bool) (members : Fields) → list_any (λ keep. keep) kept ≡ false → members_left code (chosen kept members) ≡ None
kept_none code [] members h = refl
kept_none code (keep ∷ kept) no_fields h = refl
kept_none code (true ∷ kept) (field name j members) h = absurd (let wrong : true ≡ false = h in cc)
kept_none code (false ∷ kept) (field name j members) h = kept_none code kept members h
