-- The members of an object as its tree shows them.
use Rattle.std.proofs.Common.{◌≡◌, ◌↔◌, refl, ap, List, ℕ, [], ◌∷◌, map, Bool, true, false, Ok, Err, Result, IsTrue}
use Rattle.json_tree.specs.Json.{Fields}
use Rattle.json_tree.specs.View.{seen}
use Rattle.json_tree.specs.declared.types.Tree.{Tree}
use Rattle.json_tree.specs.declared.types.MembersFault.{MembersFault}
use Rattle.json_tree.specs.declared.types.MembersFault.TheVariants.{Repeated}

pub given_names : (pairs : List (List ℕ × Tree)) → map (λ m. m.0) (map seen pairs) ≡ map (λ p. p.0) pairs
given_names [] = refl
given_names (p ∷ pairs) = ap (λ names. p.0 ∷ names) (given_names pairs)

pub not_repeated : (b : Bool) (members : Fields) → (◌≡◌ {A = Result Fields MembersFault} (Ok members) (Err Repeated)) ↔ IsTrue b → b ≡ false
not_repeated true members h = let wrong = h.1 refl in cc
not_repeated false members h = refl

pub repeated : (b : Bool) (fault : MembersFault) → (◌≡◌ {A = Result Fields MembersFault} (Err fault) (Err Repeated)) ↔ IsTrue b → b ≡ true
repeated b Repeated h = h.0 refl
