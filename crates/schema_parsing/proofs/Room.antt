-- The room that is left for leaves.
use Rattle.std.proofs.Common.{◌≡◌, refl, ℕ, ◌+◌, ◌-◌, ◌≤◌, Bool, true, false, cond, Some, None, arith}
use Rattle.std.specs.Prelude.{nat_le}
use Rattle.std.proofs.lemmas.Bool.Decides.{nat_tests}
use Rattle.schema_parsing.specs.Parts.{room_left}

-- what is taken off in two steps
pub left_of_both : (room x y left : ℕ) → room_left room x ≡ Some left → room_left left y ≡ room_left room (x + y)
left_of_both room x y left e = by (nat_le x room) refl e
  where
    by : (b : Bool) → nat_le x room ≡ b → cond b (Some (room - x)) None ≡ Some left → room_left left y ≡ room_left room (x + y)
    by true f g =
        let enough : x ≤ room = grind (arith, nat_tests) in
        let same : room - x ≡ left = cc in
        let test : nat_le y (room - x) ≡ nat_le (x + y) room = grind (arith, nat_tests) in
        let value : room - x - y ≡ room - (x + y) = omega arith in
        rw (← same, test, value) refl
    by false f g = cc
