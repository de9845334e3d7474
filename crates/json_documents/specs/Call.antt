-- What a call of `Lines::next` says, in one record.
use Rattle.std.specs.Prelude.{◌≡◌, ℕ, List, Some, Result}
use Rattle.outside.specs.Devices.{Device}
use Rattle.json_lines.specs.Next.{State, nothing, Repeats, IsKept, LeavesLess, Counted}
use Rattle.json_lines.specs.Takings.{Comes, IsBounded}
use Rattle.json_lines.specs.declared.answer.Next.{Next}
use Rattle.json_lines.specs.declared.answer.LineFault.{LineFault}

-- a call at `s` that leaves `t`
pub record Call (s t : State) (before after : Device) (r : Result Next LineFault) : Type 0 where
  pub again : Repeats s.kept r
  pub untouched : (s.kept ≡ nothing → ⊥) → after ≡ before
  pub keeps : IsKept s.kept t.kept r
  pub comes : s.kept ≡ nothing → (rest : List ℕ) → before.bytes ≡ Some rest → Comes s rest t after.bytes r
  pub bounded : (rest : List ℕ) → before.bytes ≡ Some rest → IsBounded s rest after.bytes
  pub less : LeavesLess s t r
  pub counts : s.kept ≡ nothing → Counted before after r
