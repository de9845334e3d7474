use Rattle.std.proofs.Common.{◌≡◌, map, length}
use Rattle.std.specs.List.{list_all}
use Rattle.file_columns.specs.Columns.{name_of, is_member}
use Rattle.file_columns.specs.Views.{seen}
use Rattle.file_columns.proofs.members.each_is_member.Given as goal

abbrev pub invariant-loop-rest : goal.invariant-loop-rest
invariant-loop-rest l = list_all (λ c. is_member (name_of c)) (map seen l.rest) ≡ list_all (λ c. is_member (name_of c)) (map seen l.fn.children)

abbrev pub decreases-loop-rest : goal.decreases-loop-rest
decreases-loop-rest l = length l.rest
