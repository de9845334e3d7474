use Rattle.std.proofs.Common.{ℕ, List, Some, pos, subst, sym}
use Rattle.closed_groups.specs.ClosedGroups.{file_meta, IsSound}
use Rattle.closed_groups.proofs.GroupsMore.{none_sound}
use Rattle.closed_groups.proofs.group_list.ClosedGroups.new.Goals as goal

pub invariant_of-result : goal.invariant_of-result
invariant_of-result c =
    subst (λ (b : List ℕ). IsSound (record (file_meta c.args.schema c.args.orders c.new.result) { num_rows = pos 0; created_by = Some b }) 0 0 4) (sym c.in_ok-created_by.ensures)
    (none_sound c.args.schema c.args.orders c.new.result c.requires.schema c.requires.orders c.new.ensures)
