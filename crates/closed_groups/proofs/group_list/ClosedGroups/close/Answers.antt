use Rattle.std.proofs.Common.{◌∙◌, ap, length, subst, ◌+◌, Ok, Err}
use Rattle.footer_structs.specs.FooterWriting.{group_bytes}
use Rattle.footer_structs.specs.declared.row_groups.GroupMeta.{GroupMeta}
use Rattle.closed_groups.specs.ClosedGroups.{Closed, Closes, PutsGroup, group_meta}
use Rattle.closed_groups.specs.declared.group_list.Unclosed.TheVariants.{TooLong}
use Rattle.closed_groups.proofs.GroupsMore.{shown, sound_more, closes_ok, closes_err}
use Rattle.closed_groups.proofs.group_list.ClosedGroups.close.Goals as goal

pub invariant_of-self : goal.invariant_of-self
invariant_of-self c =
    let g = c.self.inside in
    sound_more g.meta g.coded g.rows g.place c.args.columns c.args.size c.args.rows c.in-Ok.len c.put_group.new.meta c.self.invariant c.requires.fits c.requires.size c.requires.rows
    (c.in-Ok.ensures.len ∙ ap (λ (x : GroupMeta). length (group_bytes x)) c.struct_of-group.ensures)
    (subst (λ (x : GroupMeta). PutsGroup g.meta c.put_group.new.meta (g.rows + c.args.rows) x (Ok tt)) c.struct_of-group.ensures c.in-Ok-put_group.ensures)

pub returns-in-Ok-put_group : goal.returns-in-Ok-put_group
returns-in-Ok-put_group c =
    let g = c.self.inside in
    let group = group_meta c.args.columns c.args.size c.args.rows in
    subst (λ (x : Closed). Closes x (shown c.put_group.new.meta (g.place + c.args.size)) group c.args.size (Ok tt)) c.self.view_is
    (closes_ok g.meta c.put_group.new.meta g.coded g.rows g.place c.args.columns c.args.size c.args.rows c.self.invariant
    (subst (λ (x : GroupMeta). PutsGroup g.meta c.put_group.new.meta (g.rows + c.args.rows) x (Ok tt)) c.struct_of-group.ensures c.in-Ok-put_group.ensures))

pub returns-in-Err-TooLong : goal.returns-in-Err-TooLong
returns-in-Err-TooLong c =
    let g = c.self.inside in
    let group = group_meta c.args.columns c.args.size c.args.rows in
    let refused = TooLong c.in-Err-TooLong.footer in
    subst (λ (x : Closed). Closes x (shown c.put_group.new.meta g.place) group c.args.size (Err refused)) c.self.view_is
    (closes_err g.meta c.put_group.new.meta g.coded g.rows g.place c.args.columns c.args.size c.args.rows refused c.self.invariant
    (subst (λ (x : GroupMeta). PutsGroup g.meta c.put_group.new.meta (g.rows + c.args.rows) x (Err refused)) c.struct_of-group.ensures (rw c.in-Err-TooLong.field-0-is at c.in-Err-TooLong.ensures)))
