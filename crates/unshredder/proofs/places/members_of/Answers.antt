use Rattle.std.proofs.Common.{sym}
use Rattle.unshredder.proofs.Moved.{same_members, same_repeats}
use Rattle.unshredder.proofs.places.members_of.Goals as goal

pub returns-in-Ok-clause-ok : goal.returns-in-Ok-clause-ok
returns-in-Ok-clause-ok c = same_members c.args.pairs.items c.apply.new.pairs.items _ c.apply.ensures c.in-Ok.ensures.ok c.as_slice-pairs.ensures.valid.0

pub returns-in-Err-clause-repeated : goal.returns-in-Err-clause-repeated
returns-in-Err-clause-repeated c = rw (sym (same_repeats c.args.pairs.items c.apply.new.pairs.items c.apply.ensures)) c.in-Err.ensures.repeated

pub returns-in-Ok-clause-repeated : goal.returns-in-Ok-clause-repeated
returns-in-Ok-clause-repeated c = rw (sym (same_repeats c.args.pairs.items c.apply.new.pairs.items c.apply.ensures)) c.in-Ok.ensures.repeated
