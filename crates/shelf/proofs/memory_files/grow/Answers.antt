use Rattle.std.proofs.Common.{subst, refl}
use Rattle.std.specs.Prelude.{IsSome}
use Rattle.shelf.proofs.FileMaps.{shown_kept}
use Rattle.shelf.proofs.memory_files.grow.Goals as goal

pub returns-in-Err-clause-err : goal.returns-in-Err-clause-err
returns-in-Err-clause-err c =
    let w = c.extend_from_slice.new.self in
    shown_kept c.args.files.now (c.get_mut.follows.lender w) c.args.name.now c.in-Some.file.now w ((c.get_mut.follows.holds w).3 (subst IsSome c.in-Some.ensures.value refl)).0
    c.in-Some.ensures.value c.in-Err.ensures.items
