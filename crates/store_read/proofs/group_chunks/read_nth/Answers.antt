use Rattle.std.proofs.Common.{ap, length, get_or, arith, List, ℕ}
use Rattle.std.proofs.lemmas.Option.{slice_get_past}
use Rattle.store_read.proofs.Reading.{nth_missing}
use Rattle.store_read.proofs.group_chunks.read_nth.Goals as goal

pub returns-in-None-clause-read : goal.returns-in-None-clause-read
returns-in-None-clause-read g c =
    nth_missing (g.S.Shelf.seen c.args.shelf.now) c.args.name.now c.args.end c.args.column.now c.args.group.now c.args.j
    (slice_get_past c.args.group.now.columns (get_or c.args.column.now.places c.args.j 0) (omega (arith, c.in-None.ensures.lookup.3, ap (λ (places : List ℕ). get_or places c.args.j 0) c.as_slice.ensures, ap length c.as_slice-2.ensures)))
