use Rattle.std.proofs.Common.{◌≡◌, false, refl, ◌+◌, ◌-◌, arith}
use Rattle.std.specs.Prelude.{bytes_eq}
use Rattle.file_columns.specs.Columns.{children, named}
use Rattle.file_columns.specs.Forests.{front, forest}
use Rattle.file_columns.proofs.Passing.{sought_turn}
use Rattle.file_columns.proofs.children.find_child.Goals as goal

pub loop-turn-preserved : goal.loop-turn-preserved
loop-turn-preserved c =
    let other : bytes_eq c.in-Some.element.now.name c.args.name.now ≡ false = cc in record {
      sought =
          sought_turn c.args.name.now (named c.args.name.now (children 0 (front c.args.count (forest c.args.ahead.now)))) c.loop-turn.at (c.args.count - c.loop-turn.turn) (c.args.count - (c.loop-turn.turn + 1)) c.pass-leaves.result.1 (c.loop-turn.at + c.pass-leaves.result.1)
          c.loop-turn.rest.now c.pass-leaves.result.0.now c.in-Some.element.now c.in-Some.inside.now
          c.loop-turn.invariant.sought c.in-Some.ensures.cases.0 (omega arith) (omega arith) other c.pass-leaves.ensures.rest c.pass-leaves.ensures.leaves refl;
      few = omega (arith, c.pass-leaves.ensures.few, c.loop-turn.invariant.few);
    }
