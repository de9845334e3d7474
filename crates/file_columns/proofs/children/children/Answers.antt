use Rattle.std.proofs.Common.{◌∙◌, ap, refl, ◌+◌, ◌-◌, [], ◌∷◌, map, arith}
use Rattle.std.proofs.lemmas.List.{map-append}
use Rattle.file_columns.specs.Columns.{children}
use Rattle.file_columns.specs.Forests.{front, forest}
use Rattle.file_columns.specs.Views.{seen}
use Rattle.file_columns.proofs.Passing.{listed_turn}
use Rattle.file_columns.proofs.children.children.Goals as goal

pub loop-turn-preserved : goal.loop-turn-preserved
loop-turn-preserved c = record {
  listed =
      listed_turn (children c.args.place (front c.args.count (forest c.args.ahead.now))) (map seen c.loop-turn.list.items) (map seen c.push.new.self.items) _ c.loop-turn.at (c.args.count - c.loop-turn.turn) (c.args.count - (c.loop-turn.turn + 1)) c.pass-leaves.result.1 (c.loop-turn.at + c.pass-leaves.result.1)
      c.loop-turn.rest.now c.pass-leaves.result.0.now c.in-Some.element.now c.in-Some.inside.now
      c.loop-turn.invariant.listed c.in-Some.ensures.cases.0 (omega arith) (omega arith) c.pass-leaves.ensures.rest c.pass-leaves.ensures.leaves refl refl
      (ap (map seen) c.in_ok-push.ensures.items ∙ map-append seen c.loop-turn.list.items (_ ∷ []));
  few = omega (arith, c.pass-leaves.ensures.few, c.loop-turn.invariant.few);
}
