use Rattle.std.proofs.Common.{◌∙◌, sym, ap, subst, List, [], ◌∷◌, ◌++◌, ℕ, ◌+◌, ◌-◌, drop, Err, Result, arith}
use Rattle.vs_bytes.specs.Outcome.{Makes}
use Rattle.vs_bytes.specs.declared.leaf_columns.Cell.{Cell}
use Rattle.vs_bytes.specs.declared.rule.Rule.{Rule}
use Rattle.plain_values.specs.Plain.{front_cell, cells}
use Rattle.plain_values.proofs.CellsInTurn.{joined, one_more, stopped}
use Rattle.plain_values.proofs.decoding.cells.Goals as goal

pub returns-in-Err-front_cell : goal.returns-in-Err-front_cell
returns-in-Err-front_cell c =
    let leaf = c.args.leaf.now in
    let front = front_cell leaf.phys leaf.prim in
    let all = stopped front c.args.count c.loop-i._i c.loop-i.left.now c.loop-i.found.items c.in-Err-front_cell.refusal (omega (arith, c.loop-i-test.true)) c.in-Err-front_cell.ensures.exact in
    subst (λ (r : Result (List Cell) Rule). Makes {A = List Cell} (λ cs. cs) (Err c.in-Err-front_cell.refusal) r) c.loop-i.invariant.whole all

pub loop-i-preserved : goal.loop-i-preserved
loop-i-preserved c =
    let leaf = c.args.leaf.now in
    let front = front_cell leaf.phys leaf.prim in
    let still = c.args.count - (c.loop-i._i + 1) in
    let left = cells front still (drop c.in-Ok-front_cell.used c.loop-i.left.now) in
    record {
      whole =
          ap (λ (bs : List ℕ). joined c.push_reserved.new.self.items (cells front still bs)) c.rest-left.ensures
          ∙ ap (λ (cs : List Cell). joined cs left) (c.push_reserved.ensures.items ∙ ap (λ (cs : List Cell). cs ++ c.in-Ok-front_cell.cell ∷ []) c.reserve.ensures.items)
          ∙ sym (one_more front c.args.count c.loop-i._i c.loop-i.left.now c.loop-i.found.items c.in-Ok-front_cell.used c.in-Ok-front_cell.cell (omega (arith, c.loop-i-test.true)) c.in-Ok-front_cell.ensures.exact)
          ∙ c.loop-i.invariant.whole;
    }
