use Rattle.std.proofs.Common.{◌≡◌, sym, subst, ℕ, suc, ◌+◌, ◌-◌, List, arith}
use Rattle.plain_values.specs.Plain.{front_cell}
use Rattle.pages.proofs.Judged.{IsAsGood, one_judged, one_refused}
use Rattle.pages.proofs.judging.judge_in_turn.Goals as goal

pub loop-i-preserved : goal.loop-i-preserved
loop-i-preserved c =
    let front = front_cell c.args.leaf.now.phys c.args.leaf.now.prim in
    let count = c.args.count in
    let i = c.loop-i._i in
    let one : count - i ≡ suc (count - (i + 1)) = omega (arith, c.loop-i-test.true) in
    let before = subst (λ (n : ℕ). IsAsGood front count c.args.bytes.now n c.loop-i.left.now) one c.loop-i.invariant in
    subst (λ (rest : List ℕ). IsAsGood front count c.args.bytes.now (count - (i + 1)) rest) (sym c.rest-left.ensures) (one_judged front count c.args.bytes.now (count - (i + 1)) c.loop-i.left.now c.in-Ok.used before c.in-Ok.ensures.exact)

pub returns-in-Err-clause-err : goal.returns-in-Err-clause-err
returns-in-Err-clause-err c =
    let front = front_cell c.args.leaf.now.phys c.args.leaf.now.prim in
    let count = c.args.count in
    let i = c.loop-i._i in
    let one : count - i ≡ suc (count - (i + 1)) = omega (arith, c.loop-i-test.true) in
    let before = subst (λ (n : ℕ). IsAsGood front count c.args.bytes.now n c.loop-i.left.now) one c.loop-i.invariant in
    one_refused front count c.args.bytes.now (count - (i + 1)) c.loop-i.left.now c.in-Err.rule before c.in-Err.ensures.exact
