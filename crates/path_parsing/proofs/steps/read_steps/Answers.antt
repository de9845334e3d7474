use Rattle.std.proofs.Common.{◌≡◌, ◌-◌, ◌+◌, sym, subst, arith, suc, length, List}
use Rattle.std.proofs.lemmas.Result.{err_from_is_err_and}
use Rattle.query_tree.specs.declared.step.Step.{Step}
use Rattle.path_parsing.specs.Reading.{steps_at}
use Rattle.byte_parsing.specs.Parse.{read_as}
use Rattle.vs_bytes.proofs.Refusals.{fails}
use Rattle.path_parsing.specs.Grammar.{path_of}
use Rattle.path_parsing.proofs.Turns.{steps_before, all_read, too_many, no_step, next_step}
use Rattle.path_parsing.proofs.steps.read_steps.Goals as goal

pub returns-then-len-eq-MAX_STEPS : goal.returns-then-len-eq-MAX_STEPS
returns-then-len-eq-MAX_STEPS c = too_many _ c.turns.rest.now _ _ (sym c.turns-test.ensures) (omega arith) c.turns.invariant.read

pub returns-in_err-step : goal.returns-in_err-step
returns-in_err-step c =
    let left : 64 - length c.turns.steps.items ≡ suc (63 - length c.turns.steps.items) = omega arith in
    let fault = err_from_is_err_and c.from_residual.result c.from_residual.ensures.1 in
    rw (fault.1, fault.2) (fails c.in_err-step.field-0.0 _ _ c.in_err-step.ensures (λ none. no_step _ _ c.turns.rest.now _ _ (sym c.turns-test.ensures) left none c.turns.invariant.read))

pub turns-preserved : goal.turns-preserved
turns-preserved c =
    let steps = c.turns.steps.items in
    let len : length c.push.new.self.items ≡ length steps + 1 = c.in_ok-push.ensures.len in
    let left : 64 - length steps ≡ suc (64 - length c.push.new.self.items) = omega arith in
    let turn = next_step _ _ c.turns.rest.now c.in_ok-step.step c.in_ok-step.more.now steps _ (sym c.turns-test.ensures) left c.in_ok-step.ensures c.turns.invariant.read in
    record {
      few = omega arith;
      read = subst (λ (ss : List Step). steps_before ss (read_as path_of (steps_at (64 - length c.push.new.self.items) c.in_ok-step.more.now)) ≡ read_as path_of (steps_at 64 c.args.text.now)) (sym c.in_ok-push.ensures.ok) turn;
    }

pub returns : goal.returns
returns c = all_read _ c.turns.rest.now _ _ (sym c.turns-test.ensures) c.turns.invariant.read
