use Rattle.std.proofs.Common.{◌≡◌, ◌∙◌, ◌<◌, ◌≤◌, refl, ap, subst, ℕ, [], ◌++◌, ◌+◌, ◌-◌, length, drop, length-drop, arith}
use Rattle.hybrid_levels.specs.Hybrid.{front_part}
use Rattle.hybrid_levels.proofs.Ahead.{Ahead, at_start, one_on, stopped, called, sized, unsized}
use Rattle.hybrid_levels.proofs.measuring.measure.Goals as goal

pub loop-found-init : goal.loop-found-init
loop-found-init c = record {
  numbers = [];
  ahead = at_start c.args.width c.args.count c.args.bytes.now;
  inside = omega arith;
  within = omega arith;
}

pub loop-found-preserved : goal.loop-found-preserved
loop-found-preserved c =
    let width = c.args.width in
    let count = c.args.count in
    let bytes = c.args.bytes.now in
    let at = c.loop-found.at in
    let found = c.loop-found.found in
    let more = c.in-Ok.more in
    let used = c.in-Ok.used in
    let less : found < count = omega (arith, c.loop-found-test.true) in
    let part = sized (front_part c.from.result (count - found) c.rest.result.now) more used c.in-Ok.ensures.exact in
    let gave = called c.from.result width (count - found) (count - found) c.rest.result.now (drop at bytes) c.from.ensures refl c.rest.ensures ∙ part.1.0 in
    let rest_len : length c.rest.result.now ≡ length bytes - at = ap length c.rest.ensures ∙ length-drop at bytes in
    let inside : at + used ≤ length bytes = omega (arith, c.in-Ok.ensures.inside, rest_len, c.loop-found.invariant.inside) in
    let next = one_on width count bytes at found used c.loop-found.invariant.numbers part.0 c.loop-found.invariant.ahead less inside c.in-Ok.ensures.least gave in
    record {
      numbers = c.loop-found.invariant.numbers ++ part.0;
      ahead = subst (λ (k : ℕ). Ahead width count bytes (at + used) (found + k) (c.loop-found.invariant.numbers ++ part.0)) part.1.1 next;
      inside = inside;
      within = omega (arith, c.in-Ok.ensures.within, less);
    }

pub returns-in-Err-clause-exact : goal.returns-in-Err-clause-exact
returns-in-Err-clause-exact c =
    let bytes = c.args.bytes.now in
    let left = c.args.count - c.loop-found.found in
    let part = unsized (front_part c.from.result left c.rest.result.now) c.in-Err.rule c.in-Err.ensures.exact in
    let gave = called c.from.result c.args.width left left c.rest.result.now (drop c.loop-found.at bytes) c.from.ensures refl c.rest.ensures ∙ part in
    let all = stopped c.args.width c.args.count bytes c.loop-found.at c.loop-found.found c.loop-found.invariant.numbers c.in-Err.rule c.loop-found.invariant.ahead (omega (arith, c.loop-found-test.true)) gave in
    rw all refl
