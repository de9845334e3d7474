use Rattle.std.proofs.Common.{◌≡◌, ◌∙◌, ◌<◌, ◌≤◌, sym, ap, subst, List, ℕ, ◌+◌, ◌-◌, ◌++◌, length, take, drop, take_all, length-take, length-drop, Ok, arith}
use Rattle.hybrid_levels.proofs.Ahead.{Ahead, at_start, at_end, one_on, stopped, called}
use Rattle.hybrid_levels.proofs.Unpacked.{front_joined}
use Rattle.hybrid_levels.proofs.decoding.decode.Goals as goal

-- the room that is left in a list of `len` numbers
room_left : (filled len : ℕ) (xs : List ℕ) → length xs ≡ len → length (take (length xs - filled) (drop filled xs)) ≡ len - filled
room_left filled len xs size = simp (length-take, length-drop) (omega (arith, size))

pub loop-filled-init : goal.loop-filled-init
loop-filled-init c = record {
  ahead = at_start c.args.width (length c.args.into.now) c.args.bytes.now;
  inside = omega arith;
  within = omega arith;
}

pub loop-filled-preserved : goal.loop-filled-preserved
loop-filled-preserved c =
    let width = c.args.width in
    let bytes = c.args.bytes.now in
    let len = length c.args.into.now in
    let at = c.loop-filled.at in
    let filled = c.loop-filled.filled in
    let old = c.loop-filled.into in
    let new = c.front_part.new.into in
    let count = c.in-Ok.count in
    let used = c.in-Ok.used in
    let size : length old ≡ len = c.loop-filled.auto.into in
    let less : filled < len = omega (arith, c.loop-filled-test.true, size) in
    let room = room_left filled len old size in
    let new_len : length new ≡ len - filled = c.front_part.auto.into ∙ room in
    let few : count ≤ length new = omega (arith, c.in-Ok.ensures.within, room, new_len) in
    let gave = called c.from.result width _ (len - filled) c.rest.result.now (drop at bytes) c.from.ensures room c.rest.ensures ∙ c.in-Ok.ensures.exact in
    let rest_len : length c.rest.result.now ≡ length bytes - at = ap length c.rest.ensures ∙ length-drop at bytes in
    let inside : at + used ≤ length bytes = omega (arith, c.in-Ok.ensures.inside, rest_len, c.loop-filled.invariant.inside) in
    let count_is : length (take count new) ≡ count = let e = length-take count new in omega (arith, e, few) in
    let next = one_on width len bytes at filled used (take filled old) (take count new) c.loop-filled.invariant.ahead less inside c.in-Ok.ensures.least gave in
    record {
      ahead =
          subst (λ (xs : List ℕ). Ahead width len bytes (at + used) (filled + count) xs)
          (sym (front_joined filled (length old - filled) count old new (omega (arith, less, size)) few))
          (subst (λ (k : ℕ). Ahead width len bytes (at + used) (filled + k) (take filled old ++ take count new)) count_is next);
      inside = inside;
      within = omega (arith, few, new_len, less);
    }

pub returns-in-Err-clause-exact : goal.returns-in-Err-clause-exact
returns-in-Err-clause-exact c =
    let bytes = c.args.bytes.now in
    let len = length c.args.into.now in
    let filled = c.loop-filled.filled in
    let size : length c.loop-filled.into ≡ len = c.loop-filled.auto.into in
    let room = room_left filled len c.loop-filled.into size in
    let gave = called c.from.result c.args.width _ (len - filled) c.rest.result.now (drop c.loop-filled.at bytes) c.from.ensures room c.rest.ensures ∙ c.in-Err.ensures.exact in
    stopped c.args.width len bytes c.loop-filled.at filled (take filled c.loop-filled.into) c.in-Err.rule c.loop-filled.invariant.ahead (omega (arith, c.loop-filled-test.true, size)) gave

pub returns-clause-exact : goal.returns-clause-exact
returns-clause-exact c =
    let done = c.loop-filled-test.false in
    let size = c.loop-filled.auto.into in
    at_end c.args.width (length c.args.into.now) c.args.bytes.now c.loop-filled.at c.loop-filled.filled (take c.loop-filled.filled c.loop-filled.into) (omega (arith, done, size)) c.loop-filled.invariant.ahead
    ∙ ap (λ (xs : List ℕ). Ok (xs, c.loop-filled.at)) (take_all c.loop-filled.filled c.loop-filled.into (omega (arith, done, size)))
