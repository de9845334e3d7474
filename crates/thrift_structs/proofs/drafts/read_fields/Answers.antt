use Rattle.std.proofs.Common.{◌≡◌, refl, ◌+◌, ◌-◌, sym, subst, ◌∙◌, arith, rules, length, ℤ, to_z, to_z-of_z, SFits, w16}
use Rattle.std.proofs.lemmas.Result.{err_from_is_err_and}
use Rattle.thrift_compact.specs.Numbers.{mapped}
use Rattle.thrift_compact.specs.Trees.{fields_at, struct_at, known_at}
use Rattle.thrift_compact.specs.Slots.{filled}
use Rattle.thrift_compact.proofs.Filling.{turn}
use Rattle.thrift_structs.proofs.FieldValues.{makes_fails}
use Rattle.thrift_structs.proofs.drafts.read_fields.Goals as goal

pub returns-in_err-rest-in-Some : goal.returns-in_err-rest-in-Some
returns-in_err-rest-in-Some g c =
    let fits : SFits w16 c.in-Some.id = search rules in
    let own = rw (to_z-of_z fits) at c.in_err-rest-in-Some.ensures in
    let head = c.in_ok-head.ensures in
    let step = turn g.D.Draft.put c.loop-turn.held (known_at g.D.Draft.shapes) (length c.args.bytes.now) c.loop-turn.turn (to_z w16 c.loop-turn.last-bits) c.loop-turn.rest.now (omega (arith, c.loop-turn-test.true)) in
    let all = rw (head, c.in-Some.is) at step in
    let p = err_from_is_err_and c.from_residual-in_err-rest-in-Some.result c.from_residual-in_err-rest-in-Some.ensures.1 in
    rw (p.1, p.2) (makes_fails c.in_err-rest-in-Some.field-0.0 _ _ own (λ fault e. sym c.loop-turn.invariant ∙ all ∙ rw e refl))

pub loop-turn-preserved : goal.loop-turn-preserved
loop-turn-preserved g c =
    let fits : SFits w16 c.in-Some.id = search rules in
    let own = rw (to_z-of_z fits) at c.in_ok-rest-in-Some.ensures in
    let head = c.in_ok-head.ensures in
    let step = turn g.D.Draft.put c.loop-turn.held (known_at g.D.Draft.shapes) (length c.args.bytes.now) c.loop-turn.turn (to_z w16 c.loop-turn.last-bits) c.loop-turn.rest.now (omega (arith, c.loop-turn-test.true)) in
    let all = rw (head, c.in-Some.is, own) at step in
    subst (λ (last : ℤ). mapped (filled g.D.Draft.put c.field.new.held) (fields_at (known_at g.D.Draft.shapes) (length c.args.bytes.now - (c.loop-turn.turn + 1)) last c.in_ok-rest-in-Some.rest.now) ≡ mapped (filled g.D.Draft.put g.D.Draft.start) (struct_at (known_at g.D.Draft.shapes) c.args.bytes.now)) (sym (to_z-of_z fits)) (sym all ∙ c.loop-turn.invariant)
