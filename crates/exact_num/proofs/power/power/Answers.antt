use Rattle.std.proofs.Common.{◌≡◌, ◌∙◌, ap, ℕ, ◌*◌, ◌^◌, ◌<◌, refl, arith, length, get_or}
use Rattle.exact_num.specs.declared.power.TheConstants.{POWERS}
use Rattle.exact_num.proofs.Powers.{power_at, ten_some, ten_rises}
use Rattle.exact_num.proofs.power.power.Goals as goal

pub returns-clause-value : goal.returns-clause-value
returns-clause-value c =
    let inside : c.from.result < length POWERS = omega (arith, c.requires, c.from.ensures) in
    power_at POWERS 1 c.from.result refl inside ∙ ap (λ (k : ℕ). 1 * 10 ^ k) c.from.ensures ∙ omega arith

pub returns-clause-some : goal.returns-clause-some
returns-clause-some c =
    let inside : c.from.result < length POWERS = omega (arith, c.requires, c.from.ensures) in
    let value : get_or POWERS c.from.result 0 ≡ 1 * 10 ^ c.from.result = power_at POWERS 1 c.from.result refl inside in
    let some = ten_some c.from.result in
    omega (arith, value, some)

pub returns-clause-small : goal.returns-clause-small
returns-clause-small c =
    let inside : c.from.result < length POWERS = omega (arith, c.requires, c.from.ensures) in
    let value : get_or POWERS c.from.result 0 ≡ 1 * 10 ^ c.from.result = power_at POWERS 1 c.from.result refl inside in
    let most = ten_rises c.from.result 38 (omega (arith, c.requires, c.from.ensures)) in
    omega (arith, value, most)
