use Rattle.std.proofs.Common.{◌∙◌, ◌<◌, sym, ap₂, ◌+◌, ◌*◌, ℕ, length, arith}
use Rattle.exact_num.proofs.ShortDigits.{size_ten, size_more, all_more, value_more}
use Rattle.exact_num.proofs.leading_reading.short_digits.Goals as goal

pub overflow_mul-value : goal.overflow_mul-value
overflow_mul-value c =
    let less : c.loop-at.at < c.args.most = omega (arith, c.min-end.ensures, c.loop-at-test.true) in
    let room = size_ten c.loop-at.value c.args.most c.loop-at.at less c.loop-at.invariant.small in
    omega arith

pub overflow_add-value : goal.overflow_add-value
overflow_add-value c =
    let less : c.loop-at.at < c.args.most = omega (arith, c.min-end.ensures, c.loop-at-test.true) in
    let room = size_ten c.loop-at.value c.args.most c.loop-at.at less c.loop-at.invariant.small in
    omega arith

pub loop-at-preserved : goal.loop-at-preserved
loop-at-preserved c =
    let less : c.loop-at.at < c.args.most = omega (arith, c.min-end.ensures, c.loop-at-test.true) in
    let inside : c.loop-at.at < length c.args.text.now = omega (arith, c.min-end.ensures, c.loop-at-test.true) in
    let digit = c.if-is_ascii_digit.ensures.cases in
    record {
      within = omega arith;
      all = all_more c.args.text.now c.loop-at.at inside digit c.loop-at.invariant.all;
      value = ap₂ (λ (n d : ℕ). n * 10 + d) c.loop-at.invariant.value c.from.ensures ∙ sym (value_more c.args.before c.args.text.now c.loop-at.at inside);
      small = size_more c.loop-at.value c.from.result c.args.most c.loop-at.at less (omega (arith, c.from.ensures, digit)) c.loop-at.invariant.small;
    }
