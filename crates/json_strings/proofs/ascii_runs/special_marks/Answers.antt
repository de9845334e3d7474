use Rattle.std.proofs.Common.{ℕ, cond, arith}
use Rattle.std.specs.Prelude.{nat_lt}
use Rattle.std.proofs.lemmas.Simd.{zip2_splat, zip2_splat_left}
use Rattle.json_strings.specs.AsciiRuns.{is_special}
use Rattle.json_strings.proofs.ClearRuns.{either, mask_is}
use Rattle.json_strings.proofs.ascii_runs.special_marks.Goals as goal

pub returns : goal.returns
unfolding is_special
returns c =
    let v = c.args.bytes in
    let long = c.fits-bytes.0 in
    mask_is is_special v _ (omega arith)
    (either _ _ v (either _ _ v (either _ _ v (zip2_splat _ v 16 34 long) (zip2_splat _ v 16 92 long)) (zip2_splat _ v 16 32 long)) (zip2_splat_left (λ (a b : ℕ). cond (nat_lt a b) 255 0) 127 16 v long))
