use Rattle.std.proofs.Common.{◌≤◌, arith}
use Rattle.variant_meta.proofs.Sizes.{wider}
use Rattle.variant_meta.proofs.dictionary.written_size.Goals as goal

pub returns-clause-count : goal.returns-clause-count
returns-clause-count c =
    let more : c.width_of.result ≤ c.max.result = omega (arith, c.max.ensures) in
    let all = wider c.max-greatest.result c.width_of.result c.max.result more c.width_of.ensures.holds in
    omega (arith, all, c.max-greatest.ensures)

pub returns-clause-bytes : goal.returns-clause-bytes
returns-clause-bytes c =
    let more : c.width_of.result ≤ c.max.result = omega (arith, c.max.ensures) in
    let all = wider c.max-greatest.result c.width_of.result c.max.result more c.width_of.ensures.holds in
    omega (arith, all, c.max-greatest.ensures, c.total_len.ensures)
