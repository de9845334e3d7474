use Rattle.std.proofs.Common.{◌≡◌, ◌∙◌, ap, arith}
use Rattle.byteorder.specs.Endian.{little_number}
use Rattle.vs_bytes.specs.Numbers.{number}
use Rattle.vs_bytes.proofs.Numbers.{number_fits, four_bytes}
use Rattle.vs_bytes.proofs.little_endian.Le.read.Goals as goal

pub overflow_cast-result : goal.overflow_cast-result
overflow_cast-result g c =
    let same : c.read_uint.result ≡ number c.args.bytes.now c.args.at g.row.W = c.read_uint.ensures ∙ ap (little_number g.row.W) c.rest.ensures in
    let fits = number_fits c.args.bytes.now c.args.at g.row.W (λ k. omega (arith, c.type_inv.bytes k)) in
    let small = four_bytes (number c.args.bytes.now c.args.at g.row.W) g.row.W c.requires.most fits in
    omega (arith, same, small)

pub returns-clause-fits : goal.returns-clause-fits
returns-clause-fits g c =
    let same : c.read_uint.result ≡ number c.args.bytes.now c.args.at g.row.W = c.read_uint.ensures ∙ ap (little_number g.row.W) c.rest.ensures in
    let fits = number_fits c.args.bytes.now c.args.at g.row.W (λ k. omega (arith, c.type_inv.bytes k)) in
    rw same fits
