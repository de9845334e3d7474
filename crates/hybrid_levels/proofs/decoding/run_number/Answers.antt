use Rattle.std.proofs.Common.{◌∙◌, ap, length, arith}
use Rattle.std.proofs.lemmas.List.{take_all}
use Rattle.vs_bytes.specs.PackedNumbers.{little}
use Rattle.vs_bytes.proofs.PackedNumbers.{little_front}
use Rattle.hybrid_levels.proofs.decoding.run_number.Goals as goal

pub returns : goal.returns
returns c =
    c.number_at.ensures.value
    ∙ little_front (length c.args.bytes.now) c.args.bytes.now
    ∙ ap little (take_all (length c.args.bytes.now) c.args.bytes.now (omega arith))
