-- Nothing is gathered of no documents: stands here for a law of a trait, which takes no lemma of proofs/.
use Rattle.std.specs.Prelude.{[], refl}
use Rattle.outside.specs.Output.{Output}
use Rattle.outside.specs.Sending.{sends_nothing}
use Rattle.variant_store.specs.Gathering.{Gathers}
use Rattle.variant_store.specs.Stream.{Stream}

pub gathers_nothing : (stream : Stream) (a : Output) → Gathers stream stream a a []
gathers_nothing stream a = record { same = refl; sends = sends_nothing a }
