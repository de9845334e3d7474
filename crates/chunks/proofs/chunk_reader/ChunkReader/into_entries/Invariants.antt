use Rattle.std.proofs.Common.{length}
use Rattle.chunks.specs.Pieces.{all_of}
use Rattle.chunks.proofs.Gathered.{Gathered}
use Rattle.chunks.proofs.chunk_reader.ChunkReader.into_entries.Given as goal

abbrev pub invariant-loop-page : goal.invariant-loop-page
invariant-loop-page l = Gathered l.fn.self l.reader (all_of l.found.items)

abbrev pub decreases-loop-page : goal.decreases-loop-page
decreases-loop-page l = length l.reader.rest
