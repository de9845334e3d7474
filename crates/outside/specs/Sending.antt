-- Nothing is sent where nothing changes: stands here for laws of traits, which take no lemma of proofs/.
use Rattle.std.specs.Prelude.{List, ℕ, [], ◌++◌, Option, None, Some, refl}
use Rattle.std.proofs.Common.{ap, sym, append-nil}
use Rattle.std.specs.Io.KnownBytes.{Appends, append_known}
use Rattle.outside.specs.Output.{Output, Sends}

pub sends_nothing : (a : Output) → Sends a a []
sends_nothing a = record { gathers = gathered a.device.bytes; extends = ([], kept a.device.bytes); calm = refl }
  where
    kept : (o : Option (List ℕ)) → Appends o o []
    kept None = tt
    kept (Some xs) = sym (append-nil xs)

    gathered : (o : Option (List ℕ)) → Appends o (append_known o a.pending) (a.pending ++ [])
    gathered None = tt
    gathered (Some xs) = ap (λ (s : List ℕ). xs ++ s) (sym (append-nil a.pending))
