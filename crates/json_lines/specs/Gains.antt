-- What a read adds to the held bytes.
use Rattle.std.specs.Prelude.{◌≡◌, ℕ, ◌+◌, List, ◌++◌, length, take, Result, Ok, Err}
use Rattle.std.specs.Io.KnownBytes.{Consumes, IsAtEnd, Keeps}
use Rattle.outside.specs.Devices.{Device, IsCalm, Fails}
use Rattle.outside.specs.declared.source.SourceError.{SourceError}
use Rattle.outside.specs.declared.source.SourceError.TheVariants.{Failed}

-- bytes of the source stand now after those that were held: `count` of them, none only at the end
pub record Gains (before after : Device) (old new : List ℕ) (count : ℕ) : Type 0 where
  pub bytes : List ℕ
  pub grown : new ≡ old ++ bytes
  pub size : length bytes ≡ count
  pub taken : Consumes before.bytes after.bytes bytes
  pub end : count ≡ 0 → IsAtEnd after.bytes
  pub calm : IsCalm before after

-- a read that failed took nothing
abbrev pub Lost : Device → Device → SourceError → Type 0
Lost before after Failed = Keeps before.bytes after.bytes × Fails before after

abbrev pub ReadsMore : Device → Device → List ℕ → List ℕ → Result ℕ SourceError → Type 0
ReadsMore before after old new (Ok count) = Gains before after old new count
ReadsMore before after old new (Err error) = (new ≡ old) × Lost before after error

-- the same, where the bytes are read into a buffer from a place on
abbrev pub ReadsAt : ℕ → Device → Device → List ℕ → List ℕ → Result ℕ SourceError → Type 0
ReadsAt from before after old new (Ok count) = Gains before after (take from old) (take (from + count) new) count
ReadsAt from before after old new (Err error) = Lost before after error
