-- What a reader or a writer of std shows as a device.
use Rattle.std.specs.Prelude.{ℕ}
use Rattle.outside.specs.declared.streams.StdSource.{StdSource}
use Rattle.outside.specs.declared.streams.StdSink.{StdSink}

-- the reader inside
abbrev pub reader_of : {R : Type 0} → StdSource R → R
reader_of s = s.inner

abbrev pub read_faults : {R : Type 0} → StdSource R → ℕ
read_faults s = s.faults

-- the writer inside
abbrev pub writer_of : {W : Type 0} → StdSink W → W
writer_of s = s.inner

abbrev pub write_faults : {W : Type 0} → StdSink W → ℕ
write_faults s = s.faults
