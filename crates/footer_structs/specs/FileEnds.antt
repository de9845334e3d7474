-- What stands at the ends of a file (the parquet-format README, "File format").
use Rattle.std.specs.Prelude.{ℕ, List, codes}

-- the magic number, at both ends
abbrev pub magic : List ℕ
magic = codes "PAR1"

-- how many bytes a footer has at most
abbrev pub footer_limit : ℕ
footer_limit = 67108864
