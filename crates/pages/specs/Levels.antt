-- The levels in the body of a page (README.md of parquet-format, "Data Pages", and Encodings.md): the length of
-- the RLE/bit-packing hybrid in 4 bytes, and the hybrid, whose width is that of the maximum level. No bytes stand
-- there where the maximum is 0.
use Rattle.std.specs.Prelude.{ℕ, ◌+◌, ◌-◌, ◌==◌, nat_lt, if◌then◌else◌, List, length, replicate, Result, Ok, Err}
use Rattle.std.specs.List.{list_any}
use Rattle.std.specs.Int.{leading_zeros, w16}
use Rattle.vs_bytes.specs.Numbers.{number, part}
use Rattle.vs_bytes.specs.Outcome.{◌>>=◌}
use Rattle.vs_bytes.specs.declared.rule.Rule.{Rule}
use Rattle.vs_bytes.specs.declared.rule.Rule.TheVariants.{RunShort, LevelRange}
use Rattle.hybrid_levels.specs.Hybrid.{decoded}

-- how many bits a level takes
abbrev pub level_width : ℕ → ℕ
level_width maximum = 16 - leading_zeros w16 maximum

-- the part after its length, and how many bytes both take
unfoldable pub prefixed : List ℕ → Result (List ℕ × ℕ) Rule
prefixed bytes =
    if nat_lt (length bytes) 4 then Err RunShort
    else if nat_lt (length bytes) (4 + number bytes 0 4) then Err RunShort
    else Ok (part bytes 4 (number bytes 0 4), 4 + number bytes 0 4)

-- levels, of which none is above the maximum
abbrev pub within : ℕ → List ℕ → Result (List ℕ) Rule
within maximum levels = if list_any (λ level. nat_lt maximum level) levels then Err LevelRange else Ok levels

-- `count` levels of a hybrid
unfoldable pub stored : ℕ → ℕ → List ℕ → Result (List ℕ) Rule
stored maximum count bytes = decoded (level_width maximum) count bytes >>= (λ d. within maximum d.0)

-- `count` levels from the front, and how many bytes they take, or the first rule that is violated
unfoldable pub levels_of : ℕ → ℕ → List ℕ → Result (List ℕ × ℕ) Rule
levels_of maximum count bytes =
    if maximum == 0 then Ok (replicate count 0, 0)
    else prefixed bytes >>= (λ p. stored maximum count p.0 >>= (λ levels. Ok (levels, p.1)))
