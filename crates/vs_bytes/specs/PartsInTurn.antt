-- Lists that are read part by part, each with how many bytes it took.
use Rattle.std.specs.Prelude.{ℕ, ◌+◌, List, ◌++◌, Result, Ok}
use Rattle.vs_bytes.specs.Outcome.{◌>>=◌}

-- items that took `used` bytes, in front of those that are read after them
abbrev pub after : {A F : Type 0} → List A → ℕ → Result (List A × ℕ) F → Result (List A × ℕ) F
after xs used rest = rest >>= (λ p. Ok (xs ++ p.0, used + p.1))
