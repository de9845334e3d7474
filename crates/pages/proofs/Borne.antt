-- What the headers of levels don't bear isn't read.
use Rattle.std.proofs.Common.{◌≡◌, ap, ℕ, List, Result, Ok, Err}
use Rattle.vs_bytes.specs.Outcome.{◌>>=◌}
use Rattle.vs_bytes.specs.declared.rule.Rule.{Rule}
use Rattle.hybrid_levels.specs.Hybrid.{decoded}
use Rattle.hybrid_levels.specs.Hybrid.{decoded_len}
use Rattle.pages.specs.Levels.{level_width, within, stored}

never : {A F : Type 0} (a : A) (fault : F) → Ok a ≡ Err fault → ⊥
never a fault h = let wrong : Ok a ≡ Err fault = h in cc

refused : (r : Result (List ℕ × ℕ) Rule) (f : List ℕ × ℕ → Result (List ℕ) Rule) (rule : Rule) → (r >>= (λ d. Ok d.1)) ≡ Err rule → (r >>= f) ≡ Err rule
refused (Ok d) f rule e = absurd (never d.1 rule e)
refused (Err found) f rule e = let same : found ≡ rule = cc in ap (λ (x : Rule). Err x) same

pub unborne : (maximum count : ℕ) (bytes : List ℕ) (rule : Rule) → decoded_len (level_width maximum) count bytes ≡ Err rule → stored maximum count bytes ≡ Err rule
unfolding stored
unborne maximum count bytes rule e = refused (decoded (level_width maximum) count bytes) (λ d. within maximum d.0) rule e
