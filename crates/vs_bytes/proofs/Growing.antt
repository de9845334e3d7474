-- Bytes that are appended.
use Rattle.std.proofs.Common.{◌∙◌, ap, ℕ, List, ◌++◌, append_assoc}
use Rattle.vs_bytes.specs.Outcome.{Grows}

pub grows_more : (old new more : List ℕ) → Grows old new → Grows old (new ++ more)
grows_more old new more g = (g.0 ++ more, ap (λ (xs : List ℕ). xs ++ more) g.1 ∙ append_assoc old g.0 more)

pub grows_on : (old new last : List ℕ) → Grows old new → Grows new last → Grows old last
grows_on old new last g h = (g.0 ++ h.0, h.1 ∙ ap (λ (xs : List ℕ). xs ++ h.0) g.1 ∙ append_assoc old g.0 h.0)
