-- Bytes within others.
use Rattle.std.proofs.Common.{◌≡◌, ◌∙◌, sym, ap, ℕ, List, ◌++◌, take, drop, append_assoc}
use Rattle.std.proofs.lemmas.List.{take-append-drop}
use Rattle.vs_bytes.specs.Numbers.{part, IsPart}

pub part_is : (bytes : List ℕ) (at len : ℕ) → IsPart (part bytes at len) bytes
part_is bytes at len = record {
  before = take at bytes;
  after = drop len (drop at bytes);
  joined = sym (take-append-drop at bytes) ∙ ap (λ (xs : List ℕ). take at bytes ++ xs) (sym (take-append-drop len (drop at bytes)));
}

regroup : (p q a r s : List ℕ) → p ++ ((q ++ (a ++ r)) ++ s) ≡ (p ++ q) ++ (a ++ (r ++ s))
regroup p q a r s = simp append_assoc

-- a part of a part
pub part_on : (piece part whole : List ℕ) → IsPart piece part → IsPart part whole → IsPart piece whole
part_on piece part whole g h = record {
  before = h.before ++ g.before;
  after = g.after ++ h.after;
  joined = h.joined ∙ ap (λ (xs : List ℕ). h.before ++ (xs ++ h.after)) g.joined ∙ regroup h.before g.before piece g.after h.after;
}
