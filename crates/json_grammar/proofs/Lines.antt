-- Whole lines.
use Rattle.std.proofs.Common.{◌≡◌, refl, sym, ◌∙◌, subst, ℕ, ◌≤◌, max, List, [], ◌∷◌, true, Some, append-nil, arith}
use Rattle.json_grammar.specs.Grammar.{Written, IsGap, nesting, spelled, IsWrittenAs}
use Rattle.json_grammar.specs.Reading.{gap_of, past_gap, text_within, document_at}
use Rattle.byte_parsing.specs.Parse.{Stops}
use Rattle.byte_parsing.specs.Words.{is_empty, is_numeric}
use Rattle.json_grammar.proofs.Gaps.{gap_quiet, gap_front, gap_split, past_gap_is}
use Rattle.byte_parsing.proofs.Holds.{Holds, holds_none, holds_some, holds_then, holds_if}
use Rattle.json_grammar.proofs.Complete.{begins, complete}
use Rattle.json_grammar.proofs.Sound.{IsRead, sound}

text_complete : (line : List ℕ) (w : Written) (d : ℕ) → IsWrittenAs line w → nesting w ≤ d → text_within d line ≡ Some w
text_complete line w d l n =
    let quiet : Stops is_numeric l.after = rw append-nil at (gap_quiet l.after [] l.is_gap_after tt) in
    let ended : past_gap l.after ≡ [] = rw append-nil at (past_gap_is l.after [] l.is_gap_after tt) in
    rw (l.bytes, past_gap_is l.before (spelled w l.after) l.is_gap (begins w l.after l.is_well).0, complete w d l.after l.is_well n quiet, ended) refl

is_gap : (xs : List ℕ) → is_empty (past_gap xs) ≡ true → IsGap xs
is_gap xs e = subst IsGap (sym (gap_split xs [] (none (past_gap xs) e) ∙ append-nil (gap_of xs))) (gap_front xs)
  where
    none : (ys : List ℕ) → is_empty ys ≡ true → ys ≡ []
    none [] e = refl
    none (y ∷ ys) e = cc

text_sound : (d : ℕ) (line : List ℕ) → Holds (λ w. IsRead (IsWrittenAs line w) (nesting w) d) (text_within d line)
text_sound d line =
    holds_then _ _ _ _ (sound d (past_gap line)) (λ read p.
    holds_if _ _ _ _ (λ e. holds_some _ _ (record {
      well = record { before = gap_of line; after = read.1; bytes = gap_split line _ p.0; is_gap = gap_front line; is_well = p.1.well; is_gap_after = is_gap read.1 e };
      within = p.1.within;
    }))
    (λ _. holds_none _))

pub line_complete : (line : List ℕ) (w : Written) → IsWrittenAs line w → nesting w ≤ 64 → document_at line ≡ Some w
line_complete line w l n = text_complete line w 64 l n

pub line_sound : (line : List ℕ) (w : Written) → document_at line ≡ Some w → IsWrittenAs line w × (nesting w ≤ 64)
line_sound line w e = let h = (text_sound 64 line).here w e in (h.well, h.within)

pub written_once : (line : List ℕ) (v w : Written) → IsWrittenAs line v → IsWrittenAs line w → v ≡ w
written_once line v w k l =
    let d : ℕ = max (nesting v) (nesting w) in
    let one : text_within d line ≡ Some v = text_complete line v d k (omega arith) in
    let other : text_within d line ≡ Some w = text_complete line w d l (omega arith) in
    cc
