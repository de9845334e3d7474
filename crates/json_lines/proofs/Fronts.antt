-- What the held bytes begin with, by the place of their first LF.
use Rattle.std.proofs.Common.{◌≡◌, ◌∙◌, ℕ, ◌+◌, ◌-◌, ◌<◌, ◌≤◌, min, false, List, [], ◌∷◌, ◌++◌, Some, None, take, drop, get_or, length, refl, sym, ap, inl, inr, arith}
use Rattle.std.specs.Prelude.{Contains}
use Rattle.std.proofs.lemmas.Bool.{eq-eqb, cases_lt}
use Rattle.std.proofs.lemmas.List.{append-nil, get_or_default, length-take-le}
use Rattle.memchr.specs.Find.{Nowhere, Passes, IsFirstByte, is_byte}
use Rattle.json_lines.specs.Cut.{lines_of, first_line, found_over, max_line}
use Rattle.json_lines.specs.Next.{State, found, is_decided}
use Rattle.json_lines.specs.Front.{IsLine, IsLong, IsOpen, last_line}
use Rattle.json_lines.proofs.Cutting.{ended, ended_alone, lf_last, passed_limit, unended, unended_last, is_long-false, long_line, long_over, long_front}

module _ (s : State) where
  pub line_shown : (at : ℕ) → IsFirstByte (is_byte 10) s.held (Some at) → at ≤ max_line → at < s.room → IsLine s at
  line_shown at first short counts =
      record { short = short; counts = counts; inside = first.0.high; lf = lf_last s.held at first.0.high first.1; alone = λ tail. ended_alone s.held tail s.room at first.0.high counts first.0.before first.1 }

  pub long_ended : (at : ℕ) → IsFirstByte (is_byte 10) s.held (Some at) → max_line < min at s.room → at < s.room → IsLong s
  long_ended at first long counts =
      let size : length (take at s.held) ≡ at = length-take-le at s.held (omega (arith, first.0.high)) in
      record {
        counts = omega arith;
        ahead = λ rest. ap (first_line s.number) (ended s.held rest s.room at first.0.high counts first.0.before first.1) ∙ long_line s.number (take at s.held) (lines_of (s.room - (at + 1)) (drop (at + 1) s.held ++ rest)) (omega arith);
      }

  before_limit : (at : ℕ) → s.room ≤ at → Nowhere (Passes (is_byte 10) s.held) 0 at → Nowhere (Passes (is_byte 10) s.held) 0 s.room
  before_limit at h plain k low high p = plain k low (omega arith) p

  -- the limit falls into the first line, and more bytes came
  pub long_limit : s.room < length s.held → Nowhere (Passes (is_byte 10) s.held) 0 s.room → max_line < s.room → IsLong s
  long_limit more plain long =
      let size : length (take s.room s.held) ≡ s.room = length-take-le s.room s.held (omega arith) in
      record {
        counts = omega arith;
        ahead = λ rest. ap (first_line s.number) (passed_limit s.held rest s.room more plain) ∙ long_over s.number (take s.room s.held) (omega arith);
      }

  pub over_limit : s.room < length s.held → Nowhere (Passes (is_byte 10) s.held) 0 s.room → s.room ≤ max_line → (rest : List ℕ) → found s rest ≡ found_over
  over_limit more plain short rest =
      let size : length (take s.room s.held) ≡ s.room = length-take-le s.room s.held (omega arith) in
      ap (first_line s.number) (passed_limit s.held rest s.room more plain) ∙ rw (is_long-false (take s.room s.held) (omega arith)) refl

  pub long_some : (at : ℕ) → IsFirstByte (is_byte 10) s.held (Some at) → max_line < min at s.room → IsLong s
  long_some at first long =
      elim (cases_lt at s.room) [
        | inl below ↦ long_ended at first long below
        | inr above ↦ long_limit (omega (arith, first.0.high)) (before_limit at above first.0.before) (omega arith)
      ]

  pub over_some : (at : ℕ) → IsFirstByte (is_byte 10) s.held (Some at) → s.room ≤ at → min at s.room ≤ max_line → (rest : List ℕ) → found s rest ≡ found_over
  over_some at first above short rest = over_limit (omega (arith, first.0.high)) (before_limit at above first.0.before) (omega arith) rest

  pub long_none : IsFirstByte (is_byte 10) s.held None → max_line < min (length s.held) s.room → IsLong s
  long_none plain long =
      elim (cases_lt s.room (length s.held)) [
        | inl below ↦ long_limit below (before_limit (length s.held) (omega arith) plain) (omega arith)
        | inr above ↦ record {
          counts = omega arith;
          ahead = λ rest. ap (first_line s.number) (unended s.held rest s.room above plain) ∙ long_front s.number s.held (lines_of (s.room - length s.held) rest) (omega arith);
        }
      ]

  pub over_none : IsFirstByte (is_byte 10) s.held None → s.room < length s.held → min (length s.held) s.room ≤ max_line → (rest : List ℕ) → found s rest ≡ found_over
  over_none plain more short rest = over_limit more (before_limit (length s.held) (omega arith) plain) (omega arith) rest

  no_lf : IsFirstByte (is_byte 10) s.held None → Contains s.held 10 → ⊥
  no_lf plain lf = plain lf.0 (omega arith) lf.1 (eq-eqb (get_or s.held lf.0 0) 10 (get_or_default s.held lf.0 0 10 lf.1 ∙ lf.2))

last_undecided : (l : List ℕ) → length l ≤ max_line → is_decided (last_line l) ≡ false
last_undecided [] h = refl
last_undecided (x ∷ xs) h = is_long-false (x ∷ xs) h

pub open_shown : (s : State) → IsFirstByte (is_byte 10) s.held None → length s.held ≤ s.room → min (length s.held) s.room ≤ max_line → IsOpen s
open_shown s plain within short =
    let whole = unended_last s.held s.room within plain in
    record {
      plain = no_lf s plain;
      within = within;
      short = omega arith;
      undecided = ap (λ (xs : List ℕ). is_decided (lines_of s.room xs)) (sym (append-nil s.held)) ∙ ap is_decided whole ∙ last_undecided s.held (omega arith);
      whole = whole;
    }
