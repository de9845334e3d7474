-- From one line to the next.
use Rattle.std.proofs.Common.{◌≡◌, ◌∙◌, ℕ, ◌+◌, ◌-◌, ◌<◌, ◌≤◌, true, false, List, [], ◌∷◌, ◌++◌, Ok, Err, inr, take, drop, length, refl, sym, ap, arith}
use Rattle.std.specs.List.{list_all}
use Rattle.std.proofs.lemmas.Bool.{le-leb, true≢false}
use Rattle.std.proofs.lemmas.List.{append-nil, drop_all, length-take-le, take_all, take-append-drop}
use Rattle.json_lines.specs.Cut.{Lines, none, line, lines_of, first_line, found_line, is_blank, is_blank_byte, max_line}
use Rattle.json_lines.specs.Next.{State, ended, lines_ahead, is_decided}
use Rattle.json_lines.specs.Takings.{AreWhole, Passed, Took}
use Rattle.json_lines.specs.Front.{IsLine, IsOpen, GivesLine, ComesLast, last_line}
use Rattle.json_lines.specs.declared.answer.Next.{Next}
use Rattle.json_lines.specs.declared.answer.Next.TheVariants as next
use Rattle.json_lines.specs.declared.answer.LineFault.{LineFault}
use Rattle.json_lines.specs.declared.answer.LineFault.TheVariants as fault
use Rattle.json_lines.proofs.Cutting.{is_long-false, parted}

pub short_blank : (l : List ℕ) → length l ≤ max_line → is_blank l ≡ list_all is_blank_byte l
short_blank l h = rw (le-leb (length l) max_line h) refl

pub first_blank : (n : ℕ) (l : List ℕ) (ls : Lines) → length l ≤ max_line → is_blank l ≡ true → first_line n (line l ls) ≡ first_line (n + 1) ls
first_blank n l ls short blank = rw (is_long-false l short, blank) refl

pub first_given : (n : ℕ) (l : List ℕ) (ls : Lines) → length l ≤ max_line → is_blank l ≡ false → first_line n (line l ls) ≡ found_line (n + 1) l ls
first_given n l ls short given = rw (is_long-false l short, given) refl

decided_blank : (l : List ℕ) (ls : Lines) → length l ≤ max_line → is_blank l ≡ true → is_decided (line l ls) ≡ is_decided ls
decided_blank l ls short blank = rw (is_long-false l short, blank) refl

-- the state after a line whose bytes are `taken` with its LF
abbrev pub behind : State → ℕ → State
behind s taken = record { number = s.number + 1; room = s.room - taken; held = drop taken s.held; kept = s.kept }

module _ (s : State) (at : ℕ) (is : IsLine s at) where
  line_length : length (take at s.held) ≤ max_line
  line_length = omega (arith, is.short, is.inside, length-take-le at s.held (omega (arith, is.inside)))

  line_ahead : (rest : List ℕ) → lines_ahead s rest ≡ line (take at s.held) (lines_ahead (behind s (at + 1)) rest)
  line_ahead rest = ap (lines_of s.room) (parted s.held rest at) ∙ is.alone (drop (at + 1) s.held ++ rest)

  taken_length : length (take (at + 1) s.held) ≡ at + 1
  taken_length = length-take-le (at + 1) s.held (omega (arith, is.inside))

  line_whole : AreWhole (take (at + 1) s.held)
  line_whole = inr (take at s.held, is.lf)

  pub passed_line : is_blank (take at s.held) ≡ true → Passed s s.held (behind s (at + 1)) (drop (at + 1) s.held)
  passed_line blank = record {
    taken = take (at + 1) s.held;
    splits = sym (take-append-drop (at + 1) s.held);
    counts = omega (arith, is.counts, taken_length);
    whole = line_whole;
    alike = λ tail. sym (ap (first_line s.number) (is.alone tail) ∙ first_blank s.number (take at s.held) (lines_of (s.room - (at + 1)) tail) line_length blank);
  }

  pub took_line : is_blank (take at s.held) ≡ false → Took s s.held (behind s (at + 1)) (drop (at + 1) s.held) (s.number + 1) (take at s.held)
  took_line given = record {
    taken = take (at + 1) s.held;
    splits = sym (take-append-drop (at + 1) s.held);
    counts = omega (arith, is.counts, taken_length);
    whole = line_whole;
    gives = λ tail. ap (first_line s.number) (is.alone tail) ∙ first_given s.number (take at s.held) (lines_of (s.room - (at + 1)) tail) line_length given;
    number = refl;
    kept = refl;
  }

  pub passed_decided : is_blank (take at s.held) ≡ true → is_decided (lines_of (s.room - (at + 1)) (drop (at + 1) s.held)) ≡ is_decided (lines_of s.room s.held)
  passed_decided blank =
      let here = ap (λ (xs : List ℕ). is_decided (lines_of s.room xs)) (sym (append-nil s.held)) ∙ ap is_decided (line_ahead []) in
      let there = ap (λ (xs : List ℕ). is_decided (lines_of (s.room - (at + 1)) xs)) (append-nil (drop (at + 1) s.held)) in
      sym (here ∙ decided_blank (take at s.held) (lines_ahead (behind s (at + 1)) []) line_length blank ∙ there)

-- ---- the last line, which no LF ends

last_ahead : (n : ℕ) (l : List ℕ) → length l ≤ max_line → is_blank l ≡ false → first_line n (last_line l) ≡ found_line (n + 1) l none
last_ahead n [] short given = absurd (true≢false given)
last_ahead n (x ∷ xs) short given = rw (is_long-false (x ∷ xs) short, given) refl

some_bytes : (l : List ℕ) → list_all is_blank_byte l ≡ false → 0 < length l
some_bytes [] given = absurd (true≢false given)
some_bytes (x ∷ xs) given = omega arith

-- a last line is given, and then the end is kept
abbrev pub closed : State → State
closed t = record { number = t.number; room = t.room; held = t.held; kept = ended }

pub last_closed : (s t u : State) (size : ℕ) (found : Next) → IsOpen s → size ≡ length s.held → list_all is_blank_byte (take size s.held) ≡ false → GivesLine size size s t (Ok found) → u ≡ closed t
    → ComesLast s u (Ok found)
last_closed s t u size (next.Line n bytes) opened whole given g e =
    let all : take size s.held ≡ s.held = take_all size s.held (omega arith) in
    let white : list_all is_blank_byte s.held ≡ false = ap (list_all is_blank_byte) (sym all) ∙ given in
    let found_is = ap (first_line s.number) opened.whole ∙ last_ahead s.number s.held opened.short (short_blank s.held opened.short ∙ white) in
    let some : 0 < length s.held = some_bytes s.held white in (
      found_is ∙ ap (λ (k : ℕ). found_line k s.held none) (sym g.0) ∙ ap (λ (xs : List ℕ). found_line n xs none) (sym (g.1 ∙ all)),
      omega (arith, some, whole, opened.within, ap (λ (v : State). v.room) g.2, ap (λ (v : State). v.room) e),
      ap (λ (v : State). v.number) e ∙ ap (λ (v : State). v.number) g.2 ∙ sym g.0,
      ap (λ (v : State). v.held) e ∙ ap (λ (v : State). v.held) g.2 ∙ drop_all size s.held (omega (arith, whole)),
      ap (λ (v : State). v.kept) e,
    )
last_closed s t u size (next.TooLong n) opened whole given g e = absurd g
last_closed s t u size next.End opened whole given g e = absurd g

pub last_refused : (s t : State) (size : ℕ) (e : LineFault) → GivesLine size size s t (Err e) → ComesLast s t (Err e)
last_refused s t size fault.NoMemory g = g
last_refused s t size fault.InputTooLong g = absurd g
last_refused s t size fault.ReadFault g = absurd g
