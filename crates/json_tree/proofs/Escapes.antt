-- One byte more of a string's content.
use Rattle.std.proofs.Common.{◌≡◌, ◌∙◌, ℕ, ◌+◌, ◌-◌, ◌<◌, ◌≤◌, List, [], ◌∷◌, ◌++◌, length, get_or, take, drop, flat_map, sym, ap, arith, append_assoc, append-nil}
use Rattle.std.proofs.lemmas.List.{take_more, drop-append-le, length-take-le, drop-take, drop_all}
use Rattle.std.proofs.lemmas.Grind.{flat_map-append}
use Rattle.json_tree.specs.Grown.{Grows}
use Rattle.json_tree.specs.Text.{escaped}

pub grows_more : (old new more : List ℕ) → Grows old new → Grows old (new ++ more)
grows_more old new more g = (g.0 ++ more, ap (λ s. s ++ more) g.1 ∙ append_assoc old g.0 more)

-- the text of the content up to and with the byte at `i`
text_more : (text : List ℕ) (i : ℕ) → i < length text → flat_map escaped (take (i + 1) text) ≡ flat_map escaped (take i text) ++ escaped (get_or text i 0)
text_more text i h = rw (take_more text i 0 h, flat_map-append escaped (take i text) (get_or text i 0 ∷ []), append-nil (escaped (get_or text i 0)))

-- the run up to and with the byte at `i`
run_more : (text : List ℕ) (start i : ℕ) → i < length text → start ≤ i → drop start (take (i + 1) text) ≡ drop start (take i text) ++ get_or text i 0 ∷ []
run_more text start i h le =
    let long : start ≤ length (take i text) = omega (arith, length-take-le i text (omega arith)) in
    rw (take_more text i 0 h) (drop-append-le start (take i text) (get_or text i 0 ∷ []) long)

-- the run as a part of the content
run_is : (text : List ℕ) (start i : ℕ) → start ≤ i → drop start (take i text) ≡ take (i - start) (drop start text)
run_is text start i le =
    let all : start + (i - start) ≡ i = omega arith in
    ap (λ n. drop start (take n text)) (sym all) ∙ drop-take start (i - start) text

-- the byte at `i` needs no escape, and waits in the run
pub kept_turn : (first into text : List ℕ) (start i : ℕ) → i < length text → start ≤ i
    → escaped (get_or text i 0) ≡ get_or text i 0 ∷ []
    → into ++ drop start (take i text) ≡ first ++ flat_map escaped (take i text)
    → into ++ drop start (take (i + 1) text) ≡ first ++ flat_map escaped (take (i + 1) text)
kept_turn first into text start i h le plain e =
    let byte = get_or text i 0 in
    let done = flat_map escaped (take i text) in
    ap (λ s. into ++ s) (run_more text start i h le)
    ∙ sym (append_assoc into (drop start (take i text)) (byte ∷ []))
    ∙ ap (λ s. s ++ byte ∷ []) e
    ∙ append_assoc first done (byte ∷ [])
    ∙ ap (λ s. first ++ (done ++ s)) (sym plain)
    ∙ ap (λ s. first ++ s) (sym (text_more text i h))

-- the run is appended, and the byte at `i` after it
pub escaped_turn : (first into text : List ℕ) (start i : ℕ) → i < length text → start ≤ i
    → into ++ drop start (take i text) ≡ first ++ flat_map escaped (take i text)
    → ((into ++ take (i - start) (drop start text)) ++ escaped (get_or text i 0)) ++ drop (i + 1) (take (i + 1) text) ≡ first ++ flat_map escaped (take (i + 1) text)
escaped_turn first into text start i h le e =
    let here = escaped (get_or text i 0) in
    let none : drop (i + 1) (take (i + 1) text) ≡ [] = drop_all (i + 1) (take (i + 1) text) (omega (arith, length-take-le (i + 1) text (omega arith))) in
    ap (λ s. ((into ++ take (i - start) (drop start text)) ++ here) ++ s) none
    ∙ append-nil ((into ++ take (i - start) (drop start text)) ++ here)
    ∙ ap (λ s. (into ++ s) ++ here) (sym (run_is text start i le))
    ∙ ap (λ s. s ++ here) e
    ∙ append_assoc first (flat_map escaped (take i text)) here
    ∙ ap (λ s. first ++ s) (sym (text_more text i h))
