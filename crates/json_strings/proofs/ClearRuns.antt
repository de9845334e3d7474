-- Lanes of bytes, and the runs of bytes that they show.
use Rattle.std.proofs.Common.{◌≡◌, ◌∙◌, refl, sym, ap, ap₂, ⊎_elim, subst, ℕ, ◌+◌, ◌%◌, ◌^◌, ◌<◌, ◌≤◌, Bool, true, false, ◌||◌, cond, List, [], ◌∷◌, Some, map, length, take, drop, get_or, get_or-take, arith}
use Rattle.std.specs.Str.{IsAscii}
use Rattle.std.proofs.lemmas.Bool.{cases_lt}
use Rattle.std.proofs.lemmas.Bool.Decides.{nat_tests}
use Rattle.std.proofs.lemmas.List.{length-map, length-take, get_or_past}
use Rattle.std.proofs.lemmas.Simd.{zip2_of_maps, mask_l-mod, trailing_mask_l, length-chunk, run_in_chunk_le, run_in_chunk_fails, none_from_empty_mask}
use Rattle.std.proofs.lemmas.Str.{IsUtf8-from_ascii}
use lib.Bits.{bit_or}
use lib.Count.{count_trailing_zeros}
use lib.Lanes.{zip2, chunk, mask_l, top}
use Rattle.json_strings.specs.AsciiRuns.{is_special, IsClearTo}
use Rattle.json_strings.specs.Content.{plain_state, only_utf8}
use Rattle.json_strings.specs.Reading.{is_plain, quoted_at}
use Rattle.json_strings.proofs.Turns.{begins, quote_turn, utf8_read}

-- the lanes of a comparison
abbrev pub marked : (ℕ → Bool) → List ℕ → List ℕ
marked p xs = map (λ x. cond (p x) 255 0) xs

one_of : (p q : Bool) → bit_or (cond p 255 0) (cond q 255 0) ≡ cond (p || q) 255 0
one_of true true = refl
one_of true false = refl
one_of false true = refl
one_of false false = refl

each_of : (p q : ℕ → Bool) (xs : List ℕ) → map (λ x. bit_or (cond (p x) 255 0) (cond (q x) 255 0)) xs ≡ marked (λ x. p x || q x) xs
each_of p q [] = refl
each_of p q (x ∷ xs) = ap₂ (λ y ys. y ∷ ys) (one_of (p x) (q x)) (each_of p q xs)

pub either : (p q : ℕ → Bool) (xs : List ℕ) {a b : List ℕ} → a ≡ marked p xs → b ≡ marked q xs → zip2 bit_or a b ≡ marked (λ x. p x || q x) xs
either p q xs e f = zip2_of_maps bit_or (λ x. cond (p x) 255 0) (λ x. cond (q x) 255 0) xs e f ∙ each_of p q xs

top_of : (p : Bool) → top 7 (cond p 255 0) ≡ p
top_of true = refl
top_of false = refl

tops : (p : ℕ → Bool) (xs : List ℕ) → map (top 7) (marked p xs) ≡ map p xs
tops p [] = refl
tops p (x ∷ xs) = ap₂ (λ y ys. y ∷ ys) (top_of (p x)) (tops p xs)

pub mask_is : (p : ℕ → Bool) (xs zs : List ℕ) → length xs ≤ 64 → zs ≡ marked p xs → mask_l (map (top 7) zs) % 2 ^ 64 ≡ mask_l (map p xs)
mask_is p xs zs short e = ap (λ ys. mask_l (map (top 7) ys) % 2 ^ 64) e ∙ ap (λ ms. mask_l ms % 2 ^ 64) (tops p xs) ∙ mask_l-mod (map p xs) 64 (omega (arith, length-map xs p))

pub clear_none : (text : List ℕ) → IsClearTo text 0
clear_none text = record { clear = λ k l. absurd (omega arith) }

pub clear_more : (text : List ℕ) (at : ℕ) → IsClearTo text at → is_special (get_or text at 0) ≡ false → IsClearTo text (at + 1)
clear_more text at h e = record {
  clear = λ k l. ⊎_elim (λ below. h.clear k below) (λ above. let same : at ≡ k = omega arith in subst (λ i. is_special (get_or text i 0) ≡ false) same e) (cases_lt k at);
}

joined : (text : List ℕ) (at n : ℕ) → IsClearTo text at → ((k : ℕ) → at ≤ k → k < n → is_special (get_or text k 0) ≡ false) → IsClearTo text n
joined text at n h more = record { clear = λ k l. ⊎_elim (λ below. h.clear k below) (λ above. more k above l) (cases_lt k at) }

pub clear_block : (text : List ℕ) (at : ℕ) → at + 16 ≤ length text → mask_l (map is_special (chunk at 16 text)) ≡ 0 → IsClearTo text at → IsClearTo text (at + 16)
clear_block text at room none h = joined text at (at + 16) h (none_from_empty_mask is_special text at 16 0 room none)

lanes_to : (text : List ℕ) (at r : ℕ) → at + 16 ≤ length text → 0 < mask_l (map is_special (chunk at 16 text)) → r ≡ count_trailing_zeros 64 (mask_l (map is_special (chunk at 16 text))) → (r ≤ 16) × ((k : ℕ) → at ≤ k → k < at + r → is_special (get_or text k 0) ≡ false)
lanes_to text at r room some e =
    let counted = e ∙ trailing_mask_l is_special 64 (chunk at 16 text) (omega (arith, length-chunk at 16 text room)) some in
    (run_in_chunk_le is_special text at 16 r 0 room counted, run_in_chunk_fails is_special text at 16 r 0 room counted)

pub stop_within : (text : List ℕ) (at r : ℕ) → at + 16 ≤ length text → 0 < mask_l (map is_special (chunk at 16 text)) → r ≡ count_trailing_zeros 64 (mask_l (map is_special (chunk at 16 text))) → r ≤ 16
stop_within text at r room some e = (lanes_to text at r room some e).0

pub clear_stop : (text : List ℕ) (at r : ℕ) → at + 16 ≤ length text → 0 < mask_l (map is_special (chunk at 16 text)) → r ≡ count_trailing_zeros 64 (mask_l (map is_special (chunk at 16 text))) → IsClearTo text at → IsClearTo text (at + r)
clear_stop text at r room some e h = joined text at (at + r) h (lanes_to text at r room some e).1

special_plain : (x : ℕ) → is_special x ≡ false → is_plain x ≡ true
unfolding is_special is_plain
special_plain x h = grind (arith, nat_tests)

special_ascii : (x : ℕ) → is_special x ≡ false → x < 128
unfolding is_special
special_ascii x h = grind (arith, nat_tests)

pub clear_ascii : (n : ℕ) (text run : List ℕ) → IsClearTo text n → run ≡ take n text → IsAscii run
clear_ascii n text run h e = λ i. subst (λ xs. get_or xs i 0 < 128) (sym e) (⊎_elim (λ below. here i below) (λ above. beyond i above) (cases_lt i (length (take n text))))
  where
    here : (i : ℕ) → i < length (take n text) → get_or (take n text) i 0 < 128
    here i below =
        let inside : i < n = omega (arith, length-take n text) in
        subst (λ x. x < 128) (sym (get_or-take n text i 0 inside)) (special_ascii (get_or text i 0) (h.clear i inside))

    beyond : (i : ℕ) → length (take n text) ≤ i → get_or (take n text) i 0 < 128
    beyond i above = let none = get_or_past (take n text) i 0 above in omega arith

-- a string of such bytes
pub clear_string : (n : ℕ) (text run behind rest : List ℕ) (x : ℕ) → n ≤ length text → IsClearTo text n → run ≡ take n text → behind ≡ drop n text → behind ≡ x ∷ rest → x ≡ 34 → quoted_at text ≡ Some (run, false, rest)
clear_string n text run behind rest x l h e f g quote =
    begins n text run behind l (λ k below. special_plain (get_or text k 0) (h.clear k below)) e f
    ∙ ap only_utf8 (quote_turn (plain_state run) behind rest x g quote)
    ∙ utf8_read run run false false rest (IsUtf8-from_ascii run (clear_ascii n text run h e)) refl refl
