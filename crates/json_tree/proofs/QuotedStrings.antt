-- The pieces of which the canonical text of a string consists.
use Rattle.std.proofs.Common.{◌≡◌, ◌∙◌, inl, inr, refl, sym, ap, ℕ, ◌+◌, ◌/◌, ◌%◌, ◌<◌, ◌≤◌, ◌==◌, nat_lt, List, [], ◌∷◌, ◌++◌, append_assoc, flat_map, Bool, true, false, cond, ◌||◌, None, eqb-true, arith}
use Rattle.std.specs.Prelude.{Contains}
use Rattle.std.specs.Char.{digit_value}
use Rattle.std.specs.Char.Utf16.{is_high_surrogate, is_low_surrogate}
use Rattle.std.specs.List.{AllByRecursion}
use Rattle.std.specs.Str.{is_utf8}
use Rattle.std.proofs.lemmas.Bool.{eqb-false}
use Rattle.std.proofs.lemmas.Bool.Decides.{nat_tests}
use Rattle.std.proofs.lemmas.Str.{encode_ascii}
use Rattle.json_strings.specs.Pieces.{Piece, byte, short, unit, short_escapes, IsHexDigit, IsPiece, ArePieces, pieces_spelled}
use Rattle.json_strings.specs.Meaning.{short_char, unit_of, high_of, unit_text, is_unpaired, text_after, lone_after, IsString}
use Rattle.json_tree.specs.Text.{hex_digit, escaped, quoted}

unfoldable pub piece_of : ℕ → Piece
piece_of x =
    cond (x == 34) (short 34)
    (cond (x == 92) (short 92)
    (cond (x == 8) (short 98)
    (cond (x == 9) (short 116)
    (cond (x == 10) (short 110)
    (cond (x == 12) (short 102)
    (cond (x == 13) (short 114)
    (cond (nat_lt x 32) (unit 48 48 (hex_digit (x / 16)) (hex_digit (x % 16)))
    (byte x))))))))

abbrev pub pieces_of : List ℕ → List Piece
pieces_of [] = []
pieces_of (x ∷ xs) = piece_of x ∷ pieces_of xs

-- the piece is spelled by these bytes, and means this byte
pub record IsShown (x : ℕ) (p : Piece) (bytes : List ℕ) : Type 0 where
  pub spelling : (ps : List Piece) (after : List ℕ) → pieces_spelled (p ∷ ps) after ≡ bytes ++ pieces_spelled ps after
  pub meaning : (ps : List Piece) → text_after None (p ∷ ps) ≡ x ∷ text_after None ps
  pub paired : (ps : List Piece) → lone_after None (p ∷ ps) ≡ lone_after None ps
  pub well : IsPiece p
  pub ascii : x < 128 → AllByRecursion (λ b. b < 128) bytes

shown_if : (x : ℕ) (b : Bool) (p q : Piece) (bytes others : List ℕ) → (b ≡ true → IsShown x p bytes) → (b ≡ false → IsShown x q others) → IsShown x (cond b p q) (cond b bytes others)
shown_if x true p q bytes others f g = f refl
shown_if x false p q bytes others f g = g refl

-- an escape of two characters
shown_short : (x c : ℕ) → (x == short_char c) ≡ true → Contains short_escapes c → c < 128 → IsShown x (short c) (92 ∷ (c ∷ []))
shown_short x c e h low = record {
  spelling = λ ps after. refl;
  meaning = λ ps. ap (λ y. y ∷ text_after None ps) (sym (eqb-true x (short_char c) e));
  paired = λ ps. refl;
  well = h;
  ascii = λ _. (omega arith, (low, tt));
}

-- hexadecimal digits

hex_is : (d : ℕ) → d < 16 → IsHexDigit (hex_digit d)
hex_is d h = by (nat_lt d 10) refl
  where
    by : (b : Bool) → nat_lt d 10 ≡ b → IsHexDigit (cond b (48 + d) (87 + d))
    by true e = let few : d < 10 = grind (arith, nat_tests) in inl (omega arith, omega arith)
    by false e = let many : 10 ≤ d = grind (arith, nat_tests) in inr (inr (omega arith, omega arith))

hex_low : (d : ℕ) → d < 16 → hex_digit d < 128
hex_low d h = by (nat_lt d 10)
  where
    by : (b : Bool) → cond b (48 + d) (87 + d) < 128
    by true = omega arith
    by false = omega arith

hex_value : (d : ℕ) → d < 16 → digit_value (hex_digit d) ≡ d
hex_value d h = grind (arith, nat_tests)

unit_is : (x : ℕ) → x < 32 → unit_of 48 48 (hex_digit (x / 16)) (hex_digit (x % 16)) ≡ x
unfolding unit_of
unit_is x h = rw (hex_value (x / 16) (omega arith), hex_value (x % 16) (omega arith)) (omega arith)

-- a unit below the surrogates is a character

not_high : (x : ℕ) → x < 128 → is_high_surrogate x ≡ false
not_high x h = grind (arith, nat_tests)

not_low : (x : ℕ) → x < 128 → is_low_surrogate x ≡ false
not_low x h = grind (arith, nat_tests)

unit_adds : (x : ℕ) → x < 128 → unit_text None x ≡ x ∷ []
unfolding unit_text
unit_adds x h = rw (not_high x h, not_low x h) (encode_ascii x h)

unit_no_high : (x : ℕ) → x < 128 → high_of x ≡ None
unfolding high_of
unit_no_high x h = rw (not_high x h) refl

unit_paired : (x : ℕ) → x < 128 → is_unpaired None x ≡ false
unfolding is_unpaired
unit_paired x h = not_low x h

shown_unit : (x : ℕ) → x < 32 → IsShown x (unit 48 48 (hex_digit (x / 16)) (hex_digit (x % 16))) (92 ∷ (117 ∷ (48 ∷ (48 ∷ (hex_digit (x / 16) ∷ (hex_digit (x % 16) ∷ []))))))
shown_unit x h =
    let u = unit_of 48 48 (hex_digit (x / 16)) (hex_digit (x % 16)) in
    let e : u ≡ x = unit_is x h in
    record {
      spelling = λ ps after. refl;
      meaning = λ ps. ap (λ v. unit_text None v ++ text_after (high_of v) ps) e ∙ rw (unit_adds x (omega arith), unit_no_high x (omega arith)) refl;
      paired = λ ps. ap (λ v. is_unpaired None v || lone_after (high_of v) ps) e ∙ rw (unit_paired x (omega arith), unit_no_high x (omega arith)) refl;
      well = (inl (omega arith, omega arith), inl (omega arith, omega arith), hex_is (x / 16) (omega arith), hex_is (x % 16) (omega arith));
      ascii = λ _. (omega arith, (omega arith, (omega arith, (omega arith, (hex_low (x / 16) (omega arith), (hex_low (x % 16) (omega arith), tt))))));
    }

-- a byte that stands for itself
shown_byte : (x : ℕ) → (x == 34) ≡ false → (x == 92) ≡ false → nat_lt x 32 ≡ false → IsShown x (byte x) (x ∷ [])
shown_byte x e f g = record {
  spelling = λ ps after. refl;
  meaning = λ ps. refl;
  paired = λ ps. refl;
  well = (grind (arith, nat_tests), eqb-false x 34 e, eqb-false x 92 f);
  ascii = λ h. (h, tt);
}

pub shown : (x : ℕ) → IsShown x (piece_of x) (escaped x)
unfolding piece_of escaped short_char
shown x =
    shown_if x (x == 34) _ _ _ _ (λ e. shown_short x 34 e (0, omega arith, refl) (omega arith)) (λ quote.
    shown_if x (x == 92) _ _ _ _ (λ e. shown_short x 92 e (1, omega arith, refl) (omega arith)) (λ slash.
    shown_if x (x == 8) _ _ _ _ (λ e. shown_short x 98 e (3, omega arith, refl) (omega arith)) (λ _.
    shown_if x (x == 9) _ _ _ _ (λ e. shown_short x 116 e (7, omega arith, refl) (omega arith)) (λ _.
    shown_if x (x == 10) _ _ _ _ (λ e. shown_short x 110 e (5, omega arith, refl) (omega arith)) (λ _.
    shown_if x (x == 12) _ _ _ _ (λ e. shown_short x 102 e (4, omega arith, refl) (omega arith)) (λ _.
    shown_if x (x == 13) _ _ _ _ (λ e. shown_short x 114 e (6, omega arith, refl) (omega arith)) (λ _.
    shown_if x (nat_lt x 32) _ _ _ _ (λ e. shown_unit x (grind (arith, nat_tests))) (λ e.
    shown_byte x quote slash e))))))))

-- whole strings

pieces_spell : (s after : List ℕ) → pieces_spelled (pieces_of s) after ≡ flat_map escaped s ++ 34 ∷ after
pieces_spell [] after = refl
pieces_spell (x ∷ s) after =
    (shown x).spelling (pieces_of s) after ∙ ap (λ t. escaped x ++ t) (pieces_spell s after) ∙ sym (append_assoc (escaped x) (flat_map escaped s) (34 ∷ after))

pub string_spells : (s after : List ℕ) → 34 ∷ pieces_spelled (pieces_of s) after ≡ quoted s ++ after
string_spells s after = ap (λ t. 34 ∷ t) (pieces_spell s after ∙ sym (append_assoc (flat_map escaped s) (34 ∷ []) after))

pub string_means : (s : List ℕ) → text_after None (pieces_of s) ≡ s
string_means [] = refl
string_means (x ∷ s) = (shown x).meaning (pieces_of s) ∙ ap (λ t. x ∷ t) (string_means s)

pub string_paired : (s : List ℕ) → lone_after None (pieces_of s) ≡ false
string_paired [] = refl
string_paired (x ∷ s) = (shown x).paired (pieces_of s) ∙ string_paired s

pieces_well : (s : List ℕ) → ArePieces (pieces_of s)
pieces_well [] = tt
pieces_well (x ∷ s) = ((shown x).well, pieces_well s)

pub string_well : (s : List ℕ) → is_utf8 s ≡ true → IsString (pieces_of s)
string_well s h = (pieces_well s, ap is_utf8 (string_means s) ∙ h)
