-- A quoted string within bytes: what is read of it stands there, and what stands there is read.
use Rattle.std.proofs.Common.{◌≡◌, ◌∙◌, refl, sym, ap, ℕ, zero, suc, ◌-◌, ◌<◌, ◌≤◌, List, [], ◌∷◌, ◌++◌, Bool, Option, Some, None, take, drop, length, append_assoc, length-append, arith}
use Rattle.std.specs.Option.{option_map}
use Rattle.std.proofs.Math.Seq.{drop-append_seam}
use Rattle.std.proofs.lemmas.List.{take-append-drop}
use Rattle.json_strings.specs.Pieces.{Piece, byte, short, unit, pieces_spelled}
use Rattle.json_strings.specs.Meaning.{text_of, lone_of}
use Rattle.json_strings.specs.Reading.{string_at, quoted_at}
use Rattle.json_strings.specs.Content.{Quote}
use Rattle.json_strings.specs.Places.{IsStringAt}
use Rattle.json_strings.proofs.Rests.{told_string}
use Rattle.json_strings.proofs.Strings.{string_complete}

spelled_before : (ps : List Piece) (rest : List ℕ) → pieces_spelled ps rest ≡ pieces_spelled ps [] ++ rest
spelled_before [] rest = refl
spelled_before (byte x ∷ ps) rest = ap (λ ys. x ∷ ys) (spelled_before ps rest)
spelled_before (short x ∷ ps) rest = ap (λ ys. 92 ∷ (x ∷ ys)) (spelled_before ps rest)
spelled_before (unit a b c d ∷ ps) rest = ap (λ ys. 92 ∷ (117 ∷ (a ∷ (b ∷ (c ∷ (d ∷ ys)))))) (spelled_before ps rest)

-- the place where the last bytes begin
record EndsWith (bytes rest : List ℕ) : Type 0 where
  inside : length bytes - length rest ≤ length bytes
  rest_is : drop (length bytes - length rest) bytes ≡ rest

ends_with : (bytes front rest : List ℕ) → bytes ≡ front ++ rest → EndsWith bytes rest
ends_with bytes front rest e =
    let place : length bytes - length rest ≡ length front = omega (arith, ap length e, length-append front rest) in
    record { inside = omega arith; rest_is = rw place (rw e (drop-append_seam front rest)) }

pub string_there : (bytes behind text : List ℕ) (at x : ℕ) (q : Quote) (lone : Bool) → behind ≡ drop at bytes → behind ≡ x ∷ text → x ≡ 34 → quoted_at text ≡ Some q → q.1 ≡ lone → IsStringAt bytes at (length bytes - length q.2) q.0 lone
string_there bytes behind text at x q lone e f g h k =
    let told = told_string text q h in
    let there : drop at bytes ≡ 34 ∷ pieces_spelled told.pieces q.2 = sym e ∙ f ∙ ap (λ y. y ∷ text) g ∙ ap (λ ys. 34 ∷ ys) told.spelled in
    let parts : bytes ≡ (take at bytes ++ (34 ∷ pieces_spelled told.pieces [])) ++ q.2 =
    sym (take-append-drop at bytes) ∙ ap (λ ys. take at bytes ++ ys) (there ∙ ap (λ ys. 34 ∷ ys) (spelled_before told.pieces q.2)) ∙ sym (append_assoc (take at bytes) (34 ∷ pieces_spelled told.pieces []) q.2) in
    let end = ends_with bytes _ q.2 parts in
    record {
      pieces = told.pieces;
      spelled = there ∙ ap (λ ys. 34 ∷ pieces_spelled told.pieces ys) (sym end.rest_is);
      inside = end.inside;
      is_string = told.is_string;
      text_is = told.text_is;
      lone_is = sym k ∙ told.lone_is;
    }

pub none_there : (bytes behind text : List ℕ) (at x : ℕ) → behind ≡ drop at bytes → behind ≡ x ∷ text → quoted_at text ≡ None → (after : ℕ) (meant : List ℕ) (lone : Bool) → IsStringAt bytes at after meant lone → ⊥
none_there bytes behind text at x e f h after meant lone s =
    let same : x ∷ text ≡ 34 ∷ pieces_spelled s.pieces (drop after bytes) = sym f ∙ e ∙ s.spelled in
    let tail : text ≡ pieces_spelled s.pieces (drop after bytes) = cc in
    let read : string_at text ≡ Some (s.pieces, drop after bytes) = rw tail (string_complete s.pieces (drop after bytes) s.is_string) in
    let wrong : ◌≡◌ {A = Option Quote} (Some (text_of s.pieces, lone_of s.pieces, drop after bytes)) None = sym (ap (λ o. option_map {U = Quote} (λ r. (text_of r.0, lone_of r.0, r.1)) o) read) ∙ h in
    cc

drop_past : (n : ℕ) (xs : List ℕ) → length xs < n → drop n xs ≡ []
drop_past zero xs h = absurd (omega arith)
drop_past (suc n) [] h = refl
drop_past (suc n) (x ∷ xs) h = drop_past n xs (omega arith)

-- no string begins past the end
pub none_past : (bytes : List ℕ) (at : ℕ) → length bytes < at → (after : ℕ) (meant : List ℕ) (lone : Bool) → IsStringAt bytes at after meant lone → ⊥
none_past bytes at h after meant lone s = let wrong : [] ≡ 34 ∷ pieces_spelled s.pieces (drop after bytes) = sym (drop_past at bytes h) ∙ s.spelled in cc
