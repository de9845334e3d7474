-- The steps, over the terms that the code gives them by.
use Rattle.std.proofs.Common.{◌≡◌, ◌∙◌, refl, sym, ap, subst, ⊎_elim, ℕ, zero, suc, ◌+◌, ◌≤◌, ◌<◌, List, [], ◌∷◌, Bool, true, false, ◌||◌, Option, Some, None, Result, Err, take, drop, length, get_or, ne_eqb, arith, ◌≢◌}
use Rattle.std.specs.Prelude.{is_some}
use Rattle.std.specs.Option.{option_map, ok_or}
use Rattle.std.specs.Str.{is_utf8, IsUtf8}
use Rattle.std.proofs.lemmas.Bool.{cases_Bool}
use Rattle.std.proofs.lemmas.List.{take_all}
use Rattle.std.proofs.lemmas.Str.{is_utf8-from_IsUtf8, IsUtf8-from_is_utf8}
use Rattle.json_strings.specs.Meaning.{short_char, unit_of}
use Rattle.json_strings.specs.Reading.{is_plain, is_short, are_hex, pieces_behind, quoted_at}
use Rattle.vs_bytes.specs.Outcome.{Reads}
use Rattle.json_strings.specs.Told.{Tells}
use Rattle.json_strings.specs.Shown.{quote}
use Rattle.json_strings.specs.declared.reader.Quoted.{Quoted}
use Rattle.vs_bytes.specs.declared.refused.Absent.{Absent}
use Rattle.vs_bytes.specs.declared.refused.Refused.{Refused}
use Rattle.vs_bytes.specs.declared.refused.Refused.TheVariants.{Fault, NoMemory}
use Rattle.json_strings.specs.Content.{State, Quote, completed, after_bytes, after_unit, quote_from, quote_behind, quote_unit, plain_state, if_utf8, only_utf8}
use Rattle.json_strings.proofs.Digits.{short_not_u}
use Rattle.json_strings.proofs.Steps.{short_step, unit_step, run_step, run_begins, quoted_by_state, ended, stopped}

pub short_turn : (s t : State) (text : List ℕ) (y n : ℕ) → 1 ≤ length text → is_short (get_or text 0 0) ≡ true → y ≡ short_char (get_or text 0 0) → t ≡ after_bytes s (y ∷ []) → length text ≤ n + 1 → quote_behind s text ≡ quote_from t (take n (drop 1 text))
short_turn s t [] y n l e f g h = absurd (omega arith)
short_turn s t (x ∷ xs) y n l e f g h =
    let fits : length xs ≤ n = omega arith in
    rw (g, f, take_all) (short_step s x xs (short_not_u x e) e)

pub unit_turn : (s t : State) (text : List ℕ) (u n : ℕ) → 4 ≤ length text → are_hex (get_or text 0 0) (get_or text 1 0) (get_or text 2 0) (get_or text 3 0) ≡ true → u ≡ unit_of (get_or text 0 0) (get_or text 1 0) (get_or text 2 0) (get_or text 3 0) → t ≡ after_unit s u → length text ≤ n + 4 → quote_unit s text ≡ quote_from t (take n (drop 4 text))
unit_turn s t (a ∷ (b ∷ (c ∷ (d ∷ xs)))) u n l e f g h =
    let fits : length xs ≤ n = omega arith in
    rw (g, f, take_all) (unit_step s a b c d xs e)
unit_turn s t (a ∷ (b ∷ (c ∷ []))) u n l e f g h = absurd (omega arith)
unit_turn s t (a ∷ (b ∷ [])) u n l e f g h = absurd (omega arith)
unit_turn s t (a ∷ []) u n l e f g h = absurd (omega arith)
unit_turn s t [] u n l e f g h = absurd (omega arith)

pub run_turn : (s t : State) (n : ℕ) (text run rest : List ℕ) → 0 < n → n ≤ length text → ((k : ℕ) → k < n → is_plain (get_or text k 0) ≡ true) → run ≡ take n text → rest ≡ drop n text → t ≡ after_bytes s run → quote_from s text ≡ quote_from t rest
run_turn s t zero text run rest l m h e f g = absurd (omega arith)
run_turn s t (suc n) text run rest l m h e f g = rw (g, e, f) (run_step s n text (omega arith) h)

-- whether a text is UTF-8
pub utf8_read : (text bytes : List ℕ) (found lone : Bool) (rest : List ℕ) → IsUtf8 bytes → text ≡ bytes → found ≡ lone → if_utf8 (bytes, lone, rest) ≡ Some (text, found, rest)
utf8_read text bytes found lone rest u e f = rw (e, f, is_utf8-from_IsUtf8 bytes u) refl

pub utf8_refused : (bytes : List ℕ) (lone : Bool) (rest : List ℕ) → (IsUtf8 bytes → ⊥) → if_utf8 (bytes, lone, rest) ≡ None
utf8_refused bytes lone rest h = rw (⊎_elim (λ e. absurd (h (IsUtf8-from_is_utf8 bytes e))) (λ e. e) (cases_Bool (is_utf8 bytes))) refl

pub quote_turn : (s : State) (xs behind : List ℕ) (x : ℕ) → xs ≡ x ∷ behind → x ≡ 34 → quote_from s xs ≡ Some (s.text, s.lone || is_some s.high, behind)
quote_turn s xs behind x e f = rw (e, f) (ended s behind)

pub slash_turn : (s : State) (xs behind : List ℕ) (x : ℕ) → xs ≡ x ∷ behind → x ≡ 92 → quote_from s xs ≡ quote_behind s behind
unfolding is_plain
slash_turn s xs behind x e f = rw (e, f) refl

pub slash_stops : (s : State) (xs behind : List ℕ) (x : ℕ) → xs ≡ x ∷ behind → x ≡ 92 → pieces_behind behind ≡ None → quote_from s xs ≡ None
slash_stops s xs behind x e f g = slash_turn s xs behind x e f ∙ ap (λ o. option_map (completed s) o) g

-- out of memory says nothing
pub tells : (fault : Refused Absent) (P : Type 0) (defined : Option Quote) → Tells fault P → (P → defined ≡ None) → Reads {A = Quoted} {F = Absent} quote (Err fault) defined
tells (Fault absent) P defined h k = k h
tells NoMemory P defined h k = tt

-- a string begins with the bytes that stand for themselves
pub begins : (n : ℕ) (text run behind : List ℕ) → n ≤ length text → ((k : ℕ) → k < n → is_plain (get_or text k 0) ≡ true) → run ≡ take n text → behind ≡ drop n text → quoted_at text ≡ only_utf8 (quote_from (plain_state run) behind)
begins n text run behind l h e f = rw (e, f) (quoted_by_state text ∙ ap only_utf8 (run_begins n text l h))

pub nothing_turn : (s : State) (xs : List ℕ) → length xs ≡ 0 → quote_from s xs ≡ None
nothing_turn s [] h = refl
nothing_turn s (x ∷ xs) h = absurd (omega arith)

drop_head : (n : ℕ) (text behind : List ℕ) (x : ℕ) → drop n text ≡ x ∷ behind → (n < length text) × (get_or text n 0 ≡ x)
drop_head zero [] behind x e = cc
drop_head zero (y ∷ ys) behind x e = let same : y ≡ x = cc in (omega arith, same)
drop_head (suc n) [] behind x e = cc
drop_head (suc n) (y ∷ ys) behind x e = let there = drop_head n ys behind x e in (omega (arith, there.0), there.1)

pub stop_turn : (s : State) (n : ℕ) (text xs behind : List ℕ) (x : ℕ) → (n < length text → is_plain (get_or text n 0) ≡ false) → xs ≡ drop n text → xs ≡ x ∷ behind → x ≢ 34 → x ≢ 92 → quote_from s xs ≡ None
stop_turn s n text xs behind x h e f g k =
    let there = drop_head n text behind x (sym e ∙ f) in
    let control : is_plain x ≡ false = subst (λ y. is_plain y ≡ false) there.1 (h there.0) in
    rw f (stopped s x behind control (ne_eqb x 34 g) (ne_eqb x 92 k))

-- where none is read, no string stands there
pub reads_some : (found : Option Quoted) (absent : Absent) (result : Result Quoted (Refused Absent)) (defined : Option Quote) → result ≡ ok_or found (Fault absent) → option_map quote found ≡ defined → Reads quote result defined
reads_some None absent result defined e f = rw e (sym f)
reads_some (Some q) absent result defined e f = rw e (sym f)
