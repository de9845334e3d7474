-- The judgement of a line is what the line is: the value that it spells, or its first fault.
use Rattle.std.proofs.Common.{◌≡◌, ◌∙◌, ◌⊎◌, inl, inr, ⊎_elim, refl, sym, ap, subst, ℕ, ◌≤◌, ◌<◌, ◌==◌, nat_le, List, [], ◌∷◌, Bool, true, false, cond, Option, Some, None, Result, Ok, Err, length, arith}
use Rattle.std.specs.Str.{is_utf8, IsUtf8}
use Rattle.std.proofs.lemmas.Bool.{cases_Bool}
use Rattle.std.proofs.lemmas.Bool.Decides.{nat_tests}
use Rattle.std.proofs.lemmas.Str.{is_utf8-from_IsUtf8, IsUtf8-from_is_utf8}
use Rattle.json_tree.specs.Json.{Json}
use Rattle.json_grammar.specs.Grammar.{Written, IsWrittenAs, nesting}
use Rattle.byte_parsing.specs.Parse.{and_then}
use Rattle.byte_parsing.specs.Words.{is_empty}
use Rattle.json_grammar.specs.Reading.{past_gap, value_at, document_at}
use Rattle.json_grammar.proofs.Lines.{line_complete, line_sound}
use Rattle.json_lines.specs.Cut.{is_long, max_line}
use Rattle.exact_json.specs.Brackets.{is_too_deep}
use Rattle.exact_json.specs.Judging.{fault_of, fault_or, judged_reading, judged_text, judged, Excused, Gives}
use Rattle.exact_json.specs.Meaning.{Flaws, flawless, joined, tree_of, flaws_of, IsShortText, IsJson, Spells, IsFirstFault, Answers}
use Rattle.exact_json.specs.Parsing.{told, told_text}
use Rattle.exact_json.specs.declared.fault.DocFault.{DocFault}
use Rattle.exact_json.specs.declared.fault.DocFault.TheVariants.{LineTooLong, NotUtf8, TooDeep, NotJson, LoneSurrogate, DuplicateKey, NumberTooWide, NoMemory}
use Rattle.exact_json.proofs.Depths.{line_deep}
use Rattle.exact_json.proofs.Joining.{joined_before}

-- The tests of a line.

long_is : (line : List ℕ) → is_long line ≡ true → max_line < length line
long_is line e = grind (arith, nat_tests)

short_is : (line : List ℕ) → is_long line ≡ false → length line ≤ max_line
short_is line e = grind (arith, nat_tests)

is_long_from : (line : List ℕ) → max_line < length line → is_long line ≡ true
is_long_from line h = grind (arith, nat_tests)

pub is_short_from : (line : List ℕ) → length line ≤ max_line → is_long line ≡ false
is_short_from line h = grind (arith, nat_tests)

pub not_utf8 : (line : List ℕ) → (IsUtf8 line → ⊥) → is_utf8 line ≡ false
not_utf8 line h = ⊎_elim (λ e. absurd (h (IsUtf8-from_is_utf8 line e))) (λ e. e) (cases_Bool (is_utf8 line))

not_utf8_is : (line : List ℕ) → is_utf8 line ≡ false → IsUtf8 line → ⊥
not_utf8_is line e u = let wrong = is_utf8-from_IsUtf8 line u in cc

-- what is read isn't too deep
read_shallow : (line : List ℕ) (w : Written) → document_at line ≡ Some w → is_too_deep line ≡ false
read_shallow line w e =
    let known = line_sound line w e in
    let shallow : nesting w ≤ 64 = known.1 in
    line_deep line w known.0 ∙ (let few : nat_le 65 (nesting w) ≡ false = grind (arith, nat_tests) in few)

-- and what isn't too deep is read
shallow_read : (line : List ℕ) (w : Written) → is_too_deep line ≡ false → IsWrittenAs line w → document_at line ≡ Some w
shallow_read line w e h =
    let few : nat_le 65 (nesting w) ≡ false = sym (line_deep line w h) ∙ e in
    line_complete line w h (grind (arith, nat_tests))

-- What the reader of a text finds.

pub text_judged : (before : Flaws) (line : List ℕ) (json : Json) (flaws : Flaws) → before ≡ flawless → told_text before (document_at line) ≡ Some (json, flaws) → judged_text line ≡ fault_or json (fault_of flaws)
text_judged before line json flaws none e = by (document_at line) refl e
  where
    by : (o : Option Written) → document_at line ≡ o → told_text before o ≡ Some (json, flaws) → judged_text line ≡ fault_or json (fault_of flaws)
    by None read f = cc
    by (Some w) read f =
        let both : ◌≡◌ {A = Json × Flaws} (tree_of w, joined before (flaws_of w)) (json, flaws) = cc in
        let first : tree_of w ≡ json = ap (λ p. p.0) both in
        let second : flaws_of w ≡ flaws = sym (joined_before (flaws_of w)) ∙ ap (λ (b : Flaws). joined b (flaws_of w)) (sym none) ∙ ap (λ p. p.1) both in
        ap (λ b. cond b (Err TooDeep) (judged_reading (document_at line))) (read_shallow line w read)
        ∙ ap judged_reading read
        ∙ ap (λ t. fault_or t (fault_of (flaws_of w))) first
        ∙ ap (λ g. fault_or json (fault_of g)) second

-- no value where bytes stand after it
pub text_behind : (before : Flaws) (line xs : List ℕ) (json : Json) (now : Flaws) (behind left : List ℕ) → xs ≡ past_gap line → told before (value_at 64 xs) ≡ Some (json, now, behind) → left ≡ past_gap behind → (length left == 0) ≡ false → told_text before (document_at line) ≡ None
text_behind before line xs json now behind left e f g h = rw (← e) (by (value_at 64 xs) f)
  where
    filled : (ys : List ℕ) → (length ys == 0) ≡ false → is_empty ys ≡ false
    filled [] k = cc
    filled (y ∷ ys) k = refl

    by : (o : Option (Written × List ℕ)) → told before o ≡ Some (json, now, behind) → told_text before (and_then o (λ read. cond (is_empty (past_gap read.1)) (Some read.0) None)) ≡ None
    by None k = cc
    by (Some p) k =
        let both : ◌≡◌ {A = Json × Flaws × List ℕ} (tree_of p.0, joined before (flaws_of p.0), p.1) (json, now, behind) = cc in
        let same : past_gap p.1 ≡ left = ap (λ q. past_gap q.2) both ∙ sym g in
        rw (same, filled left h) refl

pub text_unread : (before : Flaws) (line : List ℕ) → told_text before (document_at line) ≡ None → judged_text line ≡ Err (cond (is_too_deep line) TooDeep NotJson)
text_unread before line e = by (document_at line) e (is_too_deep line)
  where
    by : (o : Option Written) → told_text before o ≡ None → (b : Bool) → cond b (Err TooDeep) (judged_reading o) ≡ Err (cond b TooDeep NotJson)
    by None f true = refl
    by None f false = refl
    by (Some w) f b = cc

-- The judgement is right.

abbrev pub AnswerOf : List ℕ → Result Json DocFault → Type 0
AnswerOf line (Ok json) = Spells line json
AnswerOf line (Err fault) = IsFirstFault line fault

flawless_is : (f : Flaws) → f.lone ≡ false → f.repeated ≡ false → f.wide ≡ false → f ≡ flawless
flawless_is f a b c = let same : ◌≡◌ {A = Flaws} (record { lone = f.lone; repeated = f.repeated; wide = f.wide }) flawless = rw (a, b, c) refl in same

by_flaws : (line : List ℕ) (j : IsJson line) (lone repeated wide : Bool) → (flaws_of j.way).lone ≡ lone → (flaws_of j.way).repeated ≡ repeated → (flaws_of j.way).wide ≡ wide
    → AnswerOf line (fault_or (tree_of j.way) (fault_of (record { lone = lone; repeated = repeated; wide = wide })))
by_flaws line j true repeated wide e f g = (j, e)
by_flaws line j false true wide e f g = (j, e, f)
by_flaws line j false false true e f g = (j, e, f, g)
by_flaws line j false false false e f g = record { is_json = j; is_flawless = flawless_is (flaws_of j.way) e f g; value = refl }

by_reading : (line : List ℕ) → IsShortText line → (o : Option Written) → document_at line ≡ o → AnswerOf line (judged_reading o)
by_reading line t None e = (t, λ w h. let read = shallow_read line w t.shallow h in let wrong : Some w ≡ None = sym read ∙ e in cc)
by_reading line t (Some w) e = by_flaws line (record { is_short_text = t; way = w; is_written = (line_sound line w e).0 }) (flaws_of w).lone (flaws_of w).repeated (flaws_of w).wide refl refl refl

pub answered : (line : List ℕ) → AnswerOf line (judged line)
answered line = by (is_long line) refl (is_utf8 line) refl (is_too_deep line) refl
  where
    by : (a : Bool) → is_long line ≡ a → (b : Bool) → is_utf8 line ≡ b → (c : Bool) → is_too_deep line ≡ c → AnswerOf line (cond a (Err LineTooLong) (cond b (cond c (Err TooDeep) (judged_reading (document_at line))) (Err NotUtf8)))
    by true e b f c g = long_is line e
    by false e false f c g = (short_is line e, not_utf8_is line f)
    by false e true f true g = (short_is line e, IsUtf8-from_is_utf8 line f, g)
    by false e true f false g = by_reading line (record { short = short_is line e; utf8 = IsUtf8-from_is_utf8 line f; shallow = g }) (document_at line) refl

pub value_or_fault : (line : List ℕ) → ((json : Json) × Spells line json) ⊎ ((fault : DocFault) × IsFirstFault line fault)
value_or_fault line = by (judged line) (answered line)
  where
    by : (j : Result Json DocFault) → AnswerOf line j → ((json : Json) × Spells line json) ⊎ ((fault : DocFault) × IsFirstFault line fault)
    by (Ok json) h = inl (json, h)
    by (Err fault) h = inr (fault, h)

-- And the line is nothing else.

text_is : (line : List ℕ) → IsShortText line → judged line ≡ judged_reading (document_at line)
text_is line t = rw (is_short_from line t.short, is_utf8-from_IsUtf8 line t.utf8, t.shallow) refl

json_is : (line : List ℕ) (j : IsJson line) → judged line ≡ fault_or (tree_of j.way) (fault_of (flaws_of j.way))
json_is line j = text_is line j.is_short_text ∙ ap judged_reading (shallow_read line j.way j.is_short_text.shallow j.is_written)

pub judged_value : (line : List ℕ) (json : Json) → Spells line json → judged line ≡ Ok json
judged_value line json s = json_is line s.is_json ∙ ap (λ f. fault_or (tree_of s.is_json.way) (fault_of f)) s.is_flawless ∙ ap Ok (sym s.value)

no_reading : (line : List ℕ) → ((w : Written) → IsWrittenAs line w → ⊥) → document_at line ≡ None
no_reading line h = by (document_at line) refl
  where
    by : (o : Option Written) → document_at line ≡ o → o ≡ None
    by None e = refl
    by (Some w) e = absurd (h w (line_sound line w e).0)

pub judged_fault : (line : List ℕ) (fault : DocFault) → IsFirstFault line fault → judged line ≡ Err fault
judged_fault line LineTooLong h = rw (is_long_from line h) refl
judged_fault line NotUtf8 h = rw (is_short_from line h.0, not_utf8 line h.1) refl
judged_fault line TooDeep h = rw (is_short_from line h.0, is_utf8-from_IsUtf8 line h.1, h.2) refl
judged_fault line NotJson h = text_is line h.0 ∙ ap judged_reading (no_reading line h.1)
judged_fault line LoneSurrogate h = json_is line h.0 ∙ rw h.1 refl
judged_fault line DuplicateKey h = json_is line h.0 ∙ rw (h.1, h.2) refl
judged_fault line NumberTooWide h = json_is line h.0 ∙ rw (h.1, h.2, h.3) refl
judged_fault line NoMemory h = absurd h

pub one_value : (line : List ℕ) (a b : Json) → Spells line a → Spells line b → a ≡ b
one_value line a b s t = let same : ◌≡◌ {A = Result Json DocFault} (Ok a) (Ok b) = sym (judged_value line a s) ∙ judged_value line b t in cc

pub one_fault : (line : List ℕ) (a b : DocFault) → IsFirstFault line a → IsFirstFault line b → a ≡ b
one_fault line a b s t = let same : ◌≡◌ {A = Result Json DocFault} (Err a) (Err b) = sym (judged_fault line a s) ∙ judged_fault line b t in cc

pub not_both : (line : List ℕ) (fault : DocFault) (json : Json) → IsFirstFault line fault → Spells line json → ⊥
not_both line fault json s t = let same : ◌≡◌ {A = Result Json DocFault} (Err fault) (Ok json) = sym (judged_fault line fault s) ∙ judged_value line json t in cc

-- What a reader answers.

pub excused : (fault : DocFault) (P : Type 0) → P → Excused fault P
excused LineTooLong P p = p
excused NotUtf8 P p = p
excused TooDeep P p = p
excused NotJson P p = p
excused LoneSurrogate P p = p
excused DuplicateKey P p = p
excused NumberTooWide P p = p
excused NoMemory P p = tt

pub answers : {A : Type 0} (view : A → Json) (line : List ℕ) (result : Result A DocFault) → Gives view result (judged line) → Answers view line result
answers view line (Ok tree) e = subst (AnswerOf line) e (answered line)
answers view line (Err LineTooLong) e = subst (AnswerOf line) e (answered line)
answers view line (Err NotUtf8) e = subst (AnswerOf line) e (answered line)
answers view line (Err TooDeep) e = subst (AnswerOf line) e (answered line)
answers view line (Err NotJson) e = subst (AnswerOf line) e (answered line)
answers view line (Err LoneSurrogate) e = subst (AnswerOf line) e (answered line)
answers view line (Err DuplicateKey) e = subst (AnswerOf line) e (answered line)
answers view line (Err NumberTooWide) e = subst (AnswerOf line) e (answered line)
answers view line (Err NoMemory) e = tt

-- of a line that isn't too long and is UTF-8
pub judged_text_is : (line : List ℕ) → length line ≤ max_line → IsUtf8 line → judged line ≡ judged_text line
judged_text_is line short utf8 = rw (is_short_from line short, is_utf8-from_IsUtf8 line utf8) refl
