-- Values that are judged, and the entries that are made of them later.
use Rattle.std.proofs.Common.{◌≡◌, ◌∙◌, refl, sym, ap, subst, ℕ, zero, suc, ◌+◌, ◌-◌, ◌≤◌, ◌<◌, ◌==◌, Bool, true, cond, is_ok, List, [], ◌∷◌, ◌++◌, length, map, drop, slice_index, replicate, count_by, Option, Result, Ok, Err, arith}
use Rattle.std.proofs.lemmas.List.{drop_all, drop_more, length-drop, length-map}
use Rattle.std.proofs.lemmas.List.Sums.{sum_by-cons}
use Rattle.vs_bytes.specs.Outcome.{◌>>=◌}
use Rattle.vs_bytes.specs.declared.leaf_columns.Cell.{Cell}
use Rattle.vs_bytes.specs.declared.leaf_columns.Entry.{Entry}
use Rattle.vs_bytes.specs.declared.leaf_columns.Leaf.{Leaf}
use Rattle.vs_bytes.specs.declared.leaf_columns.Phys.TheVariants as phys
use Rattle.vs_bytes.specs.declared.rule.Rule.{Rule}
use Rattle.plain_values.specs.Plain.{front_cell, cells, len_of}
use Rattle.pages.specs.Bodies.{entry, value_count, joined}
use Rattle.pages.specs.ReadInTurn.{value_at, entries_in_turn, entries_at_once, before}
use Rattle.pages.specs.RowStarts.{row_starts, begins_row}
use Rattle.pages.specs.Waiting.{left, made, judged_leaf, IsPiece, IsJudged}
use Rattle.pages.proofs.JudgedTexts.{judged_left}
use Rattle.pages.proofs.ReadingInTurn.{in_turn, of_type}

-- so many cells of `bytes` are as good as `left` cells of the bytes that are left
pub record IsAsGood (front : List ℕ → Result (Cell × ℕ) Rule) (count : ℕ) (bytes : List ℕ) (left : ℕ) (rest : List ℕ) : Type 0 where
  pub good : is_ok (cells front left rest) ≡ true → is_ok (cells front count bytes) ≡ true
  pub bad : (rule : Rule) → cells front left rest ≡ Err rule → cells front count bytes ≡ Err rule

pub at_first : (front : List ℕ → Result (Cell × ℕ) Rule) (count : ℕ) (bytes : List ℕ) → IsAsGood front count bytes count bytes
at_first front count bytes = record { good = λ g. g; bad = λ rule is. is }

pub with_first : (c : Cell) (cs : Result (List Cell) Rule) → is_ok cs ≡ true → is_ok (cs >>= (λ cs. Ok (c ∷ cs))) ≡ true
with_first c (Ok cs) good = refl
with_first c (Err rule) good = cc

pub after_first : (c : Cell) (cs : Result (List Cell) Rule) (rule : Rule) → cs ≡ Err rule → (cs >>= (λ cs. Ok (c ∷ cs))) ≡ Err rule
after_first c cs rule is = rw is refl

pub one_judged : (front : List ℕ → Result (Cell × ℕ) Rule) (count : ℕ) (bytes : List ℕ) (left : ℕ) (rest : List ℕ) (used : ℕ) →
    IsAsGood front count bytes (suc left) rest → len_of (front rest) ≡ Ok used → IsAsGood front count bytes left (drop used rest)
one_judged front count bytes left rest used as_good is = by (front rest) refl is
  where
    by : (r : Result (Cell × ℕ) Rule) → front rest ≡ r → len_of r ≡ Ok used → IsAsGood front count bytes left (drop used rest)
    by (Ok c) read same =
        let len : c.1 ≡ used = cc in
        let here : cells front (suc left) rest ≡ (cells front left (drop used rest) >>= (λ cs. Ok (c.0 ∷ cs))) = rw read (rw len refl) in
        record {
          good = λ g. as_good.good (subst (λ (r : Result (List Cell) Rule). is_ok r ≡ true) (sym here) (with_first c.0 (cells front left (drop used rest)) g));
          bad = λ rule broken. as_good.bad rule (here ∙ after_first c.0 (cells front left (drop used rest)) rule broken);
        }
    by (Err rule) read same = let wrong : ◌≡◌ {A = Result ℕ Rule} (Err rule) (Ok used) = same in cc

pub one_refused : (front : List ℕ → Result (Cell × ℕ) Rule) (count : ℕ) (bytes : List ℕ) (left : ℕ) (rest : List ℕ) (rule : Rule) →
    IsAsGood front count bytes (suc left) rest → len_of (front rest) ≡ Err rule → cells front count bytes ≡ Err rule
one_refused front count bytes left rest rule as_good is = by (front rest) refl is
  where
    by : (r : Result (Cell × ℕ) Rule) → front rest ≡ r → len_of r ≡ Err rule → cells front count bytes ≡ Err rule
    by (Ok c) read same = let wrong : ◌≡◌ {A = Result ℕ Rule} (Ok c.1) (Err rule) = same in cc
    by (Err other) read same =
        let refused : ◌≡◌ {A = Result ℕ Rule} (Err other) (Err rule) = same in
        let one : other ≡ rule = cc in
        as_good.bad rule (rw read (ap (λ (r : Rule). Err r) one))

pub all_judged : (front : List ℕ → Result (Cell × ℕ) Rule) (count : ℕ) (bytes rest : List ℕ) → IsAsGood front count bytes 0 rest → is_ok (cells front count bytes) ≡ true
all_judged front count bytes rest as_good = as_good.good refl

with_joined : (maximum : ℕ) (reps defs : List ℕ) (cs : Result (List Cell) Rule) → is_ok cs ≡ true → is_ok (cs >>= (λ cs. Ok (joined maximum reps defs cs))) ≡ true
with_joined maximum reps defs (Ok cs) good = refl
with_joined maximum reps defs (Err rule) good = cc

good_left : (leaf : Leaf) (count : ℕ) (reps defs bytes : List ℕ) → length reps ≡ count → length defs ≡ count →
    is_ok (cells (front_cell leaf.phys leaf.prim) (value_count leaf.def defs) bytes) ≡ true → is_ok (left leaf reps defs bytes) ≡ true
good_left leaf count reps defs bytes as_reps as_defs good =
    subst (λ (r : Result (List Entry) Rule). is_ok r ≡ true) (sym (in_turn (front_cell leaf.phys leaf.prim) leaf.def reps defs bytes (as_reps ∙ sym as_defs))) (with_joined leaf.def reps defs (cells (front_cell leaf.phys leaf.prim) (value_count leaf.def defs) bytes) good)

-- where all values are good, so are the entries
pub judged_good : (leaf : Leaf) (count : ℕ) (reps defs bytes : List ℕ) → length reps ≡ count → length defs ≡ count →
    is_ok (cells (front_cell leaf.phys leaf.prim) (value_count leaf.def defs) bytes) ≡ true → is_ok (left (judged_leaf leaf) reps defs bytes) ≡ true
judged_good leaf count reps defs bytes as_reps as_defs good =
    let fine = good_left leaf count reps defs bytes as_reps as_defs good in
    ap (λ (r : Result (List Entry) Rule). is_ok r) (judged_left leaf reps defs bytes fine) ∙ fine

made_is : (r : Result (List Entry) Rule) → is_ok r ≡ true → r ≡ Ok (made r)
made_is (Ok es) good = refl
made_is (Err rule) good = cc

pub judged_whole : (leaf : Leaf) (count : ℕ) (reps defs bytes : List ℕ) → (leaf.phys ≡ phys.Boolean → ⊥) → length reps ≡ count → length defs ≡ count →
    is_ok (cells (front_cell leaf.phys leaf.prim) (value_count leaf.def defs) bytes) ≡ true → entries_at_once leaf reps defs bytes ≡ Ok (made (left (judged_leaf leaf) reps defs bytes))
judged_whole leaf count reps defs bytes other as_reps as_defs good =
    sym (of_type leaf reps defs bytes count other as_reps as_defs) ∙ made_is (left leaf reps defs bytes) (good_left leaf count reps defs bytes as_reps as_defs good)
    ∙ ap (λ (r : Result (List Entry) Rule). Ok (made r)) (sym (judged_left leaf reps defs bytes (good_left leaf count reps defs bytes as_reps as_defs good)))

bad_joined : (maximum : ℕ) (reps defs : List ℕ) (cs : Result (List Cell) Rule) (rule : Rule) → cs ≡ Err rule → (cs >>= (λ cs. Ok (joined maximum reps defs cs))) ≡ Err rule
bad_joined maximum reps defs cs rule is = rw is refl

pub judged_bad : (leaf : Leaf) (count : ℕ) (reps defs bytes : List ℕ) (rule : Rule) → (leaf.phys ≡ phys.Boolean → ⊥) → length reps ≡ count → length defs ≡ count →
    cells (front_cell leaf.phys leaf.prim) (value_count leaf.def defs) bytes ≡ Err rule → entries_at_once leaf reps defs bytes ≡ Err rule
judged_bad leaf count reps defs bytes rule other as_reps as_defs bad =
    sym (of_type leaf reps defs bytes count other as_reps as_defs)
    ∙ in_turn (front_cell leaf.phys leaf.prim) leaf.def reps defs bytes (as_reps ∙ sym as_defs)
    ∙ bad_joined leaf.def reps defs (cells (front_cell leaf.phys leaf.prim) (value_count leaf.def defs) bytes) rule bad

made_before : (found : List Entry) (rest whole : Result (List Entry) Rule) → before found rest ≡ whole → is_ok whole ≡ true → made whole ≡ found ++ made rest
made_before found (Ok es) whole is good = ap made (sym is)
made_before found (Err rule) whole is good = let broken : is_ok (before found (Err rule)) ≡ true = subst (λ (r : Result (List Entry) Rule). is_ok r ≡ true) (sym is) good in cc

pub still_good : (found : List Entry) (rest whole : Result (List Entry) Rule) → before found rest ≡ whole → is_ok whole ≡ true → is_ok rest ≡ true
still_good found (Ok es) whole is good = refl
still_good found (Err rule) whole is good = let broken : is_ok (before found (Err rule)) ≡ true = subst (λ (r : Result (List Entry) Rule). is_ok r ≡ true) (sym is) good in cc

-- a piece, and the entries after it
pub piece_taken : (leaf : Leaf) (reps defs : List ℕ) (from end : ℕ) (bytes : List ℕ) (found : List Entry) (used : ℕ) → IsPiece leaf reps defs from end bytes found used → is_ok (left leaf (drop from reps) (drop from defs) bytes) ≡ true →
    made (left leaf (drop from reps) (drop from defs) bytes) ≡ found ++ made (left leaf (drop end reps) (drop end defs) (drop used bytes))
piece_taken leaf reps defs from end bytes found used piece good = made_before found (left leaf (drop end reps) (drop end defs) (drop used bytes)) (left leaf (drop from reps) (drop from defs) bytes) piece.whole good

pub none_left : (leaf : Leaf) (reps defs : List ℕ) (end : ℕ) (bytes : List ℕ) → length reps ≤ end → made (left leaf (drop end reps) defs bytes) ≡ []
none_left leaf reps defs end bytes all = rw (drop_all end reps all) refl

-- What levels tell of the entries.

abbrev pub reps_of : List Entry → List ℕ
reps_of es = map (λ (e : Entry). e.rep) es

module _ (front : List ℕ → Result (Cell × ℕ) Rule) (maximum : ℕ) where
  pub same_reps : (reps defs bytes : List ℕ) (es : List Entry) → length reps ≡ length defs → entries_in_turn front maximum reps defs bytes ≡ Ok es → reps_of es ≡ reps
  same_reps [] defs bytes es same read = let none : es ≡ [] = cc in ap reps_of none
  same_reps (rep ∷ reps) [] bytes es same read = absurd (omega (arith, same))
  same_reps (rep ∷ reps) (def ∷ defs) bytes es same read =
      by (value_at front (def == maximum) bytes) read (λ rest found is. same_reps reps defs rest found (omega (arith, same)) is)
    where
      later : (v : Option Cell × ℕ) (r : Result (List Entry) Rule) → entries_in_turn front maximum reps defs (drop v.1 bytes) ≡ r → (r >>= (λ es. Ok (entry rep def v.0 ∷ es))) ≡ Ok es →
          ((rest : List ℕ) (found : List Entry) → entries_in_turn front maximum reps defs rest ≡ Ok found → reps_of found ≡ reps) → reps_of es ≡ rep ∷ reps
      later v (Ok found) is whole more = let one : es ≡ entry rep def v.0 ∷ found = cc in ap reps_of one ∙ ap (λ (rs : List ℕ). rep ∷ rs) (more (drop v.1 bytes) found is)
      later v (Err rule) is whole more = let wrong : ◌≡◌ {A = Result (List Entry) Rule} (Err rule) (Ok es) = whole in cc

      by : (r : Result (Option Cell × ℕ) Rule) → (r >>= (λ v. entries_in_turn front maximum reps defs (drop v.1 bytes) >>= (λ es. Ok (entry rep def v.0 ∷ es)))) ≡ Ok es →
          ((rest : List ℕ) (found : List Entry) → entries_in_turn front maximum reps defs rest ≡ Ok found → reps_of found ≡ reps) → reps_of es ≡ rep ∷ reps
      by (Ok v) whole more = later v (entries_in_turn front maximum reps defs (drop v.1 bytes)) refl whole more
      by (Err rule) whole more = let wrong : ◌≡◌ {A = Result (List Entry) Rule} (Err rule) (Ok es) = whole in cc

starts_of : (es : List Entry) → row_starts es ≡ count_by (λ r. r == 0) (reps_of es)
starts_of [] = refl
starts_of (e ∷ es) =
    sum_by-cons (λ (e : Entry). cond (e.rep == 0) 1 0) e es
    ∙ ap (λ (n : ℕ). cond (e.rep == 0) 1 0 + n) (starts_of es)
    ∙ sym (sum_by-cons (λ (r : ℕ). cond (r == 0) 1 0) e.rep (reps_of es))

module _ (leaf : Leaf) (reps defs bytes : List ℕ) (same : length reps ≡ length defs) (good : is_ok (left leaf reps defs bytes) ≡ true) where
  made_reps : reps_of (made (left leaf reps defs bytes)) ≡ reps
  made_reps = same_reps (front_cell leaf.phys leaf.prim) leaf.def reps defs bytes (made (left leaf reps defs bytes)) same (made_is (left leaf reps defs bytes) good)

  pub made_len : length (made (left leaf reps defs bytes)) ≡ length reps
  made_len = sym (length-map (made (left leaf reps defs bytes)) (λ (e : Entry). e.rep)) ∙ ap length made_reps

  pub made_starts : row_starts (made (left leaf reps defs bytes)) ≡ count_by (λ r. r == 0) reps
  made_starts = starts_of (made (left leaf reps defs bytes)) ∙ ap (count_by (λ r. r == 0)) made_reps

module _ (leaf : Leaf) (reps defs : List ℕ) (count at : ℕ) (values : List ℕ) (used : ℕ) (judged : IsJudged leaf reps defs count at values used) where
  same_left : length (drop at reps) ≡ length (drop at defs)
  same_left = length-drop at reps ∙ ap (λ (n : ℕ). n - at) (judged.reps_len ∙ sym judged.defs_len) ∙ sym (length-drop at defs)

  pub left_len : length (made (left leaf (drop at reps) (drop at defs) (drop used values))) ≡ count - at
  left_len = made_len leaf (drop at reps) (drop at defs) (drop used values) same_left judged.good ∙ length-drop at reps ∙ ap (λ (n : ℕ). n - at) judged.reps_len

  pub left_starts : row_starts (made (left leaf (drop at reps) (drop at defs) (drop used values))) ≡ count_by (λ r. r == 0) (drop at reps)
  left_starts = made_starts leaf (drop at reps) (drop at defs) (drop used values) same_left judged.good

all_zeros : (n : ℕ) → count_by (λ level. level == 0) (replicate n 0) ≡ n
all_zeros zero = refl
all_zeros (suc n) = sum_by-cons (λ (level : ℕ). cond (level == 0) 1 0) 0 (replicate n 0) ∙ ap (λ (m : ℕ). 1 + m) (all_zeros n) ∙ omega arith

-- how many of so many zeros are left
pub zeros_left : (n from : ℕ) → count_by (λ level. level == 0) (drop from (replicate n 0)) ≡ n - from
zeros_left zero from = ap (count_by (λ level. level == 0)) (drop_all from [] (omega arith)) ∙ omega arith
zeros_left (suc n) zero = all_zeros (suc n) ∙ omega arith
zeros_left (suc n) (suc from) = zeros_left n from ∙ omega arith

begins_with : List ℕ → Bool
begins_with [] = true
begins_with (rep ∷ reps) = rep == 0

begins_of : (es : List Entry) → begins_row es ≡ begins_with (reps_of es)
unfolding begins_with
begins_of [] = refl
begins_of (e ∷ es) = refl

module _ (leaf : Leaf) (reps defs : List ℕ) (count at : ℕ) (values : List ℕ) (used : ℕ) (judged : IsJudged leaf reps defs count at values used) where
  pub left_begins : at < count → begins_row (made (left leaf (drop at reps) (drop at defs) (drop used values))) ≡ (slice_index reps at == 0)
  unfolding begins_with
  left_begins more =
      let es = made (left leaf (drop at reps) (drop at defs) (drop used values)) in
      let first : drop at reps ≡ slice_index reps at ∷ drop (at + 1) reps = drop_more reps at 0 (omega (arith, more, judged.reps_len)) in
      begins_of es
      ∙ ap begins_with (made_reps leaf (drop at reps) (drop at defs) (drop used values) (same_left leaf reps defs count at values used judged) judged.good ∙ first)

  pub ends_begins : at ≡ count → begins_row (made (left leaf (drop at reps) (drop at defs) (drop used values))) ≡ true
  ends_begins is = ap begins_row (none_left leaf reps (drop at defs) at (drop used values) (omega (arith, is, judged.reps_len)))
