-- Parts that `and` or `or` join, and units, as the parser reads them.
use Rattle.std.proofs.Common.{◌≡◌, ◌∙◌, refl, sym, ap, subst, ℕ, ◌+◌, zero, suc, ◌==◌, List, [], ◌∷◌, Bool, true, false, cond, Option, Some, None, codes, arith}
use Rattle.std.proofs.lemmas.Bool.Decides.{nat_tests}
use Rattle.std.specs.Option.{option_map}
use Rattle.byte_parsing.specs.Parse.{Parse, and_then, read_as, past, past_word}
use Rattle.byte_parsing.specs.Words.{past_gap, gap_of, word_end, past_whole_word}
use Rattle.query_tree.specs.Formula.{Formula, conjunction, disjunction}
use Rattle.path_parsing.specs.Reading.{path_at}
use Rattle.filter_parsing.specs.Grammar.{FilterSyntax, bracketed, both, either, formula_of, terms}
use Rattle.filter_parsing.specs.Reading.{term_at, are_few, more_at, joined_at, filter_by, unit_at, unit_by}
use Rattle.filter_parsing.specs.Parts.{meaning_of, joined_as, denied_within, bracketed_within}

-- what was read, and what it stands for
pub record WasRead (o : Option (FilterSyntax × List ℕ)) (now : Formula × ℕ) (after : List ℕ) : Type 0 where
  pub part : FilterSyntax
  pub is_read : o ≡ Some (part, after)
  pub stands : meaning_of part ≡ now

pub was_read : (o : Option (FilterSyntax × List ℕ)) (now : Formula × ℕ) (after : List ℕ) → read_as meaning_of o ≡ Some (now, after) → WasRead o now after
was_read None now after e = cc
was_read (Some r) now after e =
    let same : ◌≡◌ {A = (Formula × ℕ) × List ℕ} (meaning_of r.0, r.1) (now, after) = cc in
    record { part = r.0; is_read = ap (λ (xs : List ℕ). Some (r.0, xs)) (ap (λ p. p.1) same); stands = ap (λ p. p.0) same }

pub unread : (o : Option (FilterSyntax × List ℕ)) → read_as meaning_of o ≡ None → o ≡ None
unread None e = refl
unread (Some r) e = cc

-- a choice that was made
was_some : {A : Type 0} (b : Bool) (x y : A) → cond b (Some x) None ≡ Some y → (b ≡ true) × (x ≡ y)
was_some true x y e = (refl, cc)
was_some false x y e = cc

module _ (word : List ℕ) (join : FilterSyntax → List ℕ → List ℕ → FilterSyntax → FilterSyntax) (op : Formula → Formula → Formula) (part : Parse FilterSyntax) where
  -- what the joined parts stand for
  pub record Joins : Type 0 where
    pub means : (v : FilterSyntax) (before behind : List ℕ) (w : FilterSyntax) → formula_of (join v before behind w) ≡ op (formula_of v) (formula_of w)
    pub counts : (v : FilterSyntax) (before behind : List ℕ) (w : FilterSyntax) → terms (join v before behind w) ≡ terms v + terms w

  -- of a text, parts were read that stand for `now`, and at most so many more are ahead
  pub record Ahead (text : List ℕ) (now : Formula × ℕ) (count : ℕ) (rest : List ℕ) : Type 0 where
    pub left : FilterSyntax
    pub stands : meaning_of left ≡ now
    pub is_ahead : joined_at word join part text ≡ more_at word join part count left rest

  fitting : (v w : FilterSyntax) (now right new : Formula × ℕ) → meaning_of v ≡ now → meaning_of w ≡ right → joined_as op now right ≡ Some new → (are_few v w ≡ true) × (◌≡◌ {A = Formula × ℕ} (op (formula_of v) (formula_of w), terms v + terms w) new)
  fitting v w now right new m k f = was_some {A = Formula × ℕ} (are_few v w) (op (formula_of v) (formula_of w), terms v + terms w) new (subst (λ (x : Formula × ℕ). joined_as op (meaning_of v) x ≡ Some new) (sym k) (subst (λ (x : Formula × ℕ). joined_as op x right ≡ Some new) (sym m) f))

  pub turns : Joins → (text : List ℕ) (now right new : Formula × ℕ) (count less : ℕ) (rest ys xs after : List ℕ) → Ahead text now count rest → count ≡ suc less → past_whole_word word (past_gap rest) ≡ Some ys → xs ≡ past_gap ys → read_as meaning_of (part xs) ≡ Some (right, after)
      → joined_as op now right ≡ Some new → Ahead text new less after
  turns j text now right new count less rest ys xs after a n e g h f =
      let read = was_read (part xs) right after h in
      let parts = fitting a.left read.part now right new a.stands read.stands f in
      by read.part read.is_read parts.0 parts.1
    where
      by : (w : FilterSyntax) → part xs ≡ Some (w, after) → are_few a.left w ≡ true → (◌≡◌ {A = Formula × ℕ} (op (formula_of a.left) (formula_of w), terms a.left + terms w) new) → Ahead text new less after
      by w is_read few joined = record {
        left = join a.left (gap_of rest) (gap_of ys) w;
        stands = rw (j.means a.left (gap_of rest) (gap_of ys) w, j.counts a.left (gap_of rest) (gap_of ys) w) joined;
        is_ahead = a.is_ahead ∙ rw (n, e, ← g, is_read, few) refl;
      }

  -- after a word, no part
  pub breaks : (text : List ℕ) (now : Formula × ℕ) (count less : ℕ) (rest ys xs : List ℕ) → Ahead text now count rest → count ≡ suc less → past_whole_word word (past_gap rest) ≡ Some ys → xs ≡ past_gap ys → read_as meaning_of (part xs) ≡ None
      → read_as meaning_of (joined_at word join part text) ≡ None
  breaks text now count less rest ys xs a n e g none = rw (a.is_ahead, n, e, ← g, unread (part xs) none) refl

pub conj_joins : (part : Parse FilterSyntax) → Joins (codes "and") both conjunction part
conj_joins part = record { means = λ v before behind w. refl; counts = λ v before behind w. refl }

pub filter_joins : (part : Parse FilterSyntax) → Joins (codes "or") either disjunction part
filter_joins part = record { means = λ v before behind w. refl; counts = λ v before behind w. refl }

pub unit_is : (room : ℕ) (xs : List ℕ) → unit_at room xs ≡ unit_by (λ ys. denied_within room ys) (λ ys. bracketed_within room ys) xs
unfolding unit_at
unit_is zero xs = refl
unit_is (suc room) xs = refl

-- In brackets.

bracketed_by : (o : Option (FilterSyntax × List ℕ)) (gap : List ℕ) (now : Formula × ℕ) (behind ys : List ℕ) (end : Option (List ℕ)) → read_as meaning_of o ≡ Some (now, behind) → ys ≡ past_gap behind → past 41 ys ≡ end
    → read_as meaning_of (and_then o (λ r. option_map (λ rest. (bracketed gap r.0 (gap_of r.1), rest)) (past 41 (past_gap r.1)))) ≡ option_map (λ rest. (now, rest)) end
bracketed_by o gap now behind ys end e g h =
    let read = was_read o now behind e in
    by read.part read.is_read read.stands
  where
    closed : (w : FilterSyntax) (p : Option (List ℕ)) → read_as meaning_of (option_map (λ rest. (bracketed gap w (gap_of behind), rest)) p) ≡ option_map (λ rest. (meaning_of w, rest)) p
    closed w None = refl
    closed w (Some rest) = refl

    by : (w : FilterSyntax) → o ≡ Some (w, behind) → meaning_of w ≡ now → read_as meaning_of (and_then o (λ r. option_map (λ rest. (bracketed gap r.0 (gap_of r.1), rest)) (past 41 (past_gap r.1)))) ≡ option_map (λ rest. (now, rest)) end
    by w is_read stands = rw (is_read, ← g, h, ← stands) (closed w end)

pub bracketed_is : (room less : ℕ) (xs inside : List ℕ) (now : Formula × ℕ) (behind ys : List ℕ) (end : Option (List ℕ)) → room ≡ suc less → inside ≡ past_gap xs → read_as meaning_of (filter_by (λ zs. unit_at less zs) inside) ≡ Some (now, behind) → ys ≡ past_gap behind → past 41 ys ≡ end
    → read_as meaning_of (bracketed_within room xs) ≡ option_map (λ rest. (now, rest)) end
bracketed_is room less xs inside now behind ys end n i e g h = rw n (bracketed_by (filter_by (λ zs. unit_at less zs) (past_gap xs)) (gap_of xs) now behind ys end (rw (← i) e) g h)

pub no_bracketed : (room less : ℕ) (xs inside : List ℕ) → room ≡ suc less → inside ≡ past_gap xs → read_as meaning_of (filter_by (λ zs. unit_at less zs) inside) ≡ None → read_as meaning_of (bracketed_within room xs) ≡ None
no_bracketed room less xs inside n i e = rw (n, ← i, unread (filter_by (λ zs. unit_at less zs) inside) e) refl

pub unit_denied : (room : ℕ) (xs rest : List ℕ) → past_whole_word (codes "not") xs ≡ Some rest → unit_at room xs ≡ denied_within room rest
unit_denied room [] rest e = cc
unit_denied room (x ∷ xs) rest e = rw (unit_is room (x ∷ xs)) (by (x == 110) e)
  where
    by : (b : Bool) → and_then (and_then (cond b (Some xs) None) (λ ys. past_word (codes "ot") ys)) word_end ≡ Some rest → cond b (and_then (and_then (and_then (cond b (Some xs) None) (λ ys. past_word (codes "ot") ys)) word_end) (λ ys. denied_within room ys)) (cond (x == 40) (bracketed_within room xs) (term_at (x ∷ xs))) ≡ denied_within room rest
    by true k = rw k refl
    by false k = cc

pub unit_bracketed : (room : ℕ) (xs rest : List ℕ) → past 40 xs ≡ Some rest → unit_at room xs ≡ bracketed_within room rest
unit_bracketed room [] rest e = cc
unit_bracketed room (x ∷ xs) rest e = by (x == 40) refl e
  where
    by : (b : Bool) → (x == 40) ≡ b → cond b (Some xs) None ≡ Some rest → unit_at room (x ∷ xs) ≡ bracketed_within room rest
    by true k f =
        let is : x ≡ 40 = grind (arith, nat_tests) in
        let same : xs ≡ rest = cc in
        rw (is, unit_is room (40 ∷ xs), same) refl
    by false k f = cc

-- no path begins as a `not` does
no_term : (xs : List ℕ) → term_at (110 ∷ xs) ≡ None
unfolding term_at path_at
no_term xs = refl

pub unit_term : (room : ℕ) (xs : List ℕ) → past_whole_word (codes "not") xs ≡ None → past 40 xs ≡ None → unit_at room xs ≡ term_at xs
unfolding term_at path_at
unit_term room [] e f = rw (unit_is room []) refl
unit_term room (x ∷ xs) e f = rw (unit_is room (x ∷ xs)) (by (x == 110) refl)
  where
    other : (b : Bool) → cond b (Some xs) None ≡ None → cond b (bracketed_within room xs) (term_at (x ∷ xs)) ≡ term_at (x ∷ xs)
    other true k = cc
    other false k = refl

    by : (b : Bool) → (x == 110) ≡ b → cond b (and_then (past_whole_word (codes "not") (x ∷ xs)) (λ ys. denied_within room ys)) (cond (x == 40) (bracketed_within room xs) (term_at (x ∷ xs))) ≡ term_at (x ∷ xs)
    by true k =
        let is : x ≡ 110 = grind (arith, nat_tests) in
        rw (e, is) (sym (no_term xs))
    by false k = other (x == 40) f
