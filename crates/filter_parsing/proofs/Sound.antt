-- What is read of a filter is spelled so.
use Rattle.std.proofs.Common.{◌≡◌, ◌∙◌, refl, sym, ap, subst, ℕ, suc, zero, ◌==◌, ◌+◌, ◌≤◌, max, List, [], ◌∷◌, ◌++◌, true, false, Option, Some, None, Result, Ok, Err, eqb-true, arith, zero-le, length}
use Rattle.std.specs.Prelude.{codes}
use Rattle.std.proofs.lemmas.Bool.{leb-true}
use Rattle.exact_num.specs.Decimal.{Decimal}
use Rattle.exact_num.specs.Reading.{read_of}
use Rattle.exact_num.specs.declared.fault.NumFault.{NumFault}
use Rattle.exact_num.proofs.Readings.{read_ok}
use Rattle.byte_parsing.specs.Parse.{Parse, front, back}
use Rattle.byte_parsing.specs.Words.{is_numeric, EndsName, AreSpaces, gap_of, past_gap, past_whole_word}
use Rattle.byte_parsing.proofs.Holds.{Holds, holds_none, holds_some, holds_then, holds_as, holds_map, holds_if, holds_past}
use Rattle.byte_parsing.proofs.Runs.{split_run}
use Rattle.byte_parsing.proofs.Words.{gap_front, gap_split, whole_sound, word_value_sound}
use Rattle.query_tree.specs.declared.filter.Relation.{Relation}
use Rattle.path_parsing.specs.Grammar.{path_bytes}
use Rattle.filter_parsing.specs.Grammar.{LiteralSyntax, null_word, truth_word, TestSyntax, exists_word, missing_word, FilterSyntax, both, either, relation_text, literal_bytes, test_bytes, filter_bytes, IsWellLiteral, IsWellTest, IsWell, looseness, nesting, terms}
use Rattle.filter_parsing.specs.Reading.{or_equal, relation_at, number_from, number_at, string_literal, literal_at, related_at, test_at, term_at, are_few, more_at, joined_at, conj_at, filter_by, denied_at, bracketed_at, unit_by, unit_at, whole, filter_at}
use Rattle.filter_parsing.proofs.Numbers.{read_number}
use Rattle.path_parsing.proofs.Sound.{path_sound}
use Rattle.path_parsing.proofs.Strings.{paired_sound}

-- Relations.

abbrev IsRelation : List ℕ → Relation × List ℕ → Type 0
IsRelation xs read = xs ≡ relation_text read.0 ++ read.1

or_equal_sound : (P : Relation × List ℕ → Type 0) (strict weak : Relation) (xs : List ℕ) (o : Option (List ℕ)) → P (strict, xs) → Holds (λ rest. P (weak, rest)) o → Holds P (or_equal strict weak xs o)
or_equal_sound P strict weak xs None h k = holds_some P _ h
or_equal_sound P strict weak xs (Some rest) h k = holds_some P _ (k.here rest refl)

relation_sound : (xs : List ℕ) → Holds (IsRelation xs) (relation_at xs)
unfolding relation_at
relation_sound [] = holds_none _
relation_sound (x ∷ xs) =
    holds_if (IsRelation (x ∷ xs)) _ _ _ (λ e. holds_some _ _ (first 61 e))
    (λ _. holds_if _ (x == 33) _ _ (λ e. word_value_sound _ _ _ _ (holds_past 61 xs) (λ rest f. second 33 rest e f))
    (λ _. holds_if _ (x == 60) _ _ (λ e. or_equal_sound _ _ _ _ _ (first 60 e) (holds_as _ _ _ (holds_past 61 xs) (λ rest f. second 60 rest e f)))
    (λ _. holds_if _ (x == 62) _ _ (λ e. or_equal_sound _ _ _ _ _ (first 62 e) (holds_as _ _ _ (holds_past 61 xs) (λ rest f. second 62 rest e f)))
    (λ _. holds_none _))))
  where
    first : (b : ℕ) → (x == b) ≡ true → x ∷ xs ≡ b ∷ xs
    first b e = ap (λ y. y ∷ xs) (eqb-true x b e)

    second : (b : ℕ) (rest : List ℕ) → (x == b) ≡ true → xs ≡ 61 ∷ rest → x ∷ xs ≡ b ∷ (61 ∷ rest)
    second b rest e f = first b e ∙ ap (λ ys. b ∷ ys) f

-- Literals.

abbrev IsLiteral : List ℕ → LiteralSyntax × List ℕ → Type 0
IsLiteral xs read = (xs ≡ literal_bytes read.0 read.1) × IsWellLiteral read.0 read.1

number_sound : (xs : List ℕ) → Holds (IsLiteral xs) (number_at xs)
number_sound xs = by (read_of (front is_numeric xs)) refl
  where
    by : (r : Result Decimal NumFault) → read_of (front is_numeric xs) ≡ r → Holds (IsLiteral xs) (number_from (front is_numeric xs) (back is_numeric xs) r)
    by (Ok d) e = holds_some _ _ (split_run is_numeric xs, (read_number _ d e, read_ok _ d e))
    by (Err fault) e = holds_none _

string_sound : (xs : List ℕ) → Holds (IsLiteral (34 ∷ xs)) (string_literal xs)
string_sound xs = holds_map _ (IsLiteral (34 ∷ xs)) _ _ (paired_sound xs) (λ read p. (ap (λ ys. 34 ∷ ys) p.0, (p.1, p.2)))

literal_sound : (xs : List ℕ) → Holds (IsLiteral xs) (literal_at xs)
unfolding literal_at
literal_sound [] = holds_none _
literal_sound (x ∷ xs) =
    holds_if (IsLiteral (x ∷ xs)) (x == 34) _ _ (λ e. holds_as _ _ _ (string_sound xs) (λ read p. (ap (λ y. y ∷ xs) (eqb-true x 34 e) ∙ p.0, p.1)))
    (λ _. holds_if _ (x == 110) _ _ (λ _. word_value_sound _ _ null_word _ (whole_sound (codes "null") (x ∷ xs)) (λ rest p. p))
    (λ _. holds_if _ (x == 116) _ _ (λ _. word_value_sound _ _ (truth_word true) _ (whole_sound (codes "true") (x ∷ xs)) (λ rest p. p))
    (λ _. holds_if _ (x == 102) _ _ (λ _. word_value_sound _ _ (truth_word false) _ (whole_sound (codes "false") (x ∷ xs)) (λ rest p. p))
    (λ _. number_sound (x ∷ xs)))))

-- Tests and terms.

abbrev IsTest : List ℕ → TestSyntax × List ℕ → Type 0
IsTest xs read = (xs ≡ test_bytes read.0 read.1) × IsWellTest read.0 read.1

related_sound : (xs : List ℕ) → Holds (IsTest xs) (related_at xs)
related_sound xs =
    holds_then _ _ _ _ (relation_sound xs) (λ r e.
    holds_map _ _ _ _ (literal_sound (past_gap r.1)) (λ l p.
    (e ∙ ap (λ ys. relation_text r.0 ++ ys) (gap_split r.1 _ p.0), (gap_front r.1, p.1))))

test_sound : (xs : List ℕ) → Holds (IsTest xs) (test_at xs)
unfolding test_at
test_sound [] = holds_none _
test_sound (x ∷ xs) =
    holds_if (IsTest (x ∷ xs)) (x == 101) _ _ (λ _. word_value_sound _ _ exists_word _ (whole_sound (codes "exists") (x ∷ xs)) (λ rest p. p))
    (λ _. holds_if _ (x == 109) _ _ (λ _. word_value_sound _ _ missing_word _ (whole_sound (codes "missing") (x ∷ xs)) (λ rest p. p))
    (λ _. related_sound (x ∷ xs)))

-- what is known of a part that is read: how loosely it is bound, and how deep it nests
pub record IsPart (loose depth : ℕ) (xs : List ℕ) (read : FilterSyntax × List ℕ) : Type 0 where
  pub bytes : xs ≡ filter_bytes read.0 read.1
  pub well : IsWell read.0 read.1
  pub bound : looseness read.0 ≤ loose
  pub shallow : nesting read.0 ≤ depth
  pub few : terms read.0 ≤ 256

term_sound : (depth : ℕ) (xs : List ℕ) → Holds (IsPart 0 depth xs) (term_at xs)
unfolding term_at
term_sound depth xs =
    holds_then _ _ _ _ (path_sound xs) (λ path p.
    holds_map _ _ _ _ (test_sound (past_gap path.1)) (λ test q.
    let split : path.1 ≡ gap_of path.1 ++ test_bytes test.0 test.1 = gap_split path.1 _ q.0 in
    record {
      bytes = p.0 ∙ ap (λ ys. path_bytes path.0 ys) split;
      well = (rw split at p.1, gap_front path.1, q.1);
      bound = zero-le;
      shallow = zero-le;
      few = omega arith;
    }))

-- Parts that a word joins.

-- how a word joins parts that are bound so loosely with one that is bound as `inner` says
record JoinLaws (word : List ℕ) (join : FilterSyntax → List ℕ → List ℕ → FilterSyntax → FilterSyntax) (loose inner : ℕ) : Type 0 where
  bytes : (v : FilterSyntax) (before behind : List ℕ) (w : FilterSyntax) (after : List ℕ) → filter_bytes (join v before behind w) after ≡ filter_bytes v (before ++ (word ++ (behind ++ filter_bytes w after)))
  well : (v : FilterSyntax) (before behind : List ℕ) (w : FilterSyntax) (after : List ℕ) → looseness v ≤ loose → looseness w ≤ inner → AreSpaces before → AreSpaces behind → IsWell v (before ++ (word ++ (behind ++ filter_bytes w after))) → EndsName (behind ++ filter_bytes w after) → IsWell w after → IsWell (join v before behind w) after
  bound : (v : FilterSyntax) (before behind : List ℕ) (w : FilterSyntax) → looseness (join v before behind w) ≤ loose
  shallow : (v : FilterSyntax) (before behind : List ℕ) (w : FilterSyntax) → nesting (join v before behind w) ≡ max (nesting v) (nesting w)
  few : (v : FilterSyntax) (before behind : List ℕ) (w : FilterSyntax) → terms (join v before behind w) ≡ terms v + terms w
  least : inner ≤ loose

and_laws : JoinLaws (codes "and") both 1 0
and_laws = record {
  bytes = λ v before behind w after. refl;
  well = λ v before behind w after k l b c m e n. (k, omega (arith, l), b, c, m, e, n);
  bound = λ v before behind w. omega arith;
  shallow = λ v before behind w. refl;
  few = λ v before behind w. refl;
  least = omega arith;
}

or_laws : JoinLaws (codes "or") either 2 1
or_laws = record {
  bytes = λ v before behind w after. refl;
  well = λ v before behind w after k l b c m e n. (l, b, c, m, e, n);
  bound = λ v before behind w. omega arith;
  shallow = λ v before behind w. refl;
  few = λ v before behind w. refl;
  least = omega arith;
}

module _ (word : List ℕ) (join : FilterSyntax → List ℕ → List ℕ → FilterSyntax → FilterSyntax) (loose inner : ℕ) (laws : JoinLaws word join loose inner) (depth : ℕ) (part : Parse FilterSyntax) (part_sound : (xs : List ℕ) → Holds (IsPart inner depth xs) (part xs)) where
  -- one more part
  joined : (all xs behind : List ℕ) (v w : FilterSyntax) (ys rest : List ℕ) → IsPart loose depth all (v, xs) → past_gap xs ≡ word ++ ys → EndsName ys → IsPart inner depth (past_gap ys) (w, rest) → are_few v w ≡ true → IsPart loose depth all (join v (gap_of xs) (gap_of ys) w, rest)
  joined all xs behind v w ys rest p e ends q f =
      let inside : ys ≡ gap_of ys ++ filter_bytes w rest = gap_split ys _ q.bytes in
      let split : xs ≡ gap_of xs ++ (word ++ (gap_of ys ++ filter_bytes w rest)) = gap_split xs _ e ∙ ap (λ zs. gap_of xs ++ (word ++ zs)) inside in
      record {
        bytes = p.bytes ∙ ap (λ zs. filter_bytes v zs) split ∙ sym (laws.bytes v (gap_of xs) (gap_of ys) w rest);
        well = laws.well v (gap_of xs) (gap_of ys) w rest p.bound q.bound (gap_front xs) (gap_front ys) (rw split at p.well) (rw inside at ends) q.well;
        bound = laws.bound v (gap_of xs) (gap_of ys) w;
        shallow = omega (arith, laws.shallow v (gap_of xs) (gap_of ys) w, p.shallow, q.shallow);
        few = rw (laws.few v (gap_of xs) (gap_of ys) w) (leb-true (terms v + terms w) 256 f);
      }

  more_sound : (count : ℕ) (all : List ℕ) (v : FilterSyntax) (xs : List ℕ) → IsPart loose depth all (v, xs) → Holds (IsPart loose depth all) (more_at word join part count v xs)
  more_sound zero all v xs p = holds_some _ _ p
  more_sound (suc count) all v xs p = by (past_whole_word word (past_gap xs)) refl (λ w ys q. more_sound count all w ys q)
    where
      by : (o : Option (List ℕ)) → past_whole_word word (past_gap xs) ≡ o → ((w : FilterSyntax) (ys : List ℕ) → IsPart loose depth all (w, ys) → Holds (IsPart loose depth all) (more_at word join part count w ys)) → Holds (IsPart loose depth all) (more_at word join part (suc count) v xs)
      by None e others = rw e (holds_some _ _ p)
      by (Some ys) e others =
          let found = (whole_sound word (past_gap xs)).here ys e in
          rw e (holds_then _ _ _ _ (part_sound (past_gap ys)) (λ r q.
          holds_if _ _ _ _ (λ f. others _ _ (joined all xs ys v r.0 ys r.1 p found.0 found.1 q f)) (λ _. holds_none _)))

  joined_sound : (xs : List ℕ) → Holds (IsPart loose depth xs) (joined_at word join part xs)
  joined_sound xs =
      holds_then _ _ _ _ (part_sound xs) (λ r p.
      more_sound (length r.1) xs r.0 r.1 (record { bytes = p.bytes; well = p.well; bound = omega (arith, p.bound, laws.least); shallow = p.shallow; few = p.few }))

-- Conjs, filters and units.

abbrev Reads : ℕ → ℕ → Parse FilterSyntax → Type 0
Reads loose depth parse = (xs : List ℕ) → Holds (IsPart loose depth xs) (parse xs)

conj_sound : (depth : ℕ) (unit : Parse FilterSyntax) → Reads 0 depth unit → Reads 1 depth (λ xs. conj_at unit xs)
conj_sound depth unit h xs = joined_sound (codes "and") both 1 0 and_laws depth unit h xs

filter_by_sound : (depth : ℕ) (unit : Parse FilterSyntax) → Reads 0 depth unit → Reads 2 depth (λ xs. filter_by unit xs)
filter_by_sound depth unit h xs = joined_sound (codes "or") either 2 1 or_laws depth (λ ys. conj_at unit ys) (conj_sound depth unit h) xs

denied_sound : (depth : ℕ) (unit : Parse FilterSyntax) → Reads 0 depth unit → (xs : List ℕ) → EndsName xs → Holds (IsPart 0 (suc depth) (codes "not" ++ xs)) (denied_at unit xs)
denied_sound depth unit h xs ends =
    holds_map _ _ _ _ (h (past_gap xs)) (λ r p.
    let split : xs ≡ gap_of xs ++ filter_bytes r.0 r.1 = gap_split xs _ p.bytes in
    record {
      bytes = ap (λ ys. codes "not" ++ ys) split;
      well = (omega (arith, p.bound), rw split at ends, gap_front xs, p.well);
      bound = zero-le;
      shallow = omega (arith, p.shallow);
      few = p.few;
    })

bracketed_sound : (depth : ℕ) (unit : Parse FilterSyntax) → Reads 0 depth unit → (xs : List ℕ) → Holds (IsPart 0 (suc depth) (40 ∷ xs)) (bracketed_at unit xs)
bracketed_sound depth unit h xs =
    holds_then _ _ _ _ (filter_by_sound depth unit h (past_gap xs)) (λ r p.
    holds_map _ _ _ _ (holds_past 41 (past_gap r.1)) (λ rest e.
    let split : r.1 ≡ gap_of r.1 ++ 41 ∷ rest = gap_split r.1 _ e in
    record {
      bytes = ap (λ ys. 40 ∷ ys) (gap_split xs _ p.bytes ∙ ap (λ ys. gap_of xs ++ filter_bytes r.0 ys) split);
      well = (gap_front xs, gap_front r.1, rw split at p.well);
      bound = zero-le;
      shallow = omega (arith, p.shallow);
      few = p.few;
    }))

unit_by_sound : (depth : ℕ) (after_not after_bracket : Parse FilterSyntax) → ((xs : List ℕ) → EndsName xs → Holds (IsPart 0 depth (codes "not" ++ xs)) (after_not xs)) → ((xs : List ℕ) → Holds (IsPart 0 depth (40 ∷ xs)) (after_bracket xs)) → Reads 0 depth (λ xs. unit_by after_not after_bracket xs)
unit_by_sound depth after_not after_bracket h k [] = holds_none _
unit_by_sound depth after_not after_bracket h k (x ∷ xs) =
    holds_if (IsPart 0 depth (x ∷ xs)) (x == 110) _ _ (λ _. holds_then _ _ _ _ (whole_sound (codes "not") (x ∷ xs)) (λ ys p. subst (λ zs. Holds (IsPart 0 depth zs) (after_not ys)) (sym p.0) (h ys p.1)))
    (λ _. holds_if _ (x == 40) _ _ (λ e. subst (λ y. Holds (IsPart 0 depth (y ∷ xs)) (after_bracket xs)) (sym (eqb-true x 40 e)) (k xs))
    (λ _. term_sound depth (x ∷ xs)))

pub unit_sound : (depth : ℕ) → Reads 0 depth (λ xs. unit_at depth xs)
unfolding unit_at
unit_sound zero xs = unit_by_sound zero _ _ (λ ys _. holds_none _) (λ ys. holds_none _) xs
unit_sound (suc depth) xs =
    unit_by_sound (suc depth) _ _ (denied_sound depth (λ zs. unit_at depth zs) (unit_sound depth)) (bracketed_sound depth (λ zs. unit_at depth zs) (unit_sound depth)) xs

whole_filter : (xs : List ℕ) → Holds (λ w. IsPart 2 64 xs (w, [])) (whole (filter_by (λ ys. unit_at 64 ys) xs))
whole_filter xs = holds_then _ _ _ _ (filter_by_sound 64 (λ ys. unit_at 64 ys) (unit_sound 64) xs) (λ r p. by r.0 r.1 p)
  where
    by : (w : FilterSyntax) (rest : List ℕ) → IsPart 2 64 xs (w, rest) → Holds (λ w. IsPart 2 64 xs (w, [])) (whole (Some (w, rest)))
    by w [] p = holds_some _ _ p
    by w (x ∷ rest) p = holds_none _

pub filter_holds : (text : List ℕ) → Holds (λ w. IsPart 2 64 text (w, []) × (length text ≤ 65536)) (filter_at text)
filter_holds text =
    holds_if _ _ _ _ (λ e. holds_as _ _ _ (whole_filter text) (λ w p. (p, leb-true (length text) 65536 e))) (λ _. holds_none _)
