-- What is read is spelled.
use Rattle.std.proofs.Common.{◌≡◌, refl, sym, ap, ◌∙◌, ℕ, suc, zero, ◌==◌, ◌+◌, ◌≤◌, List, [], ◌∷◌, ◌++◌, true, false, eqb-true, arith, zero-le}
use Rattle.std.specs.Prelude.{codes}
use Rattle.json_strings.specs.Pieces.{pieces_spelled}
use Rattle.json_grammar.specs.Grammar.{Written, null, boolean, number, Elements, no_elements, first_element, MoreElements, end_elements, next_element, Entry, Entries, no_entries, first_entry, MoreEntries, end_entries, next_entry, spelled, elements_spelled, more_elements_spelled, entry_spelled, entries_spelled, more_entries_spelled, IsWell, AreWellElements, AreWellMore, IsWellEntry, AreWellEntries, AreWellMoreEntries, nesting, elements_nesting, more_nesting, entry_nesting, entries_nesting, more_entries_nesting}
use Rattle.byte_parsing.specs.Parse.{Parse, front, back}
use Rattle.byte_parsing.specs.Words.{is_numeric}
use Rattle.json_grammar.specs.Reading.{is_space, past_gap, word_at, number_at, value_by, value_at, nested, entry_at}
use Rattle.byte_parsing.proofs.ListReading.{IsRead as Spells, Laws, all_sound}
use Rattle.byte_parsing.proofs.Runs.{split_run}
use Rattle.json_grammar.proofs.Gaps.{passes_gap, gap_front, gap_split}
use Rattle.byte_parsing.proofs.Holds.{Holds, holds_none, holds_some, holds_then, holds_as, holds_map, holds_if, holds_past, holds_word}
use Rattle.json_grammar.proofs.Strings.{string_sound}
use Rattle.json_grammar.proofs.Numbers.{number_sound as number_is}

-- what is known of a part of a value that is read
pub record IsRead (Well : Type 0) (nested depth : ℕ) : Type 0 where
  pub well : Well
  pub within : nested ≤ depth

abbrev pub Good : ℕ → Written → Type 0
Good d w = IsRead (IsWell w) (nesting w) d

abbrev GoodElements : ℕ → Elements → Type 0
GoodElements d es = IsRead (AreWellElements es) (elements_nesting es) d

abbrev GoodMore : ℕ → MoreElements → Type 0
GoodMore d es = IsRead (AreWellMore es) (more_nesting es) d

abbrev GoodEntry : ℕ → Entry → Type 0
GoodEntry d e = IsRead (IsWellEntry e) (entry_nesting e) d

abbrev GoodEntries : ℕ → Entries → Type 0
GoodEntries d es = IsRead (AreWellEntries es) (entries_nesting es) d

abbrev GoodMoreEntries : ℕ → MoreEntries → Type 0
GoodMoreEntries d es = IsRead (AreWellMoreEntries es) (more_entries_nesting es) d

-- what stands in an array or object, which is itself one of those that are open
abbrev Inside : ℕ → Elements → Type 0
Inside d es = IsRead (AreWellElements es) (elements_nesting es + 1) d

abbrev InsideObject : ℕ → Entries → Type 0
InsideObject d es = IsRead (AreWellEntries es) (entries_nesting es + 1) d

element_laws : (d : ℕ) → Laws is_space spelled (λ w after. Good d w) more_elements_spelled (λ m after. GoodMore d m) elements_spelled (λ es after. GoodElements d es) 93 first_element end_elements next_element
element_laws d = record {
  first_spelled = λ a gap m after. refl;
  end_spelled = λ after. refl;
  next_spelled = λ before a gap m after. refl;
  first_good = λ a gap m after p g q. record { well = (p.well, passes_gap gap g, q.well); within = omega (arith, p.within, q.within) };
  end_good = λ after. record { well = tt; within = zero-le };
  next_good = λ before a gap m after b p g q. record { well = (passes_gap before b, p.well, passes_gap gap g, q.well); within = omega (arith, p.within, q.within) };
}

entry_laws : (d : ℕ) → Laws is_space entry_spelled (λ e after. GoodEntry d e) more_entries_spelled (λ m after. GoodMoreEntries d m) entries_spelled (λ es after. GoodEntries d es) 125 first_entry end_entries next_entry
entry_laws d = record {
  first_spelled = λ a gap m after. refl;
  end_spelled = λ after. refl;
  next_spelled = λ before a gap m after. refl;
  first_good = λ a gap m after p g q. record { well = (p.well, passes_gap gap g, q.well); within = omega (arith, p.within, q.within) };
  end_good = λ after. record { well = tt; within = zero-le };
  next_good = λ before a gap m after b p g q. record { well = (passes_gap before b, p.well, passes_gap gap g, q.well); within = omega (arith, p.within, q.within) };
}

-- what is read was spelled, and is good
abbrev Reads : {A : Type 0} → (A → List ℕ → List ℕ) → (A → Type 0) → Parse A → Type 0
Reads spell Good parse = Spells spell (λ a after. Good a) parse

entry_sound : (d : ℕ) (value : Parse Written) → Reads spelled (Good d) value → Reads entry_spelled (GoodEntry d) (λ xs. entry_at value xs)
entry_sound d value h xs =
    holds_then _ _ _ _ (holds_past 34 xs) (λ inside e.
    holds_then _ _ _ _ (string_sound inside) (λ name p.
    holds_then _ _ _ _ (holds_past 58 (past_gap name.1)) (λ behind f.
    holds_map _ _ _ _ (h (past_gap behind)) (λ w q. (
      e ∙ ap (λ ys. 34 ∷ ys) (p.0 ∙ ap (λ ys. pieces_spelled name.0 ys) (gap_split name.1 _ (f ∙ ap (λ ys. 58 ∷ ys) (gap_split behind _ q.0)))),
      record { well = (p.1, gap_front name.1, gap_front behind, q.1.well); within = q.1.within },
    )))))

number_sound : (d : ℕ) → Reads spelled (Good d) (λ xs. number_at xs)
number_sound d xs =
    holds_if _ _ _ _ (λ e. holds_some (λ read. (xs ≡ spelled read.0 read.1) × Good d read.0) (number (front is_numeric xs), back is_numeric xs) (split_run is_numeric xs, record { well = number_is (front is_numeric xs) e; within = zero-le }))
    (λ _. holds_none _)

value_sound : (d : ℕ) (elements : Parse Elements) (entries : Parse Entries) → Reads elements_spelled (Inside d) elements → Reads entries_spelled (InsideObject d) entries → Reads spelled (Good d) (λ xs. value_by elements entries xs)
value_sound d elements entries h k [] = holds_none _
value_sound d elements entries h k (x ∷ xs) =
    holds_if _ _ _ _ (λ e. holds_map _ _ _ _ (string_sound xs) (λ read p.
    (ap (λ y. y ∷ xs) (eqb-true x 34 e) ∙ ap (λ ys. 34 ∷ ys) p.0, record { well = p.1; within = zero-le })))
    (λ _. holds_if _ _ _ _ (λ e. holds_map _ _ _ _ (h (past_gap xs)) (λ read p. (
      ap (λ y. y ∷ xs) (eqb-true x 91 e) ∙ ap (λ ys. 91 ∷ ys) (gap_split xs _ p.0),
      record { well = (gap_front xs, p.1.well); within = p.1.within },
    )))
    (λ _. holds_if _ _ _ _ (λ e. holds_map _ _ _ _ (k (past_gap xs)) (λ read p. (
      ap (λ y. y ∷ xs) (eqb-true x 123 e) ∙ ap (λ ys. 123 ∷ ys) (gap_split xs _ p.0),
      record { well = (gap_front xs, p.1.well); within = p.1.within },
    )))
    (λ _. holds_if _ (x == 110) _ _ (λ _. word null (codes "null") tt (λ rest. refl) zero-le)
    (λ _. holds_if _ (x == 116) _ _ (λ _. word (boolean true) (codes "true") tt (λ rest. refl) zero-le)
    (λ _. holds_if _ (x == 102) _ _ (λ _. word (boolean false) (codes "false") tt (λ rest. refl) zero-le)
    (λ _. number_sound d (x ∷ xs)))))))
  where
    word : (w : Written) (bytes : List ℕ) → IsWell w → ((rest : List ℕ) → spelled w rest ≡ bytes ++ rest) → nesting w ≤ d → Holds (λ read. (x ∷ xs ≡ spelled read.0 read.1) × Good d read.0) (word_at bytes w (x ∷ xs))
    word w bytes well spelling within = holds_map _ _ _ _ (holds_word bytes (x ∷ xs)) (λ rest e. (e ∙ sym (spelling rest), record { well = well; within = within }))

nested_sound : (d : ℕ) → Reads elements_spelled (Inside d) (nested d).0 × Reads entries_spelled (InsideObject d) (nested d).1
unfolding nested
nested_sound zero = (λ xs. holds_none _, λ xs. holds_none _)
nested_sound (suc d) =
    let below = nested_sound d in
    let value : Reads spelled (Good d) (λ xs. value_at d xs) = value_sound d (nested d).0 (nested d).1 below.0 below.1 in (
      (λ xs. holds_as _ _ _ (all_sound _ _ _ _ _ _ _ 93 _ _ _ (element_laws d) no_elements (λ after. refl) (λ after. record { well = tt; within = zero-le }) (λ ys. value_at d ys) value xs) (λ read p.
          (p.0, record { well = p.1.well; within = omega (arith, p.1.within) }))),
      (λ xs. holds_as _ _ _ (all_sound _ _ _ _ _ _ _ 125 _ _ _ (entry_laws d) no_entries (λ after. refl) (λ after. record { well = tt; within = zero-le }) (λ ys. entry_at (λ zs. value_at d zs) ys) (entry_sound d (λ ys. value_at d ys) value) xs) (λ read p.
          (p.0, record { well = p.1.well; within = omega (arith, p.1.within) }))),
    )

pub sound : (d : ℕ) → Reads spelled (Good d) (λ xs. value_at d xs)
sound d = value_sound d (nested d).0 (nested d).1 (nested_sound d).0 (nested_sound d).1
