-- The reading of a text as functions on lists, call by call as a parser makes them. They give the derivation
-- tree and the bytes after it. The arrays and objects that may still be opened are the recursion's measure.
use Rattle.std.specs.Prelude.{◌==◌, ℕ, suc, zero, List, [], ◌∷◌, Bool, true, false, cond, ◌||◌, Option, Some, None, is_some, codes}
use Rattle.std.specs.Option.{option_map}
use Rattle.byte_parsing.specs.Lists.{more_at, all_at}
use Rattle.byte_parsing.specs.Parse.{Parse, and_then, front, back, past, past_word}
use Rattle.byte_parsing.specs.Words.{is_empty, is_numeric, word_value}
use Rattle.exact_num.specs.Parsing.{parsed}
use Rattle.json_strings.specs.Reading.{string_at}
use Rattle.json_grammar.specs.Grammar.{Written, null, boolean, number, text, array, object, Elements, no_elements, first_element, MoreElements, end_elements, next_element, Entry, entry, Entries, no_entries, first_entry, MoreEntries, end_entries, next_entry}

-- white space
abbrev pub is_space : ℕ → Bool
is_space x = x == 32 || (x == 9 || (x == 10 || x == 13))

abbrev pub gap_of : List ℕ → List ℕ
gap_of xs = front is_space xs

abbrev pub past_gap : List ℕ → List ℕ
past_gap xs = back is_space xs

abbrev pub word_at : List ℕ → Written → Parse Written
word_at bytes w xs = word_value w (past_word bytes xs)

-- all bytes of numbers that stand first are one number
abbrev pub number_at : Parse Written
number_at xs = cond (is_some (parsed (front is_numeric xs))) (Some (number (front is_numeric xs), back is_numeric xs)) None

abbrev pub more_elements_at : Parse Written → ℕ → Parse MoreElements
more_elements_at value count xs = more_at is_space 93 end_elements next_element value count xs

abbrev pub elements_at : Parse Written → Parse Elements
elements_at value xs = all_at is_space 93 no_elements first_element end_elements next_element value xs

-- a name, white space, a colon, white space, a value
abbrev pub entry_at : Parse Written → Parse Entry
entry_at value xs =
    and_then (past 34 xs) (λ inside.
    and_then (string_at inside) (λ name.
    and_then (past 58 (past_gap name.1)) (λ after.
    option_map (λ w. (entry name.0 (gap_of name.1) (gap_of after) w.0, w.1)) (value (past_gap after)))))

abbrev pub more_entries_at : Parse Written → ℕ → Parse MoreEntries
more_entries_at value count xs = more_at is_space 125 end_entries next_entry (entry_at value) count xs

abbrev pub entries_at : Parse Written → Parse Entries
entries_at value xs = all_at is_space 125 no_entries first_entry end_entries next_entry (entry_at value) xs

abbrev pub text_at : Parse Written
text_at xs = option_map (λ read. (text read.0, read.1)) (string_at xs)

abbrev pub array_at : Parse Elements → Parse Written
array_at elements xs = option_map (λ read. (array (gap_of xs) read.0, read.1)) (elements (past_gap xs))

abbrev pub object_at : Parse Entries → Parse Written
object_at entries xs = option_map (λ read. (object (gap_of xs) read.0, read.1)) (entries (past_gap xs))

-- a value, by its first byte
abbrev pub value_by : Parse Elements → Parse Entries → Parse Written
value_by elements entries [] = None
value_by elements entries (x ∷ xs) =
    cond (x == 34) (text_at xs)
    (cond (x == 91) (array_at elements xs)
    (cond (x == 123) (object_at entries xs)
    (cond (x == 110) (word_at (codes "null") null (x ∷ xs))
    (cond (x == 116) (word_at (codes "true") (boolean true) (x ∷ xs))
    (cond (x == 102) (word_at (codes "false") (boolean false) (x ∷ xs))
    (number_at (x ∷ xs)))))))

-- what an array and an object hold, while so many may be open
unfoldable pub nested : ℕ → Parse Elements × Parse Entries
nested zero = (λ _. None, λ _. None)
nested (suc depth) =
    let value = value_by (nested depth).0 (nested depth).1 in
    (λ xs. elements_at value xs, λ xs. entries_at value xs)

abbrev pub value_at : ℕ → Parse Written
value_at depth xs = value_by (nested depth).0 (nested depth).1 xs

-- a whole text: a value, with white space round it, that has at most so many arrays and objects open at once
abbrev pub text_within : ℕ → List ℕ → Option Written
text_within depth line = and_then (value_at depth (past_gap line)) (λ read. cond (is_empty (past_gap read.1)) (Some read.0) None)

abbrev pub document_at : List ℕ → Option Written
document_at line = text_within 64 line
