-- What is known of a load that words ask for: its schema is that of a text, and its page bytes are in their range.
use Rattle.std.proofs.Common.{◌≡◌, ℕ, ◌≤◌, List, [], ◌∷◌, Bool, true, false, nat_le, Option, Some, None, sym, subst, refl, arith}
use Rattle.std.specs.Prelude.{IfSome, if◌then◌else◌, ◌&&◌, codes}
use Rattle.std.specs.Option.{option_map}
use Rattle.std.proofs.lemmas.Bool.Decides.{nat_tests}
use Rattle.byte_parsing.specs.Parse.{and_then}
use Rattle.command_words.specs.Arguments.{Arguments, arguments_of}
use Rattle.command_words.specs.Files.{only_file, or_text}
use Rattle.command_words.specs.Load.{LoadGiven, WritingGiven, page_range, group_range, writing_options, writing_given, load_given, load_words}
use Rattle.command_words.specs.Numbers.{is_number, number_of, is_within, number_within, number_or_default, number_given}
use Rattle.command_words.specs.Options.{value_of, are_known}
use Rattle.command_words.specs.Widths.{WidthsGiven, widths_given}
use Rattle.command_parsing.specs.Asking.{Asks}
use Rattle.command_parsing.specs.Commands.{Load, IsLoad}
use Rattle.schema_parsing.specs.Canonical.{HasText}
use Rattle.variant_store.specs.Commands.{loads, AskFor}

then_some : {A B : Type 0} (Q : A → Type 0) (P : B → Type 0) (o : Option A) (f : A → Option B) → IfSome o Q → ((a : A) → Q a → IfSome (f a) P) → IfSome (and_then o f) P
then_some Q P None f h k = tt
then_some Q P (Some a) f h k = k a h

any_some : {A B : Type 0} (P : B → Type 0) (o : Option A) (f : A → Option B) → ((a : A) → IfSome (f a) P) → IfSome (and_then o f) P
any_some P None f k = tt
any_some P (Some a) f k = k a

map_some : {A B : Type 0} (P : B → Type 0) (o : Option A) (f : A → B) → ((a : A) → P (f a)) → IfSome (option_map f o) P
map_some P None f k = tt
map_some P (Some a) f k = k a

map_then : {A B : Type 0} (Q : A → Type 0) (P : B → Type 0) (o : Option A) (f : A → B) → IfSome o Q → ((a : A) → Q a → P (f a)) → IfSome (option_map f o) P
map_then Q P None f h k = tt
map_then Q P (Some a) f h k = k a h

if_some : {A : Type 0} (P : A → Type 0) (b : Bool) (o : Option A) → IfSome o P → IfSome (if b then o else None) P
if_some P true o h = h
if_some P false o h = tt

number_fits : (a : Bool) (n : ℕ) → IfSome (if a && is_within page_range n then Some n else None) (λ k. 1024 ≤ k)
number_fits a n = by a (nat_le 1024 n) (nat_le n 16777216) refl
  where
    by : (a low high : Bool) → nat_le 1024 n ≡ low → IfSome (if a && (low && high) then Some n else None) (λ k. 1024 ≤ k)
    by false low high e = tt
    by true false high e = tt
    by true true false e = tt
    by true true true e = grind (arith, nat_tests)

page_fits : (o : Option (List ℕ)) → IfSome (number_or_default page_range o) (λ k. 1024 ≤ k)
page_fits None = omega arith
page_fits (Some text) = number_fits (is_number text) (number_of text)

writing_fits : (options : List (List ℕ × List ℕ)) → IfSome (writing_given options) (λ w. 1024 ≤ w.page_bytes)
writing_fits options =
    any_some (λ (w : WritingGiven). 1024 ≤ w.page_bytes) (value_of (codes "--schema") options) _ (λ schema.
    any_some (λ (w : WritingGiven). 1024 ≤ w.page_bytes) (widths_given options) _ (λ widths.
    then_some (λ (n : ℕ). 1024 ≤ n) (λ (w : WritingGiven). 1024 ≤ w.page_bytes) (number_given (codes "--page-bytes") page_range options) _
    (any_some (λ (n : ℕ). 1024 ≤ n) (value_of (codes "--page-bytes") options) (number_or_default page_range) page_fits)
    (λ page_bytes fits. map_some (λ (w : WritingGiven). 1024 ≤ w.page_bytes) (number_given (codes "--group-rows") group_range options) _ (λ group_rows. fits))))

given_fits : (given : Arguments) → IfSome (load_given given) (λ g. 1024 ≤ g.writing.page_bytes)
given_fits given =
    if_some (λ (g : LoadGiven). 1024 ≤ g.writing.page_bytes) (are_known writing_options given.options) _
    (any_some (λ (g : LoadGiven). 1024 ≤ g.writing.page_bytes) (only_file given.operands) _ (λ out.
    map_then (λ (w : WritingGiven). 1024 ≤ w.page_bytes) (λ (g : LoadGiven). 1024 ≤ g.writing.page_bytes) (writing_given given.options) _ (writing_fits given.options) (λ w fits. fits)))

with_pages : (given : Option LoadGiven) (load : Load) → IfSome given (λ g. 1024 ≤ g.writing.page_bytes) → Asks given (λ g. IsLoad g load) → 1024 ≤ load.page_bytes
with_pages None load fits h = absurd h
with_pages (Some given) load fits h = subst (λ (n : ℕ). 1024 ≤ n) (sym h.page_bytes) fits

with_text : (given : Option LoadGiven) (load : Load) → Asks given (λ g. IsLoad g load) → HasText load.schema
with_text None load h = absurd h
with_text (Some given) load h = record { text = given.writing.schema; is_schema = h.is_schema }

pub load_has_text : (words : List (List ℕ)) (load : Load) → AskFor words (loads load) → HasText load.schema
load_has_text [] load ask = absurd ask
load_has_text (word ∷ words) load ask = with_text (load_words words) load ask.1

pub load_has_pages : (words : List (List ℕ)) (load : Load) → AskFor words (loads load) → 1024 ≤ load.page_bytes
load_has_pages [] load ask = absurd ask
load_has_pages (word ∷ words) load ask =
    with_pages (load_words words) load (any_some (λ (g : LoadGiven). 1024 ≤ g.writing.page_bytes) (arguments_of words) load_given given_fits) ask.1
