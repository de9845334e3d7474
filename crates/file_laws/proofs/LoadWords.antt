-- What words ask a load to write can be written: its settings are in their ranges, and its schema is that of a text.
use Rattle.std.proofs.Common.{◌≡◌, refl, sym, subst, ℕ, ◌≤◌, Bool, true, false, nat_le, List, Option, None, Some, arith}
use Rattle.std.specs.Prelude.{◌&&◌, if◌then◌else◌, codes}
use Rattle.std.specs.Option.{option_map}
use Rattle.std.proofs.lemmas.Bool.Decides.{nat_tests}
use Rattle.byte_parsing.specs.Parse.{and_then}
use Rattle.command_words.specs.Arguments.{Arguments, arguments_of}
use Rattle.command_words.specs.Files.{only_file}
use Rattle.command_words.specs.Load.{LoadGiven, WritingGiven, page_range, writing_options, writing_given, load_given, load_words}
use Rattle.command_words.specs.Numbers.{is_number, number_of, is_within, number_within, number_or_default, number_given}
use Rattle.command_words.specs.Options.{value_of, are_known}
use Rattle.command_words.specs.Widths.{WidthsGiven, widths_range, widths_given}
use Rattle.command_words.specs.declared.numbers.NumberRange.{NumberRange}
use Rattle.command_parsing.specs.Asking.{Asks}
use Rattle.command_parsing.specs.Commands.{Load, IsLoad, AskLoad}
use Rattle.file_laws.specs.Loaded.{CanLoad}

-- What comes before a result that is there.

then_some : {A B : Type 0} (o : Option A) (f : A → Option B) (b : B) → and_then o f ≡ Some b → (a : A) × (o ≡ Some a) × (f a ≡ Some b)
then_some None f b e = absurd cc
then_some (Some a) f b e = (a, refl, e)

map_some : {A B : Type 0} (o : Option A) (f : A → B) (b : B) → option_map f o ≡ Some b → (a : A) × (o ≡ Some a) × (f a ≡ b)
map_some None f b e = absurd cc
map_some (Some a) f b e =
    let same : f a ≡ b = cc in
    (a, refl, same)

if_some : {A : Type 0} (c : Bool) (o : Option A) (a : A) → (if c then o else None) ≡ Some a → o ≡ Some a
if_some true o a e = e
if_some false o a e = absurd cc

-- Numbers that are given are in their ranges.

record IsIn (range : NumberRange) (n : ℕ) : Type 0 where
  least : range.least ≤ n
  most : n ≤ range.most

low : (a b n : ℕ) → nat_le a n && nat_le n b ≡ true → a ≤ n
low a b n = grind (arith, nat_tests)

high : (a b n : ℕ) → nat_le a n && nat_le n b ≡ true → n ≤ b
high a b n = grind (arith, nat_tests)

within_in : (range : NumberRange) (text : List ℕ) (n : ℕ) → number_within range text ≡ Some n → IsIn range n
within_in range text n e = by (is_number text) (is_within range (number_of text)) refl e
  where
    by : (a b : Bool) → is_within range (number_of text) ≡ b → (if a && b then Some (number_of text) else None) ≡ Some n → IsIn range n
    by true true within f =
        let same : number_of text ≡ n = cc in
        subst (IsIn range) same (record { least = low range.least range.most (number_of text) within; most = high range.least range.most (number_of text) within })
    by true false within f = absurd cc
    by false b within f = absurd cc

or_default_in : (range : NumberRange) (text : Option (List ℕ)) (n : ℕ) → IsIn range range.default → number_or_default range text ≡ Some n → IsIn range n
or_default_in range None n default e =
    let same : range.default ≡ n = cc in
    subst (IsIn range) same default
or_default_in range (Some text) n default e = within_in range text n e

given_in : (name : List ℕ) (range : NumberRange) (options : List (List ℕ × List ℕ)) (n : ℕ) → IsIn range range.default → number_given name range options ≡ Some n → IsIn range n
given_in name range options n default e =
    let found = then_some (value_of name options) (number_or_default range) n e in
    or_default_in range found.0 n default found.2

widths_default : IsIn widths_range widths_range.default
widths_default = record { least = omega arith; most = omega arith }

pages_default : IsIn page_range page_range.default
pages_default = record { least = omega arith; most = omega arith }

-- The settings.

record AreIn (given : WritingGiven) : Type 0 where
  offset : IsIn widths_range given.widths.offset
  id : IsIn widths_range given.widths.id
  pages : IsIn page_range given.page_bytes

widths_in : (options : List (List ℕ × List ℕ)) (w : WidthsGiven) → widths_given options ≡ Some w → IsIn widths_range w.offset × IsIn widths_range w.id
widths_in options w e =
    let offset = then_some (number_given (codes "--offset-width") widths_range options) _ w e in
    let id = map_some (number_given (codes "--id-width") widths_range options) _ w offset.2 in (
      subst (λ (g : WidthsGiven). IsIn widths_range g.offset) id.2 (given_in (codes "--offset-width") widths_range options offset.0 widths_default offset.1),
      subst (λ (g : WidthsGiven). IsIn widths_range g.id) id.2 (given_in (codes "--id-width") widths_range options id.0 widths_default id.1),
    )

writing_in : (options : List (List ℕ × List ℕ)) (w : WritingGiven) → writing_given options ≡ Some w → AreIn w
writing_in options w e =
    let schema = then_some (value_of (codes "--schema") options) _ w e in
    let widths = then_some (widths_given options) _ w schema.2 in
    let pages = then_some (number_given (codes "--page-bytes") page_range options) _ w widths.2 in
    let rows = map_some _ _ w pages.2 in
    let are = widths_in options widths.0 widths.1 in
    subst AreIn rows.2 (record { offset = are.0; id = are.1; pages = given_in (codes "--page-bytes") page_range options pages.0 pages_default pages.1 })

load_in : (arguments : Arguments) (given : LoadGiven) → load_given arguments ≡ Some given → AreIn given.writing
load_in arguments given e =
    let out = then_some (only_file arguments.operands) _ given (if_some (are_known writing_options arguments.options) _ given e) in
    let writing = map_some (writing_given arguments.options) _ given out.2 in
    subst (λ (g : LoadGiven). AreIn g.writing) writing.2 (writing_in arguments.options writing.0 writing.1)

-- what is given to a load that can be written
can_load : (given : LoadGiven) (load : Load) → AreIn given.writing → IsLoad given load → CanLoad load
can_load given load are is =
    let widths : AreIn (record { schema = given.writing.schema; widths = load.widths; page_bytes = load.page_bytes; group_rows = load.group_rows }) =
    record {
      offset = subst (λ (w : WidthsGiven). IsIn widths_range w.offset) (sym is.widths) are.offset;
      id = subst (λ (w : WidthsGiven). IsIn widths_range w.id) (sym is.widths) are.id;
      pages = subst (IsIn page_range) (sym is.page_bytes) are.pages;
    } in
    record {
      settings = record {
        widths = record { offset_least = widths.offset.least; offset_most = widths.offset.most; id_least = widths.id.least; id_most = widths.id.most };
        pages = widths.pages.least;
      };
      schema = record { text = given.writing.schema; is_schema = is.is_schema };
    }

pub asked_can_load : (words : List (List ℕ)) (load : Load) → AskLoad words load → CanLoad load
asked_can_load words load ask = by (load_words words) refl ask
  where
    by : (o : Option LoadGiven) → load_words words ≡ o → Asks o (λ given. IsLoad given load) → CanLoad load
    by None e h = absurd h
    by (Some given) e h =
        let found = then_some (arguments_of words) load_given given e in
        can_load given load (load_in found.0 given found.2) h
