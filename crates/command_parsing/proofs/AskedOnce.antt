-- Words that ask for something aren't wrong, and they ask for one thing.
use Rattle.std.proofs.Common.{◌≡◌, ◌∙◌, inl, inr, refl, sym, ap, subst, ℕ, zero, suc, ◌<◌, List, [], ◌∷◌, length, get_or, arith, true, false, Option, None, Some}
use Rattle.command_words.specs.Check.{CheckGiven, check_words}
use Rattle.command_words.specs.Load.{LoadGiven, load_words}
use Rattle.command_words.specs.Query.{QueryGiven, query_words}
use Rattle.command_words.specs.Scan.{Given, scan_words}
use Rattle.command_words.specs.Variant.{variant_words}
use Rattle.command_words.specs.Widths.{WidthsGiven}
use Rattle.query_tree.specs.Asked.{Asked}
use Rattle.query_tree.specs.Formula.{Formula, is_suited}
use Rattle.query_tree.specs.declared.step.Step.{Step}
use Rattle.path_parsing.specs.Grammar.{IsPath}
use Rattle.path_parsing.proofs.Texts.{paths_are_one}
use Rattle.filter_parsing.specs.Grammar.{IsFilter}
use Rattle.filter_parsing.proofs.Texts.{filter_one}
use Rattle.schema_parsing.proofs.Texts.{schemas_are_one}
use Rattle.command_parsing.specs.Asking.{Asks, IsWrong, IsNever}
use Rattle.command_parsing.specs.Commands.{AskScan, AskScanWrongly, AskVariant, AskVariantWrongly, Load, IsLoad, IsWrongSchema, AskLoad, AskLoadWrongly, FileQuery, IsFileQuery, AskQuery, AskQueryWrongly, AskCheck, AskCheckWrongly}
use Rattle.command_parsing.specs.Queries.{AsksFilter, ArePaths, is_repeated, IsAsked, LacksFilter, HasUnsuited, LacksPath, HasRepeated, IsWrongQuery}
use Rattle.command_parsing.specs.declared.fault.BadWords.{BadWords}

-- by what the words give

right : {G : Type 0} (o : Option G) (Holds : G → Type 0) (IsBad : G → BadWords → Type 0) (bad : BadWords) → ((given : G) → Holds given → IsBad given bad → ⊥) → Asks o Holds → IsWrong o IsBad bad → ⊥
right None Holds IsBad bad each asks wrong = asks
right (Some given) Holds IsBad bad each asks wrong = each given asks wrong

once : {G A : Type 0} (o : Option G) (P Q : G → Type 0) (x y : A) → ((given : G) → P given → Q given → x ≡ y) → Asks o P → Asks o Q → x ≡ y
once None P Q x y each f g = absurd f
once (Some given) P Q x y each f g = each given f g

-- filters and paths

has_filter : (given : Option (List ℕ)) (filter : Option Formula) → AsksFilter given filter → LacksFilter given → ⊥
has_filter None filter h k = let none = k.is_given in cc
has_filter (Some text) None h k = absurd h
has_filter (Some text) (Some f) h k =
    let given = k.is_given in
    let same : text ≡ k.text = cc in
    k.is_none f (subst (λ (t : List ℕ). IsFilter t f) same h.0)

is_filter_suited : (given : Option (List ℕ)) (filter : Option Formula) → AsksFilter given filter → HasUnsuited given → ⊥
is_filter_suited None filter h k = let none = k.is_given in cc
is_filter_suited (Some text) None h k = absurd h
is_filter_suited (Some text) (Some f) h k =
    let given = k.is_given in
    let same : text ≡ k.text = cc in
    let one : f ≡ k.formula = filter_one k.text f k.formula (subst (λ (t : List ℕ). IsFilter t f) same h.0) k.is_filter in
    let suited : is_suited k.formula ≡ true = subst (λ (g : Formula). is_suited g ≡ true) one h.1 in
    let unsuited = k.is_unsuited in
    cc

path_at : (texts : List (List ℕ)) (paths : List (List Step)) → ArePaths texts paths → (k : ℕ) → k < length texts → (text : List ℕ) → get_or texts k text ≡ text → (steps : List Step) × IsPath text steps
path_at [] paths h k less text e = absurd (omega arith)
path_at (t ∷ texts) [] h k less text e = absurd h
path_at (t ∷ texts) (steps ∷ paths) h zero less text e = (steps, subst (λ (s : List ℕ). IsPath s steps) e h.0)
path_at (t ∷ texts) (steps ∷ paths) h (suc k) less text e = path_at texts paths h.1 k (omega arith) text e

all_are_paths : (texts : List (List ℕ)) (paths : List (List Step)) → ArePaths texts paths → LacksPath texts → ⊥
all_are_paths texts paths h k =
    let place = k.is_given in
    let found = path_at texts paths h place.0 place.1 k.text place.2 in
    k.is_none found.0 found.1

same_paths : (texts : List (List ℕ)) (ps qs : List (List Step)) → ArePaths texts ps → ArePaths texts qs → ps ≡ qs
same_paths [] [] [] h k = refl
same_paths [] [] (q ∷ qs) h k = absurd k
same_paths [] (p ∷ ps) qs h k = absurd h
same_paths (t ∷ texts) [] qs h k = absurd h
same_paths (t ∷ texts) (p ∷ ps) [] h k = absurd k
same_paths (t ∷ texts) (p ∷ ps) (q ∷ qs) h k =
    let first = paths_are_one t p q h.0 k.0 in
    let others = same_paths texts ps qs h.1 k.1 in
    cc

are_unlike : (texts : List (List ℕ)) (paths : List (List Step)) → ArePaths texts paths → is_repeated paths ≡ false → HasRepeated texts → ⊥
are_unlike texts paths h unlike k =
    let same = same_paths texts k.paths paths k.are_paths h in
    let not_twice : is_repeated k.paths ≡ false = subst (λ (ps : List (List Step)). is_repeated ps ≡ false) (sym same) unlike in
    let twice = k.is_twice in
    cc

same_filter : (given : Option (List ℕ)) (f g : Option Formula) → AsksFilter given f → AsksFilter given g → f ≡ g
same_filter None None None h k = refl
same_filter None None (Some g) h k = absurd k
same_filter None (Some f) g h k = absurd h
same_filter (Some text) None g h k = absurd h
same_filter (Some text) (Some f) None h k = absurd k
same_filter (Some text) (Some f) (Some g) h k = ap Some (filter_one text f g h.0 k.0)

query_right : (given : Given) (asked : Asked) (bad : BadWords) → IsAsked given asked → IsWrongQuery given bad → ⊥
query_right given asked bad h (inl (inl k)) = has_filter given.filter asked.filter h.asks_filter k.1
query_right given asked bad h (inl (inr k)) = is_filter_suited given.filter asked.filter h.asks_filter k.1
query_right given asked bad h (inr (filtered, inl k)) = all_are_paths given.paths asked.paths h.are_paths k.1
query_right given asked bad h (inr (filtered, inr k)) = are_unlike given.paths asked.paths h.are_paths h.unlike k.1

query_once : (given : Given) (asked other : Asked) → IsAsked given asked → IsAsked given other → asked ≡ other
query_once given asked other h k =
    let filter = same_filter given.filter asked.filter other.filter h.asks_filter k.asks_filter in
    let paths = same_paths given.paths asked.paths other.paths h.are_paths k.are_paths in
    ap (λ f. record { filter = f; paths = asked.paths }) filter ∙ ap (λ ps. record { filter = other.filter; paths = ps }) paths

-- the commands

pub scan_right : (words : List (List ℕ)) (asked : Asked) (bad : BadWords) → AskScan words asked → AskScanWrongly words bad → ⊥
scan_right words asked bad = right (scan_words words) (λ given. IsAsked given asked) IsWrongQuery bad (λ given h k. query_right given asked bad h k)

pub variant_right : (words : List (List ℕ)) (widths : WidthsGiven) (bad : BadWords) → AskVariant words widths → AskVariantWrongly words bad → ⊥
variant_right words widths bad = right (variant_words words) (λ given. widths ≡ given) IsNever bad (λ given h k. k)

pub load_right : (words : List (List ℕ)) (load : Load) (bad : BadWords) → AskLoad words load → AskLoadWrongly words bad → ⊥
load_right words load bad = right (load_words words) (λ given. IsLoad given load) (λ given bad. IsWrongSchema given.writing.schema bad) bad (λ given h k. k.1 load.schema h.is_schema)

pub file_query_right : (words : List (List ℕ)) (query : FileQuery) (bad : BadWords) → AskQuery words query → AskQueryWrongly words bad → ⊥
file_query_right words query bad = right (query_words words) (λ given. IsFileQuery given query) (λ given bad. IsWrongQuery given.asked bad) bad (λ given h k. query_right given.asked query.asked bad h.is_asked k)

pub check_right : (words : List (List ℕ)) (check : CheckGiven) (bad : BadWords) → AskCheck words check → AskCheckWrongly words bad → ⊥
check_right words check bad = right (check_words words) (λ given. check ≡ given) IsNever bad (λ given h k. k)

pub scan_once : (words : List (List ℕ)) (asked other : Asked) → AskScan words asked → AskScan words other → asked ≡ other
scan_once words asked other = once (scan_words words) (λ given. IsAsked given asked) (λ given. IsAsked given other) asked other (λ given h k. query_once given asked other h k)

pub variant_once : (words : List (List ℕ)) (widths other : WidthsGiven) → AskVariant words widths → AskVariant words other → widths ≡ other
variant_once words widths other = once (variant_words words) (λ given. widths ≡ given) (λ given. other ≡ given) widths other (λ given h k. h ∙ sym k)

load_same : (given : LoadGiven) (load other : Load) → IsLoad given load → IsLoad given other → load ≡ other
load_same given load other h k =
    ap (λ out. record load { out = out }) (h.out ∙ sym k.out)
    ∙ ap (λ schema. record load { out = other.out; schema = schema }) (schemas_are_one given.writing.schema load.schema other.schema h.is_schema k.is_schema)
    ∙ ap (λ widths. record load { out = other.out; schema = other.schema; widths = widths }) (h.widths ∙ sym k.widths)
    ∙ ap (λ page_bytes. record other { page_bytes = page_bytes; group_rows = load.group_rows }) (h.page_bytes ∙ sym k.page_bytes)
    ∙ ap (λ group_rows. record other { group_rows = group_rows }) (h.group_rows ∙ sym k.group_rows)

pub load_once : (words : List (List ℕ)) (load other : Load) → AskLoad words load → AskLoad words other → load ≡ other
load_once words load other = once (load_words words) (λ given. IsLoad given load) (λ given. IsLoad given other) load other (λ given h k. load_same given load other h k)

file_query_same : (given : QueryGiven) (query other : FileQuery) → IsFileQuery given query → IsFileQuery given other → query ≡ other
file_query_same given query other h k =
    ap (λ file. record query { file = file }) (h.file ∙ sym k.file)
    ∙ ap (λ column. record query { file = other.file; column = column }) (h.column ∙ sym k.column)
    ∙ ap (λ asked. record other { asked = asked }) (query_once given.asked query.asked other.asked h.is_asked k.is_asked)

pub file_query_once : (words : List (List ℕ)) (query other : FileQuery) → AskQuery words query → AskQuery words other → query ≡ other
file_query_once words query other = once (query_words words) (λ given. IsFileQuery given query) (λ given. IsFileQuery given other) query other (λ given h k. file_query_same given query other h k)

pub check_once : (words : List (List ℕ)) (check other : CheckGiven) → AskCheck words check → AskCheck words other → check ≡ other
check_once words check other = once (check_words words) (λ given. check ≡ given) (λ given. other ≡ given) check other (λ given h k. h ∙ sym k)
