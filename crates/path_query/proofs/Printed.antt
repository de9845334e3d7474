-- Texts after commas, and the bracket in place of the first comma.
use Rattle.std.proofs.Common.{◌≡◌, ◌∙◌, ℕ, ◌+◌, ◌<◌, ◌≤◌, arith, List, [], ◌∷◌, ◌++◌, length, take, drop, get_or, map, refl, sym, ap, append_assoc, Option, Some, None}
use Rattle.std.proofs.Math.Seq.{take-append_seam, drop-append-add}
use Rattle.std.proofs.lemmas.List.{drop_more, length-take, take-append-le, take-append-drop}
use Rattle.std.specs.List.{flat_map}
use Rattle.json_tree.specs.Json.{Json, Parts, no_parts, part, parts_of, array}
use Rattle.std.specs.Io.{StartsWith}
use Rattle.json_tree.specs.Text.{text_of, parts_text, more_parts}
use Rattle.json_tree.specs.View.{view}
use Rattle.json_tree.specs.declared.types.Tree.{Tree}
use Rattle.query_tree.specs.View.{steps_of}
use Rattle.query_tree.specs.declared.path.Path.{Path}
use Rattle.query_tree.specs.declared.step.Step.{Step}
use Rattle.path_query.specs.Answer.{with_member, value_text, members, after_commas, list_text, line_of}
use Rattle.path_query.specs.Matches.{matches, at}
use Rattle.path_query.specs.Members.{after_comma}

-- what is appended to is a front
pub starts_again : (new now old : List ℕ) → StartsWith new now → StartsWith now old → StartsWith new old
starts_again new now old e f =
    let short : length old ≤ length now = omega (arith, ap length f, length-take (length old) now) in
    ap (take (length old)) (sym (take-append-drop (length now) new))
    ∙ take-append-le (length old) (take (length now) new) (drop (length now) new) (omega (arith, ap length e))
    ∙ ap (take (length old)) e ∙ f

more_joined : (xs ys : List Json) → more_parts (parts_of (xs ++ ys)) ≡ more_parts (parts_of xs) ++ more_parts (parts_of ys)
more_joined [] ys = refl
more_joined (x ∷ xs) ys = rw (more_joined xs ys) (ap (λ (s : List ℕ). 44 ∷ s) (sym (append_assoc (text_of x) (more_parts (parts_of xs)) (more_parts (parts_of ys)))))

-- the matches in one part are printed, and those in the parts after it are ahead
pub matches_turn : (now new all : List ℕ) (steps : List Step) (ts : List Tree) (i : ℕ) (t : Tree) → i < length ts → t ≡ get_or ts i t
    → now ++ more_parts (parts_of (flat_map (matches steps) (map view (drop i ts)))) ≡ all
    → new ≡ now ++ more_parts (parts_of (matches steps (view t)))
    → new ++ more_parts (parts_of (flat_map (matches steps) (map view (drop (i + 1) ts)))) ≡ all
matches_turn now new all steps ts i t lt e before done =
    let here : List Json = matches steps (view t) in
    let after : List Json = flat_map (matches steps) (map view (drop (i + 1) ts)) in
    let more : drop i ts ≡ t ∷ drop (i + 1) ts = drop_more ts i t lt ∙ ap (λ (x : Tree). x ∷ drop (i + 1) ts) (sym e) in
    ap (λ (s : List ℕ). s ++ more_parts (parts_of after)) done
    ∙ append_assoc now (more_parts (parts_of here)) (more_parts (parts_of after))
    ∙ ap (λ (s : List ℕ). now ++ s) (sym (more_joined here after))
    ∙ ap (λ (xs : List Tree). now ++ more_parts (parts_of (flat_map (matches steps) (map view xs)))) (sym more)
    ∙ before

member_first : (steps : List Step) (text : Option (List ℕ)) (others : List (List ℕ)) → after_commas (with_member steps text others) ≡ after_comma steps text ++ after_commas others
member_first steps None others = refl
member_first steps (Some text) others = simp append_assoc

-- the member of one path is printed, and those of the paths after it are ahead
pub members_turn : (now new all : List ℕ) (paths : List Path) (row : Option Json) (i : ℕ) (path : Path) → i < length paths → path ≡ get_or paths i path
    → now ++ after_commas (members (map steps_of (drop i paths)) row) ≡ all
    → new ≡ now ++ after_comma (steps_of path) (value_text (steps_of path) (at (steps_of path) row))
    → new ++ after_commas (members (map steps_of (drop (i + 1) paths)) row) ≡ all
members_turn now new all paths row i path lt e before done =
    let here : Option (List ℕ) = value_text (steps_of path) (at (steps_of path) row) in
    let after : List (List ℕ) = members (map steps_of (drop (i + 1) paths)) row in
    let more : drop i paths ≡ path ∷ drop (i + 1) paths = drop_more paths i path lt ∙ ap (λ (x : Path). x ∷ drop (i + 1) paths) (sym e) in
    ap (λ (s : List ℕ). s ++ after_commas after) done
    ∙ append_assoc now (after_comma (steps_of path) here) (after_commas after)
    ∙ ap (λ (s : List ℕ). now ++ s) (sym (member_first (steps_of path) here after))
    ∙ ap (λ (xs : List Path). now ++ after_commas (members (map steps_of xs) row)) (sym more)
    ∙ before

opened : (old more : List ℕ) (bracket : ℕ) → take (length old) (old ++ more) ++ bracket ∷ drop (length old + 1) (old ++ more) ≡ old ++ bracket ∷ drop 1 more
opened old more bracket = rw (take-append_seam old more, drop-append-add old more 1) refl

closed : (old now new more ending : List ℕ) (start bracket : ℕ) → start ≡ length old → now ≡ old ++ more → new ≡ take start now ++ bracket ∷ drop (start + 1) now → new ++ ending ≡ old ++ bracket ∷ (drop 1 more ++ ending)
closed old now new more ending start bracket s e f =
    ap (λ (xs : List ℕ). xs ++ ending) (f ∙ rw (s, e) (opened old more bracket)) ∙ append_assoc old (bracket ∷ drop 1 more) ending

parts_opened : (ps : Parts) → drop 1 (more_parts ps) ≡ parts_text ps
parts_opened no_parts = refl
parts_opened (part j ps) = refl

members_opened : (texts : List (List ℕ)) → drop 1 (after_commas texts) ≡ list_text texts
members_opened [] = refl
members_opened (text ∷ texts) = refl

pub array_printed : (old now new : List ℕ) (start : ℕ) (js : List Json) → start ≡ length old → now ≡ old ++ more_parts (parts_of js) → new ≡ take start now ++ 91 ∷ drop (start + 1) now → new ++ 93 ∷ [] ≡ old ++ text_of (array (parts_of js))
array_printed old now new start js s e f =
    closed old now new (more_parts (parts_of js)) (93 ∷ []) start 91 s e f ∙ ap (λ (xs : List ℕ). old ++ 91 ∷ (xs ++ 93 ∷ [])) (parts_opened (parts_of js))

pub line_printed : (old now new : List ℕ) (start : ℕ) (paths : List (List Step)) (row : Option Json) → start ≡ length old → now ≡ old ++ after_commas (members paths row) → new ≡ take start now ++ 123 ∷ drop (start + 1) now → new ++ 125 ∷ (10 ∷ []) ≡ old ++ line_of paths row
line_printed old now new start paths row s e f =
    closed old now new (after_commas (members paths row)) (125 ∷ (10 ∷ [])) start 123 s e f ∙ ap (λ (xs : List ℕ). old ++ 123 ∷ (xs ++ 125 ∷ (10 ∷ []))) (members_opened (members paths row))
