-- Lemmas on the reading of a filter and of paths.
use Rattle.std.proofs.Common.{◌≡◌, inl, inr, refl, ap, ℕ, ◌+◌, ◌<◌, List, [], ◌∷◌, ◌++◌, length, zero, suc, map, take, get_or, arith}
use Rattle.std.specs.Borrow.{Bor}
use Rattle.std.proofs.lemmas.List.{map-append}
use Rattle.command_words.specs.Scan.{Given}
use Rattle.query_tree.specs.declared.step.Step.{Step}
use Rattle.query_tree.specs.declared.path.Path.{Path}
use Rattle.query_tree.specs.View.{steps_of}
use Rattle.path_parsing.specs.Grammar.{IsPath}
use Rattle.command_parsing.specs.Asking.{IsRefused}
use Rattle.command_parsing.specs.Queries.{ArePaths, IsFiltered, IsWrongFilter, IsWrongPath, AreWrongPaths, IsWrongQuery}
use Rattle.command_parsing.specs.declared.fault.WordsFault.{WordsFault}
use Rattle.command_parsing.specs.declared.fault.WordsFault.TheVariants.{Wrong, NoMemory}

paths_push : (texts : List (List ℕ)) (paths : List (List Step)) (text : List ℕ) (steps : List Step) → ArePaths texts paths → IsPath text steps → ArePaths (texts ++ text ∷ []) (paths ++ steps ∷ [])
paths_push [] [] text steps h p = (p, tt)
paths_push [] (q ∷ paths) text steps h p = absurd h
paths_push (t ∷ texts) [] text steps h p = absurd h
paths_push (t ∷ texts) (q ∷ paths) text steps h p = (h.0, paths_push texts paths text steps h.1 p)

take_next : {X : Type 0} (xs : List X) (i : ℕ) (d : X) → i < length xs → take (i + 1) xs ≡ take i xs ++ get_or xs i d ∷ []
take_next [] i d less = absurd (omega arith)
take_next (x ∷ xs) zero d less = refl
take_next (x ∷ xs) (suc i) d less = let next : suc i + 1 ≡ suc (i + 1) = omega arith in rw next (ap (λ ys. x ∷ ys) (take_next xs i d (omega arith)))

abbrev texts_of : List (Bor (List ℕ)) → List (List ℕ)
texts_of texts = map (λ t. t.now) texts

text_at : (texts : List (Bor (List ℕ))) (i : ℕ) (d : Bor (List ℕ)) (text : List ℕ) → i < length texts → get_or (texts_of texts) i text ≡ (get_or texts i d).now
text_at [] i d text less = absurd (omega arith)
text_at (t ∷ texts) zero d text less = refl
text_at (t ∷ texts) (suc i) d text less = text_at texts i d text (omega arith)

length_texts : (texts : List (Bor (List ℕ))) → length (texts_of texts) ≡ length texts
length_texts [] = refl
length_texts (t ∷ texts) = ap suc (length_texts texts)

-- one more path is read
pub paths_more : (texts : List (Bor (List ℕ))) (i : ℕ) (d : Bor (List ℕ)) (old new : List Path) (path : Path) → i < length texts → new ≡ old ++ path ∷ []
    → ArePaths (texts_of (take i texts)) (map steps_of old) → IsPath (get_or texts i d).now (steps_of path) → ArePaths (texts_of (take (i + 1) texts)) (map steps_of new)
paths_more texts i d old new path less grown h p =
    rw (grown, take_next texts i d less, map-append, map-append) (paths_push (texts_of (take i texts)) (map steps_of old) (get_or texts i d).now (steps_of path) h p)

-- one of the texts is no path
pub path_wrong : (texts : List (Bor (List ℕ))) (i : ℕ) (d : Bor (List ℕ)) (fault : WordsFault) → i < length texts → IsRefused (IsWrongPath (get_or texts i d).now) fault → IsRefused (AreWrongPaths (texts_of texts)) fault
path_wrong texts i d (Wrong bad) less h =
    (h.0, record { text = (get_or texts i d).now; is_given = (i, omega (less, length_texts texts, arith), text_at texts i d (get_or texts i d).now less); is_none = h.1 })
path_wrong texts i d NoMemory less h = tt

-- what is wrong with the filter or the paths is wrong with the query

pub filter_refused : (given : Given) (fault : WordsFault) → IsRefused (IsWrongFilter given.filter) fault → IsRefused (IsWrongQuery given) fault
filter_refused given (Wrong bad) h = inl h
filter_refused given NoMemory h = tt

pub paths_refused : (given : Given) (fault : WordsFault) → IsFiltered given → IsRefused (AreWrongPaths given.paths) fault → IsRefused (IsWrongQuery given) fault
paths_refused given (Wrong bad) filtered h = inr (filtered, inl h)
paths_refused given NoMemory filtered h = tt
