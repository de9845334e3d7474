-- Lemmas on the walk over the lines of an input: what the first line that isn't blank adds, and that an
-- input has one list of documents and one ending.
use Rattle.std.proofs.Common.{◌≡◌, ◌+◌, ℕ, List, [], ◌∷◌, Bool, true, false, cond, arith, refl, sym, ap, subst, ◌∙◌, Result, Ok, Err}
use Rattle.std.proofs.lemmas.Bool.Decides.{nat_tests}
use Rattle.json_tree.specs.Json.{Json}
use Rattle.json_lines.specs.Cut.{Lines, none, last, over, line, found_end, found_line, found_long, found_over, first_line, is_long, is_blank}
use Rattle.exact_json.specs.Meaning.{Spells, IsFirstFault}
use Rattle.exact_json.specs.Judging.{judged}
use Rattle.json_documents.specs.Documents.{Ending, at_end, at_line, at_limit, Verdict, blank, document, faulty, Judges, Stops, Follows, Walks}
use Rattle.exact_json.specs.declared.fault.DocFault.{DocFault}
use Rattle.exact_json.specs.declared.fault.DocFault.TheVariants.{LineTooLong}
use Rattle.exact_json.proofs.Judged.{AnswerOf, answered}
use Rattle.exact_json.proofs.Judged as judging

-- a long line isn't blank, and this is its first fault
long_not_blank : (l : List ℕ) → is_long l ≡ true → is_blank l ≡ false
long_not_blank l e = grind (arith, nat_tests)

long_fault : (l : List ℕ) → is_long l ≡ true → IsFirstFault l LineTooLong
long_fault l e = grind (arith, nat_tests)

-- what a line that isn't blank adds, by the first line that is found

pub walk_document : (ls : Lines) (n m : ℕ) (l : List ℕ) (behind : Lines) (json : Json) (more : List Json) (ending : Ending) → first_line n ls ≡ found_line m l behind → Spells l json → Walks behind m more ending
    → Walks ls n (json ∷ more) ending
walk_document none n m l behind json more ending e s w = cc
walk_document (over k) n m l behind json more ending e s w = by (is_long k) e
  where
    by : (b : Bool) → cond b (found_long (n + 1)) found_over ≡ found_line m l behind → Walks (over k) n (json ∷ more) ending
    by true f = cc
    by false f = cc
walk_document (last k) n m l behind json more ending e s w = by (is_long k) (is_blank k) refl e
  where
    by : (b c : Bool) → is_blank k ≡ c → cond b (found_long (n + 1)) (cond c found_end (found_line (n + 1) k none)) ≡ found_line m l behind → Walks (last k) n (json ∷ more) ending
    by true c g f = cc
    by false true g f = cc
    by false false g f =
        let same : k ≡ l = cc in
        let number : n + 1 ≡ m = cc in
        let rest : none ≡ behind = cc in
        (document json, (g, subst (λ (x : List ℕ). Spells x json) (sym same) s), (more, refl, subst (λ (x : Lines). Walks x m more ending) (sym rest) w))
walk_document (line k ls) n m l behind json more ending e s w = by (is_long k) (is_blank k) refl e (λ f. walk_document ls (n + 1) m l behind json more ending f s w)
  where
    by : (b c : Bool) → is_blank k ≡ c → cond b (found_long (n + 1)) (cond c (first_line (n + 1) ls) (found_line (n + 1) k ls)) ≡ found_line m l behind
        → (first_line (n + 1) ls ≡ found_line m l behind → Walks ls (n + 1) (json ∷ more) ending) → Walks (line k ls) n (json ∷ more) ending
    by true c g f ih = cc
    by false true g f ih = (blank, g, ih f)
    by false false g f ih =
        let same : k ≡ l = cc in
        let number : n + 1 ≡ m = cc in
        let rest : ls ≡ behind = cc in
        (document json, (g, subst (λ (x : List ℕ). Spells x json) (sym same) s), (more, refl, subst (λ (x : ℕ). Walks ls x more ending) (sym number) (subst (λ (x : Lines). Walks x m more ending) (sym rest) w)))

pub walk_faulty : (ls : Lines) (n m : ℕ) (l : List ℕ) (behind : Lines) (fault : DocFault) → first_line n ls ≡ found_line m l behind → IsFirstFault l fault → Walks ls n [] (at_line m fault)
walk_faulty none n m l behind fault e s = cc
walk_faulty (over k) n m l behind fault e s = by (is_long k) e
  where
    by : (b : Bool) → cond b (found_long (n + 1)) found_over ≡ found_line m l behind → Walks (over k) n [] (at_line m fault)
    by true f = cc
    by false f = cc
walk_faulty (last k) n m l behind fault e s = by (is_long k) (is_blank k) refl e
  where
    by : (b c : Bool) → is_blank k ≡ c → cond b (found_long (n + 1)) (cond c found_end (found_line (n + 1) k none)) ≡ found_line m l behind → Walks (last k) n [] (at_line m fault)
    by true c g f = cc
    by false true g f = cc
    by false false g f =
        let same : k ≡ l = cc in
        let number : n + 1 ≡ m = cc in
        (faulty fault, (g, subst (λ (x : List ℕ). IsFirstFault x fault) (sym same) s), (refl, ap (λ i. at_line i fault) (sym number)))
walk_faulty (line k ls) n m l behind fault e s = by (is_long k) (is_blank k) refl e (λ f. walk_faulty ls (n + 1) m l behind fault f s)
  where
    by : (b c : Bool) → is_blank k ≡ c → cond b (found_long (n + 1)) (cond c (first_line (n + 1) ls) (found_line (n + 1) k ls)) ≡ found_line m l behind
        → (first_line (n + 1) ls ≡ found_line m l behind → Walks ls (n + 1) [] (at_line m fault)) → Walks (line k ls) n [] (at_line m fault)
    by true c g f ih = cc
    by false true g f ih = (blank, g, ih f)
    by false false g f ih =
        let same : k ≡ l = cc in
        let number : n + 1 ≡ m = cc in
        (faulty fault, (g, subst (λ (x : List ℕ). IsFirstFault x fault) (sym same) s), (refl, ap (λ i. at_line i fault) (sym number)))

pub walk_long : (ls : Lines) (n m : ℕ) → first_line n ls ≡ found_long m → Walks ls n [] (at_line m LineTooLong)
walk_long none n m e = cc
walk_long (over k) n m e = by (is_long k) refl e
  where
    by : (b : Bool) → is_long k ≡ b → cond b (found_long (n + 1)) found_over ≡ found_long m → Stops (cond (is_long k) (at_line (n + 1) LineTooLong) at_limit) [] (at_line m LineTooLong)
    by true g f = let number : n + 1 ≡ m = cc in rw g (refl, ap (λ i. at_line i LineTooLong) (sym number))
    by false g f = cc
walk_long (last k) n m e = by (is_long k) refl (is_blank k) e
  where
    by : (b : Bool) → is_long k ≡ b → (c : Bool) → cond b (found_long (n + 1)) (cond c found_end (found_line (n + 1) k none)) ≡ found_long m → Walks (last k) n [] (at_line m LineTooLong)
    by true g c f = let number : n + 1 ≡ m = cc in (faulty LineTooLong, (long_not_blank k g, long_fault k g), (refl, ap (λ i. at_line i LineTooLong) (sym number)))
    by false g true f = cc
    by false g false f = cc
walk_long (line k ls) n m e = by (is_long k) refl (is_blank k) refl e (λ f. walk_long ls (n + 1) m f)
  where
    by : (b : Bool) → is_long k ≡ b → (c : Bool) → is_blank k ≡ c → cond b (found_long (n + 1)) (cond c (first_line (n + 1) ls) (found_line (n + 1) k ls)) ≡ found_long m
        → (first_line (n + 1) ls ≡ found_long m → Walks ls (n + 1) [] (at_line m LineTooLong)) → Walks (line k ls) n [] (at_line m LineTooLong)
    by true g c h f ih = let number : n + 1 ≡ m = cc in (faulty LineTooLong, (long_not_blank k g, long_fault k g), (refl, ap (λ i. at_line i LineTooLong) (sym number)))
    by false g true h f ih = (blank, h, ih f)
    by false g false h f ih = cc

pub walk_end : (ls : Lines) (n : ℕ) → first_line n ls ≡ found_end → Walks ls n [] at_end
walk_end none n e = (refl, refl)
walk_end (over k) n e = by (is_long k) e
  where
    by : (b : Bool) → cond b (found_long (n + 1)) found_over ≡ found_end → Walks (over k) n [] at_end
    by true f = cc
    by false f = cc
walk_end (last k) n e = by (is_long k) (is_blank k) refl e
  where
    by : (b c : Bool) → is_blank k ≡ c → cond b (found_long (n + 1)) (cond c found_end (found_line (n + 1) k none)) ≡ found_end → Walks (last k) n [] at_end
    by true c g f = cc
    by false true g f = (blank, g, (refl, refl))
    by false false g f = cc
walk_end (line k ls) n e = by (is_long k) (is_blank k) refl e (λ f. walk_end ls (n + 1) f)
  where
    by : (b c : Bool) → is_blank k ≡ c → cond b (found_long (n + 1)) (cond c (first_line (n + 1) ls) (found_line (n + 1) k ls)) ≡ found_end
        → (first_line (n + 1) ls ≡ found_end → Walks ls (n + 1) [] at_end) → Walks (line k ls) n [] at_end
    by true c g f ih = cc
    by false true g f ih = (blank, g, ih f)
    by false false g f ih = cc

pub walk_over : (ls : Lines) (n : ℕ) → first_line n ls ≡ found_over → Walks ls n [] at_limit
walk_over none n e = cc
walk_over (over k) n e = by (is_long k) refl e
  where
    by : (b : Bool) → is_long k ≡ b → cond b (found_long (n + 1)) found_over ≡ found_over → Stops (cond (is_long k) (at_line (n + 1) LineTooLong) at_limit) [] at_limit
    by true g f = cc
    by false g f = rw g (refl, refl)
walk_over (last k) n e = by (is_long k) (is_blank k) e
  where
    by : (b c : Bool) → cond b (found_long (n + 1)) (cond c found_end (found_line (n + 1) k none)) ≡ found_over → Walks (last k) n [] at_limit
    by true c f = cc
    by false true f = cc
    by false false f = cc
walk_over (line k ls) n e = by (is_long k) (is_blank k) refl e (λ f. walk_over ls (n + 1) f)
  where
    by : (b c : Bool) → is_blank k ≡ c → cond b (found_long (n + 1)) (cond c (first_line (n + 1) ls) (found_line (n + 1) k ls)) ≡ found_over
        → (first_line (n + 1) ls ≡ found_over → Walks ls (n + 1) [] at_limit) → Walks (line k ls) n [] at_limit
    by true c g f ih = cc
    by false true g f ih = (blank, g, ih f)
    by false false g f ih = cc

-- each line has a verdict

pub judge : (l : List ℕ) → (v : Verdict) × Judges l v
judge l = by (is_blank l) refl (judged l) (answered l)
  where
    by : (b : Bool) → is_blank l ≡ b → (j : Result Json DocFault) → AnswerOf l j → (v : Verdict) × Judges l v
    by true g j h = (blank, g)
    by false g (Ok json) h = (document json, (g, h))
    by false g (Err fault) h = (faulty fault, (g, h))

-- so each input has documents and an ending
pub record Walked (ls : Lines) (n : ℕ) : Type 0 where
  pub documents : List Json
  pub ending : Ending
  pub walks : Walks ls n documents ending

stopped : (n : ℕ) (l : List ℕ) → (v : Verdict) × Judges l v → Walked (last l) n
stopped n l (blank, j) = record { documents = []; ending = at_end; walks = (blank, j, (refl, refl)) }
stopped n l (document json, j) = record { documents = json ∷ []; ending = at_end; walks = (document json, j, ([], refl, (refl, refl))) }
stopped n l (faulty fault, j) = record { documents = []; ending = at_line (n + 1) fault; walks = (faulty fault, j, (refl, refl)) }

followed : (n : ℕ) (l : List ℕ) (ls : Lines) → Walked ls (n + 1) → (v : Verdict) × Judges l v → Walked (line l ls) n
followed n l ls w (blank, j) = record { documents = w.documents; ending = w.ending; walks = (blank, j, w.walks) }
followed n l ls w (document json, j) = record { documents = json ∷ w.documents; ending = w.ending; walks = (document json, j, (w.documents, refl, w.walks)) }
followed n l ls w (faulty fault, j) = record { documents = []; ending = at_line (n + 1) fault; walks = (faulty fault, j, (refl, refl)) }

pub walked : (ls : Lines) (n : ℕ) → Walked ls n
walked none n = record { documents = []; ending = at_end; walks = (refl, refl) }
walked (last l) n = stopped n l (judge l)
walked (over l) n = record { documents = []; ending = cond (is_long l) (at_line (n + 1) LineTooLong) at_limit; walks = (refl, refl) }
walked (line l ls) n = followed n l ls (walked ls (n + 1)) (judge l)

-- and only these

pub one_value : (l : List ℕ) (a b : Json) → Spells l a → Spells l b → a ≡ b
one_value l a b s t = judging.one_value l a b s t

pub record Same (ds es : List Json) (a b : Ending) : Type 0 where
  pub documents : ds ≡ es
  pub ending : a ≡ b

followed_once : (n : ℕ) (l : List ℕ) (Behind : List Json → Ending → Type 0) → ((ds es : List Json) (a b : Ending) → Behind ds a → Behind es b → Same ds es a b)
    → (u v : Verdict) → Judges l u → Judges l v → (ds es : List Json) (a b : Ending) → Follows u n Behind ds a → Follows v n Behind es b → Same ds es a b
followed_once n l Behind once blank blank j k ds es a b f g = once ds es a b f g
followed_once n l Behind once blank (document x) j k ds es a b f g = let h = k.0 in cc
followed_once n l Behind once blank (faulty x) j k ds es a b f g = let h = k.0 in cc
followed_once n l Behind once (document x) blank j k ds es a b f g = let h = j.0 in cc
followed_once n l Behind once (document x) (document y) j k ds es a b f g =
    let same = one_value l x y j.1 k.1 in
    let rest = once f.0 g.0 a b f.2 g.2 in
    record { documents = f.1 ∙ ap (λ (z : Json). z ∷ f.0) same ∙ ap (λ (zs : List Json). y ∷ zs) rest.documents ∙ sym g.1; ending = rest.ending }
followed_once n l Behind once (document x) (faulty y) j k ds es a b f g = absurd (judging.not_both l y x k.1 j.1)
followed_once n l Behind once (faulty x) blank j k ds es a b f g = let h = j.0 in cc
followed_once n l Behind once (faulty x) (document y) j k ds es a b f g = absurd (judging.not_both l x y j.1 k.1)
followed_once n l Behind once (faulty x) (faulty y) j k ds es a b f g = record { documents = f.0 ∙ sym g.0; ending = f.1 ∙ ap (λ z. at_line n z) (judging.one_fault l x y j.1 k.1) ∙ sym g.1 }

stops_once : (here : Ending) (ds es : List Json) (a b : Ending) → Stops here ds a → Stops here es b → Same ds es a b
stops_once here ds es a b f g = record { documents = f.0 ∙ sym g.0; ending = f.1 ∙ sym g.1 }

pub walks_once : (ls : Lines) (n : ℕ) (ds es : List Json) (a b : Ending) → Walks ls n ds a → Walks ls n es b → Same ds es a b
walks_once none n ds es a b f g = stops_once at_end ds es a b f g
walks_once (over l) n ds es a b f g = stops_once (cond (is_long l) (at_line (n + 1) LineTooLong) at_limit) ds es a b f g
walks_once (last l) n ds es a b f g = followed_once (n + 1) l (Stops at_end) (stops_once at_end) f.0 g.0 f.1 g.1 ds es a b f.2 g.2
walks_once (line l ls) n ds es a b f g = followed_once (n + 1) l (Walks ls (n + 1)) (walks_once ls (n + 1)) f.0 g.0 f.1 g.1 ds es a b f.2 g.2
