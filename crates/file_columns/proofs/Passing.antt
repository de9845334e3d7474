-- Trees of a list of elements, passed over one by one.
use Rattle.std.proofs.Common.{◌≡◌, ◌∙◌, sym, ap, refl, cond, true, false, ℕ, zero, suc, ◌+◌, ◌-◌, ◌*◌, ◌<◌, ◌≤◌, ◌^◌, List, [], ◌∷◌, ◌++◌, length, Option, None, Some, arith, append_assoc}
use Rattle.std.specs.Prelude.{bytes_eq}
use Rattle.std.proofs.lemmas.List.{append-nil}
use Rattle.schema_elements.specs.declared.elements.SchemaElement.{SchemaElement}
use Rattle.schema_elements.specs.SchemaTrees.{child_count}
use Rattle.schema_elements.specs.SchemaTrees.{own_leaf}
use Rattle.file_columns.specs.Forests.{Forest, no_trees, tree, front, back, forest, leaf_count}
use Rattle.file_columns.specs.Columns.{PlacedElement, children, named}

-- the trees after k trees and m more
back_none : (m : ℕ) → back m no_trees ≡ no_trees
back_none zero = refl
back_none (suc m) = refl

back_back : (m k : ℕ) (f : Forest) → back m (back k f) ≡ back (k + m) f
back_back m zero f = let e : 0 + m ≡ m = omega arith in rw e refl
back_back m (suc k) no_trees = let e : suc k + m ≡ suc (k + m) = omega arith in back_none m ∙ rw e refl
back_back m (suc k) (tree e inside next) = let e : suc k + m ≡ suc (k + m) = omega arith in rw e (back_back m k next)

count_none : (m : ℕ) → leaf_count (front m no_trees) ≡ 0
count_none zero = refl
count_none (suc m) = refl

count_front : (m k : ℕ) (f : Forest) → leaf_count (front (k + m) f) ≡ leaf_count (front k f) + leaf_count (front m (back k f))
count_front m zero f = let e : 0 + m ≡ m = omega arith in rw e (omega arith)
count_front m (suc k) no_trees = let e : suc k + m ≡ suc (k + m) = omega arith in rw (e, count_none m) refl
count_front m (suc k) (tree e inside next) =
    let more : suc k + m ≡ suc (k + m) = omega arith in rw more (omega (arith, count_front m k next))

-- one element more
back_step : (e : SchemaElement) (es : List SchemaElement) (left : ℕ) → 1 ≤ left → back left (forest (e ∷ es)) ≡ back (left - 1 + child_count e) (forest es)
back_step e es zero h = absurd (omega arith)
back_step e es (suc m) h =
    let to : child_count e + m ≡ suc m - 1 + child_count e = omega arith in
    back_back m (child_count e) (forest es) ∙ ap (λ n. back n (forest es)) to

count_step : (e : SchemaElement) (es : List SchemaElement) (left : ℕ) → 1 ≤ left → leaf_count (front left (forest (e ∷ es))) ≡ own_leaf e + leaf_count (front (left - 1 + child_count e) (forest es))
count_step e es zero h = absurd (omega arith)
count_step e es (suc m) h =
    let to : child_count e + m ≡ suc m - 1 + child_count e = omega arith in
    let is : leaf_count (front (child_count e + m) (forest es)) ≡ leaf_count (front (child_count e) (forest es)) + leaf_count (front m (back (child_count e) (forest es))) = count_front m (child_count e) (forest es) in
    omega (arith, is, ap (λ n. leaf_count (front n (forest es))) to)

-- where a walk over `count` trees stands: `left` trees are ahead in `rest`, and `leaves` leaves after it
pub record IsPassed (ahead rest : List SchemaElement) (count left leaves : ℕ) : Type 0 where
  pub trees : back left (forest rest) ≡ back count (forest ahead)
  pub counts : leaves + leaf_count (front left (forest rest)) ≡ leaf_count (front count (forest ahead))
  pub few : leaves + length rest ≤ length ahead
  pub most : left + 2147483648 * length rest ≤ 2147483648 + 2147483648 * length ahead

pub passed_start : (ahead : List SchemaElement) (count : ℕ) → count < 2 ^ 31 → IsPassed ahead ahead count count 0
passed_start ahead count h = record { trees = refl; counts = omega arith; few = omega arith; most = omega arith }

pub passed_more : (ahead rest : List SchemaElement) (count left leaves : ℕ) (e : SchemaElement) (es : List SchemaElement) (kids leaf : ℕ) → IsPassed ahead rest count left leaves → rest ≡ e ∷ es → (left ≡ 0 → ⊥) → leaf ≡ own_leaf e → leaf ≤ 1 → kids ≡ child_count e → kids < 2 ^ 31
    → IsPassed ahead es count (left - 1 + kids) (leaves + leaf)
passed_more ahead rest count left leaves e es kids leaf h is some own most inside few =
    let long : length rest ≡ suc (length es) = ap length is in
    let one : 1 ≤ left = omega (arith, some) in
    let less : left - 1 + kids + 1 ≡ left + kids = omega arith in
    record {
      trees = ap (λ n. back (left - 1 + n) (forest es)) inside ∙ sym (back_step e es left one) ∙ ap (λ r. back left (forest r)) (sym is) ∙ h.trees;
      counts = omega (arith, h.counts, count_step e es left one, ap (λ r. leaf_count (front left (forest r))) is, ap (λ n. leaf_count (front (left - 1 + n) (forest es))) inside);
      few = omega (arith, h.few);
      most = omega (arith, h.most);
    }

pub back_at : (ahead rest : List SchemaElement) (count left leaves : ℕ) → IsPassed ahead rest count left leaves → left ≡ 0 → forest rest ≡ back count (forest ahead)
back_at ahead rest count left leaves h none = ap (λ n. back n (forest rest)) (sym none) ∙ h.trees

pub leaves_at : (ahead rest : List SchemaElement) (count left leaves : ℕ) → IsPassed ahead rest count left leaves → left ≡ 0 → leaves ≡ leaf_count (front count (forest ahead))
leaves_at ahead rest count left leaves h none = omega (arith, h.counts, ap (λ n. leaf_count (front n (forest rest))) none)

pub back_end : (ahead rest : List SchemaElement) (count left leaves : ℕ) → IsPassed ahead rest count left leaves → rest ≡ [] → forest rest ≡ back count (forest ahead)
back_end ahead rest count left leaves h none = ap forest none ∙ sym (back_none left) ∙ ap (λ r. back left (forest r)) (sym none) ∙ h.trees

pub leaves_end : (ahead rest : List SchemaElement) (count left leaves : ℕ) → IsPassed ahead rest count left leaves → rest ≡ [] → leaves ≡ leaf_count (front count (forest ahead))
leaves_end ahead rest count left leaves h none = omega (arith, h.counts, count_none left, ap (λ r. leaf_count (front left (forest r))) none)

-- the children of a group, one by one: `left` are ahead in `rest`, and the next has place `at`
abbrev pub ahead_are : ℕ → ℕ → List SchemaElement → List PlacedElement
ahead_are at left rest = children at (front left (forest rest))

one_more : (left : ℕ) (at : ℕ) (e : SchemaElement) (es : List SchemaElement) → 1 ≤ left
    → ahead_are at left (e ∷ es) ≡ record { place = at; element = e; inside = front (child_count e) (forest es) } ∷ children (at + (own_leaf e + leaf_count (front (child_count e) (forest es)))) (front (left - 1) (back (child_count e) (forest es)))
one_more zero at e es h = absurd (omega arith)
one_more (suc m) at e es h = let to : suc m - 1 ≡ m = omega arith in rw to refl

-- the trees after one, and its leaves
pub past_one : (rest behind : List SchemaElement) (e : SchemaElement) (es : List SchemaElement) → rest ≡ e ∷ es → forest behind ≡ back 1 (forest rest) → forest behind ≡ back (child_count e) (forest es)
past_one rest behind e es is h = h ∙ ap (λ r. back 1 (forest r)) is

pub leaves_of_one : (rest : List SchemaElement) (leaves : ℕ) (e : SchemaElement) (es : List SchemaElement) → rest ≡ e ∷ es → leaves ≡ leaf_count (front 1 (forest rest)) → leaves ≡ own_leaf e + leaf_count (front (child_count e) (forest es))
leaves_of_one rest leaves e es is h = omega (arith, h, ap (λ r. leaf_count (front 1 (forest r))) is)

-- the elements listed, and those ahead
pub record IsListed (all : List PlacedElement) (done : List PlacedElement) (at left : ℕ) (rest : List SchemaElement) : Type 0 where
  pub joined : done ++ ahead_are at left rest ≡ all

pub listed_start : (ahead : List SchemaElement) (count place : ℕ) → IsListed (children place (front count (forest ahead))) [] place count ahead
listed_start ahead count place = record { joined = refl }

pub listed_turn : (all done new : List PlacedElement) (c : PlacedElement) (at left next leaves now : ℕ) (rest behind : List SchemaElement) (e : SchemaElement) (es : List SchemaElement)
    → IsListed all done at left rest → rest ≡ e ∷ es → 1 ≤ left → next ≡ left - 1 → forest behind ≡ back 1 (forest rest) → leaves ≡ leaf_count (front 1 (forest rest))
    → c ≡ record { place = at; element = e; inside = front (child_count e) (forest es) } → now ≡ at + leaves → new ≡ done ++ c ∷ []
    → IsListed all new now next behind
listed_turn all done new c at left next leaves now rest behind e es h is some less trees counts it there grown = record {
  joined =
      ap (λ (cs : List PlacedElement). cs ++ ahead_are now next behind) grown
      ∙ append_assoc done (c ∷ []) (ahead_are now next behind)
      ∙ ap (λ (cs : List PlacedElement). done ++ cs)
      (λ i. it i ∷ (ap (λ n. ahead_are n next behind) (there ∙ ap (λ n. at + n) (leaves_of_one rest leaves e es is counts))
      ∙ ap (λ f. children (at + (own_leaf e + leaf_count (front (child_count e) (forest es)))) (front next f)) (past_one rest behind e es is trees)
      ∙ ap (λ n. children (at + (own_leaf e + leaf_count (front (child_count e) (forest es)))) (front n (back (child_count e) (forest es)))) less) i)
      ∙ ap (λ (cs : List PlacedElement). done ++ cs) (sym (one_more left at e es some) ∙ ap (λ r. ahead_are at left r) (sym is))
      ∙ h.joined;
}

front_none : (n : ℕ) → front n no_trees ≡ no_trees
front_none zero = refl
front_none (suc n) = refl

pub listed_end : (all done : List PlacedElement) (at left : ℕ) (rest : List SchemaElement) → IsListed all done at left rest → rest ≡ [] → done ≡ all
listed_end all done at left rest h none =
    sym (append-nil done) ∙ ap (λ (cs : List PlacedElement). done ++ cs) (sym (ap (λ r. ahead_are at left r) none ∙ ap (children at) (front_none left))) ∙ h.joined

pub listed_done : (all done : List PlacedElement) (at left : ℕ) (rest : List SchemaElement) → IsListed all done at left rest → left ≡ 0 → done ≡ all
listed_done all done at left rest h none =
    sym (append-nil done) ∙ ap (λ (cs : List PlacedElement). done ++ cs) (sym (ap (λ n. ahead_are at n rest) none)) ∙ h.joined

-- the first of a name is the first of those ahead
pub record IsSought (name : List ℕ) (found : Option PlacedElement) (at left : ℕ) (rest : List SchemaElement) : Type 0 where
  pub same : named name (ahead_are at left rest) ≡ found

pub sought_start : (name : List ℕ) (ahead : List SchemaElement) (count place : ℕ) → IsSought name (named name (children place (front count (forest ahead)))) place count ahead
sought_start name ahead count place = record { same = refl }

sought_step : (name : List ℕ) (at left : ℕ) (rest : List SchemaElement) (e : SchemaElement) (es : List SchemaElement) → rest ≡ e ∷ es → 1 ≤ left
    → named name (ahead_are at left rest) ≡ cond (bytes_eq e.name name) (Some (record { place = at; element = e; inside = front (child_count e) (forest es) })) (named name (children (at + (own_leaf e + leaf_count (front (child_count e) (forest es)))) (front (left - 1) (back (child_count e) (forest es)))))
sought_step name at left rest e es is some = ap (λ r. named name (ahead_are at left r)) is ∙ ap (named name) (one_more left at e es some)

pub sought_found : (name : List ℕ) (found : Option PlacedElement) (at left : ℕ) (rest : List SchemaElement) (e : SchemaElement) (es : List SchemaElement) → IsSought name found at left rest → rest ≡ e ∷ es → 1 ≤ left → bytes_eq e.name name ≡ true
    → found ≡ Some (record { place = at; element = e; inside = front (child_count e) (forest es) })
sought_found name found at left rest e es h is some same = sym h.same ∙ sought_step name at left rest e es is some ∙ rw same refl

pub sought_turn : (name : List ℕ) (found : Option PlacedElement) (at left next leaves now : ℕ) (rest behind : List SchemaElement) (e : SchemaElement) (es : List SchemaElement)
    → IsSought name found at left rest → rest ≡ e ∷ es → 1 ≤ left → next ≡ left - 1 → bytes_eq e.name name ≡ false → forest behind ≡ back 1 (forest rest) → leaves ≡ leaf_count (front 1 (forest rest)) → now ≡ at + leaves
    → IsSought name found now next behind
sought_turn name found at left next leaves now rest behind e es h is some less other trees counts there = record {
  same =
      ap (λ n. named name (ahead_are n next behind)) (there ∙ ap (λ n. at + n) (leaves_of_one rest leaves e es is counts))
      ∙ ap (λ f. named name (children (at + (own_leaf e + leaf_count (front (child_count e) (forest es)))) (front next f))) (past_one rest behind e es is trees)
      ∙ ap (λ n. named name (children (at + (own_leaf e + leaf_count (front (child_count e) (forest es)))) (front n (back (child_count e) (forest es))))) less
      ∙ sym (sought_step name at left rest e es is some ∙ rw other refl)
      ∙ h.same;
}

pub sought_end : (name : List ℕ) (found : Option PlacedElement) (at left : ℕ) (rest : List SchemaElement) → IsSought name found at left rest → rest ≡ [] → found ≡ None
sought_end name found at left rest h none = sym h.same ∙ ap (λ r. named name (ahead_are at left r)) none ∙ ap (λ f. named name (children at f)) (front_none left)

pub sought_done : (name : List ℕ) (found : Option PlacedElement) (at left : ℕ) (rest : List SchemaElement) → IsSought name found at left rest → left ≡ 0 → found ≡ None
sought_done name found at left rest h none = sym h.same ∙ ap (λ n. named name (ahead_are at n rest)) none
