-- The fields that are read, one after the other: the fields between two of them are passed over.
use Rattle.std.proofs.Common.{◌≡◌, ◌∙◌, sym, ap, subst, refl, ℕ, zero, suc, ◌+◌, ◌<◌, ◌≤◌, Bool, true, false, List, [], ◌∷◌, drop, get_or, length, map, add-zero, arith}
use Rattle.std.proofs.lemmas.List.{drop_more, drop_all, drop-drop, get_or-drop, length-drop}
use Rattle.shred_schema.specs.Groups.{Group, Groups, no_groups, field, width, groups_from}
use Rattle.shred_schema.specs.Ranges.{is_any_read}
use Rattle.shred_schema.specs.Recs.{Rec, Recs, no_recs, recs, recs_from}
use Rattle.shred_schema.specs.Views.{group_of, rec_of, named}
use Rattle.shred_schema.specs.declared.nodes.Node.{Node}
use Rattle.shred_schema.specs.declared.records.Record.{Record}
use Rattle.unshredder.specs.Readings.{IsReading, AreReadings, Begins, IsFieldReading}
use Rattle.unshredder.specs.declared.readings.Reading.{Reading, out-Reading}

-- What a walk knows of the fields that are left and of their records, `Left`: each of them has a record, and it still
-- holds after a field of which no leaf is read.
pub record Passes (mask : ℕ → Bool) (Left : ℕ → Groups → Recs → Type 0) : Type 0 where
  pub many : (k : ℕ) (name : List ℕ) (n : Group) (gs : Groups) → Left k (field name n gs) no_recs → ⊥
  pub over : (k : ℕ) (name : List ℕ) (n : Group) (gs : Groups) (x : Rec) (xs : Recs) → is_any_read mask k (width n) ≡ false → Left k (field name n gs) (recs x xs) → Left (k + width n) gs xs

-- the readings that are left are of the fields from the one at `place` on, of which `Left` is known
pub record AreAhead (mask : ℕ → Bool) (Left : ℕ → Groups → Recs → Type 0) (fs : List (List ℕ × Node)) (xs : List Record) (rs : List Reading) : Type 0 where
  pub place : ℕ
  pub first : ℕ
  pub left : Left first (groups_from (map named (drop place fs))) (recs_from (map rec_of (drop place xs)))
  pub readings : AreReadings mask (groups_from (map named (drop place fs))) place first rs

-- the next field that is read is at `i`, and its leaves begin at `first`; `later` are the readings after its own
pub record IsNext (mask : ℕ → Bool) (Left : ℕ → Groups → Recs → Type 0) (fs : List (List ℕ × Node)) (xs : List Record) (r : Reading) (later : List Reading) (i : ℕ) : Type 0 where
  pub first : ℕ
  pub is_field : i < length fs
  pub is_record : i < length xs
  pub here : (f : List ℕ × Node) → IsReading mask (group_of (get_or fs i f).1) first r
  pub left : (f g : List ℕ × Node) (x : Record) → x ≡ get_or xs i x → Left first (field (get_or fs i f).0 (group_of (get_or fs i g).1) (groups_from (map named (drop (i + 1) fs)))) (recs (rec_of x) (recs_from (map rec_of (drop (i + 1) xs))))
  pub more : (f : List ℕ × Node) → AreReadings mask (groups_from (map named (drop (i + 1) fs))) (i + 1) (first + width (group_of (get_or fs i f).1)) later

-- the first reading that is left is that of the next field; without a reading no field is left
abbrev Found : (ℕ → Bool) → (ℕ → Groups → Recs → Type 0) → List (List ℕ × Node) → List Record → List Reading → Type 0
Found mask Left fs xs [] = (k : ℕ) × ((later : Recs) × Left k no_groups later)
Found mask Left fs xs (r ∷ rs) = IsNext mask Left fs xs r rs (out-Reading r).place

-- what stands at an index

at_is : {A : Type 0} → (l : List A) (i : ℕ) (x : A) (rest : List A) (d : A) → drop i l ≡ x ∷ rest → get_or l i d ≡ x
at_is l i x rest d e = sym (get_or-drop i l 0 d ∙ ap (λ j. get_or l j d) (add-zero i)) ∙ ap (λ (all : List _). get_or all 0 d) e

after_is : {A : Type 0} → (l : List A) (i : ℕ) (x : A) (rest : List A) → drop i l ≡ x ∷ rest → drop (i + 1) l ≡ rest
after_is l i x rest e = sym (drop-drop 1 i l) ∙ ap (λ (all : List _). drop 1 all) e

is_at : {A : Type 0} → (l : List A) (i : ℕ) (x : A) (rest : List A) → drop i l ≡ x ∷ rest → i < length l
is_at l i x rest e = omega (arith, length-drop i l, ap (λ (all : List _). length all) e)

none_left : (mask : ℕ → Bool) (Left : ℕ → Groups → Recs → Type 0) (fs : List (List ℕ × Node)) (xs : List Record) (later : Recs) (i k : ℕ) (rs : List Reading)
    → Left k no_groups later → AreReadings mask no_groups i k rs → Found mask Left fs xs rs
none_left mask Left fs xs later i k [] left h = (k, (later, left))
none_left mask Left fs xs later i k (r ∷ rs) left h = absurd h

is_next : (mask : ℕ → Bool) (Left : ℕ → Groups → Recs → Type 0) (fs gs : List (List ℕ × Node)) (xs ys : List Record) (f : List ℕ × Node) (x : Record) (i k : ℕ) (rs : List Reading)
    → drop i fs ≡ f ∷ gs → drop i xs ≡ x ∷ ys → Left k (field f.0 (group_of f.1) (groups_from (map named gs))) (recs (rec_of x) (recs_from (map rec_of ys)))
    → Begins true (IsFieldReading mask (group_of f.1) i k) (λ more. AreReadings mask (groups_from (map named gs)) (i + 1) (k + width (group_of f.1)) more) rs → Found mask Left fs xs rs
is_next mask Left fs gs xs ys f x i k [] d e left h = absurd h
is_next mask Left fs gs xs ys f x i k (r ∷ rs) d e left h =
    let here : IsNext mask Left fs xs r rs i = record {
      first = k;
      is_field = is_at fs i f gs d;
      is_record = is_at xs i x ys e;
      here = λ o. rw (at_is fs i f gs o d) h.0.1;
      left = λ o p y is. let same : y ≡ x = is ∙ at_is xs i x ys y e in rw (at_is fs i f gs o d, at_is fs i f gs p d, after_is fs i f gs d, after_is xs i x ys e, same) left;
      more = λ o. rw (at_is fs i f gs o d, after_is fs i f gs d) h.1;
    } in
    subst (λ (j : ℕ). IsNext mask Left fs xs r rs j) (sym h.0.0) here

abbrev FoundFrom : (ℕ → Bool) → (ℕ → Groups → Recs → Type 0) → List (List ℕ × Node) → List Record → List Reading → ℕ → ℕ → Type 0
FoundFrom mask Left fs xs rs i k = Left k (groups_from (map named (drop i fs))) (recs_from (map rec_of (drop i xs))) → AreReadings mask (groups_from (map named (drop i fs))) i k rs → Found mask Left fs xs rs

-- fields that aren't read are passed over, `turns` of them at most
found_from : (turns : ℕ) (mask : ℕ → Bool) (Left : ℕ → Groups → Recs → Type 0) (fs : List (List ℕ × Node)) (xs : List Record) (rs : List Reading) → Passes mask Left → (i k : ℕ) → length fs ≤ i + turns
    → FoundFrom mask Left fs xs rs i k
found_from zero mask Left fs xs rs passes i k h left are =
    let past : drop i fs ≡ [] = drop_all i fs (omega (arith, h)) in
    none_left mask Left fs xs (recs_from (map rec_of (drop i xs))) i k rs
    (subst (λ (gs : List (List ℕ × Node)). Left k (groups_from (map named gs)) (recs_from (map rec_of (drop i xs)))) past left) (subst (λ (gs : List (List ℕ × Node)). AreReadings mask (groups_from (map named gs)) i k rs) past are)
found_from (suc turns) mask Left fs xs rs passes i k h left are = by (drop i fs) (drop i xs) refl refl left are (λ next. found_from turns mask Left fs xs rs passes (i + 1) next (omega (arith, h)))
  where
    read : (there : Bool) (f : List ℕ × Node) (gs : List (List ℕ × Node)) (x : Record) (ys : List Record) → drop i fs ≡ f ∷ gs → drop i xs ≡ x ∷ ys → is_any_read mask k (width (group_of f.1)) ≡ there
        → Left k (field f.0 (group_of f.1) (groups_from (map named gs))) (recs (rec_of x) (recs_from (map rec_of ys)))
        → Begins there (IsFieldReading mask (group_of f.1) i k) (λ more. AreReadings mask (groups_from (map named gs)) (i + 1) (k + width (group_of f.1)) more) rs → ((next : ℕ) → FoundFrom mask Left fs xs rs (i + 1) next) → Found mask Left fs xs rs
    read true f gs x ys d e is left are on = is_next mask Left fs gs xs ys f x i k rs d e left are
    read false f gs x ys d e is left are on = on (k + width (group_of f.1))
        (rw (after_is fs i f gs d, after_is xs i x ys e) (passes.over k f.0 (group_of f.1) (groups_from (map named gs)) (rec_of x) (recs_from (map rec_of ys)) is left))
        (rw (after_is fs i f gs d) are)

    by : (gs : List (List ℕ × Node)) (ys : List Record) → drop i fs ≡ gs → drop i xs ≡ ys → Left k (groups_from (map named gs)) (recs_from (map rec_of ys)) → AreReadings mask (groups_from (map named gs)) i k rs → ((next : ℕ) → FoundFrom mask Left fs xs rs (i + 1) next) → Found mask Left fs xs rs
    by [] ys d e left are on = none_left mask Left fs xs (recs_from (map rec_of ys)) i k rs left are
    by (f ∷ gs) [] d e left are on = absurd (passes.many k f.0 (group_of f.1) (groups_from (map named gs)) left)
    by (f ∷ gs) (x ∷ ys) d e left are on = read (is_any_read mask k (width (group_of f.1))) f gs x ys d e refl left are on

-- the next field that is read is that of the first reading that is left
pub next_read : (mask : ℕ → Bool) (Left : ℕ → Groups → Recs → Type 0) (fs : List (List ℕ × Node)) (xs : List Record) (rs : List Reading) (j : ℕ) (r : Reading)
    → Passes mask Left → AreAhead mask Left fs xs (drop j rs) → j < length rs → r ≡ get_or rs j r → IsNext mask Left fs xs r (drop (j + 1) rs) (out-Reading r).place
next_read mask Left fs xs rs j r passes ahead h e =
    let here : drop j rs ≡ r ∷ drop (j + 1) rs = drop_more rs j r h ∙ ap (λ (s : Reading). s ∷ drop (j + 1) rs) (sym e) in
    subst (λ (all : List Reading). Found mask Left fs xs all) here (found_from (length fs) mask Left fs xs (drop j rs) passes ahead.place ahead.first (omega arith) ahead.left ahead.readings)

-- after the last reading no field is left that is read
pub all_read : (mask : ℕ → Bool) (Left : ℕ → Groups → Recs → Type 0) (fs : List (List ℕ × Node)) (xs : List Record) (rs : List Reading) (j : ℕ)
    → Passes mask Left → AreAhead mask Left fs xs (drop j rs) → length rs ≤ j → (k : ℕ) × ((later : Recs) × Left k no_groups later)
all_read mask Left fs xs rs j passes ahead h =
    subst (λ (all : List Reading). Found mask Left fs xs all) (drop_all j rs h) (found_from (length fs) mask Left fs xs (drop j rs) passes ahead.place ahead.first (omega arith) ahead.left ahead.readings)

-- the same of a field that stands at `i`
pub record IsNextField (mask : ℕ → Bool) (Left : ℕ → Groups → Recs → Type 0) (fs : List (List ℕ × Node)) (xs : List Record) (r : Reading) (later : List Reading) (i : ℕ) (f : List ℕ × Node) : Type 0 where
  pub first : ℕ
  pub here : IsReading mask (group_of f.1) first r
  pub left : (x : Record) → x ≡ get_or xs i x → Left first (field f.0 (group_of f.1) (groups_from (map named (drop (i + 1) fs)))) (recs (rec_of x) (recs_from (map rec_of (drop (i + 1) xs))))
  pub more : AreReadings mask (groups_from (map named (drop (i + 1) fs))) (i + 1) (first + width (group_of f.1)) later

pub next_field : (mask : ℕ → Bool) (Left : ℕ → Groups → Recs → Type 0) (fs : List (List ℕ × Node)) (xs : List Record) (r : Reading) (later : List Reading) (i : ℕ) (f : List ℕ × Node)
    → IsNext mask Left fs xs r later i → f ≡ get_or fs i f → IsNextField mask Left fs xs r later i f
next_field mask Left fs xs r later i f next e = record {
  first = next.first;
  here = subst (λ (g : List ℕ × Node). IsReading mask (group_of g.1) next.first r) (sym e) (next.here f);
  left = λ x is. subst (λ (g : List ℕ × Node). Left next.first (field g.0 (group_of g.1) (groups_from (map named (drop (i + 1) fs)))) (recs (rec_of x) (recs_from (map rec_of (drop (i + 1) xs))))) (sym e) (next.left f f x is);
  more = subst (λ (g : List ℕ × Node). AreReadings mask (groups_from (map named (drop (i + 1) fs))) (i + 1) (next.first + width (group_of g.1)) later) (sym e) (next.more f);
}
