-- Items between commas: what is read is spelled, and what is spelled is read.
use Rattle.std.proofs.Common.{◌≡◌, refl, sym, ap, ◌∙◌, ℕ, suc, zero, ◌==◌, Bool, List, ◌∷◌, ◌++◌, false, Some, None, length}
use Rattle.byte_parsing.specs.Lists.{item_at, more_at, some_at, all_at}
use Rattle.byte_parsing.specs.Parse.{Parse, front, back, Passes, Stops, past}
use Rattle.byte_parsing.proofs.Holds.{Holds, holds_none, holds_then, holds_map, holds_past, holds_list_end}
use Rattle.byte_parsing.proofs.Runs.{front_run, back_run, split_run, front_passes}

-- what is read was spelled, and is good where it stands
abbrev pub IsRead : {A : Type 0} → (A → List ℕ → List ℕ) → (A → List ℕ → Type 0) → Parse A → Type 0
IsRead spell Good parse = (xs : List ℕ) → Holds (λ read. (xs ≡ spell read.0 read.1) × Good read.0 read.1) (parse xs)

gap_split : (blank : ℕ → Bool) (xs ys : List ℕ) → back blank xs ≡ ys → xs ≡ front blank xs ++ ys
gap_split blank xs ys e = split_run blank xs ∙ ap (λ zs. front blank xs ++ zs) e

module _ {V M E : Type 0} (blank : ℕ → Bool)
    (spell : V → List ℕ → List ℕ) (Good : V → List ℕ → Type 0)
    (spell_more : M → List ℕ → List ℕ) (GoodMore : M → List ℕ → Type 0)
    (spell_all : E → List ℕ → List ℕ) (GoodAll : E → List ℕ → Type 0)
    (close : ℕ) (first : V → List ℕ → M → E) (end : M) (next : List ℕ → V → List ℕ → M → M) where
  -- how the constructors are spelled, and when they are good
  pub record Laws : Type 0 where
    pub first_spelled : (a : V) (gap : List ℕ) (m : M) (after : List ℕ) → spell_all (first a gap m) after ≡ spell a (gap ++ spell_more m after)
    pub end_spelled : (after : List ℕ) → spell_more end after ≡ close ∷ after
    pub next_spelled : (before : List ℕ) (a : V) (gap : List ℕ) (m : M) (after : List ℕ) → spell_more (next before a gap m) after ≡ 44 ∷ (before ++ spell a (gap ++ spell_more m after))
    pub first_good : (a : V) (gap : List ℕ) (m : M) (after : List ℕ) → Good a (gap ++ spell_more m after) → Passes blank gap → GoodMore m after → GoodAll (first a gap m) after
    pub end_good : (after : List ℕ) → GoodMore end after
    pub next_good : (before : List ℕ) (a : V) (gap : List ℕ) (m : M) (after : List ℕ) → Passes blank before → Good a (gap ++ spell_more m after) → Passes blank gap → GoodMore m after → GoodMore (next before a gap m) after

  -- an item, a gap, and the items after it
  record IsItem (xs : List ℕ) (i : V × List ℕ × M × List ℕ) : Type 0 where
    bytes : xs ≡ spell i.0 (i.1 ++ spell_more i.2 i.3)
    good : Good i.0 (i.1 ++ spell_more i.2 i.3)
    gap : Passes blank i.1
    more : GoodMore i.2 i.3

  item_sound : (item : Parse V) (more : Parse M) → IsRead spell Good item → IsRead spell_more GoodMore more → (xs : List ℕ) → Holds (IsItem xs) (item_at blank item more xs)
  item_sound item more h k xs =
      holds_then _ _ _ _ (h xs) (λ a p.
      holds_map _ _ _ _ (k (back blank a.1)) (λ m q.
      let split : a.1 ≡ front blank a.1 ++ spell_more m.0 m.1 = gap_split blank a.1 _ q.0 in
      record {
        bytes = p.0 ∙ ap (λ ys. spell a.0 ys) split;
        good = rw split at p.1;
        gap = front_passes blank a.1;
        more = q.1;
      }))

  more_sound : Laws → (item : Parse V) → IsRead spell Good item → (count : ℕ) → IsRead spell_more GoodMore (λ xs. more_at blank close end next item count xs)
  more_sound l item h zero xs = holds_none _
  more_sound l item h (suc count) xs =
      holds_list_end _ _ _ _ _ (holds_past close xs) (λ rest e. (e ∙ sym (l.end_spelled rest), l.end_good rest))
      (holds_then _ _ _ _ (holds_past 44 xs) (λ ys e.
      holds_map _ _ _ _ (item_sound item (λ zs. more_at blank close end next item count zs) h (more_sound l item h count) (back blank ys)) (λ i p. (
        e ∙ ap (λ zs. 44 ∷ zs) (gap_split blank ys _ p.bytes) ∙ sym (l.next_spelled (front blank ys) i.0 i.1 i.2 i.3),
        l.next_good (front blank ys) i.0 i.1 i.2 i.3 (front_passes blank ys) p.good p.gap p.more,
      ))))

  pub some_sound : Laws → (item : Parse V) → IsRead spell Good item → IsRead spell_all GoodAll (λ xs. some_at blank close first end next item xs)
  some_sound l item h xs =
      holds_map _ _ _ _ (item_sound item (λ ys. more_at blank close end next item (length ys) ys) h (λ ys. more_sound l item h (length ys) ys) xs) (λ i p.
      (p.bytes ∙ sym (l.first_spelled i.0 i.1 i.2 i.3), l.first_good i.0 i.1 i.2 i.3 p.good p.gap p.more))

  pub all_sound : Laws → (none : E) → ((after : List ℕ) → spell_all none after ≡ close ∷ after) → ((after : List ℕ) → GoodAll none after) → (item : Parse V) → IsRead spell Good item → IsRead spell_all GoodAll (λ xs. all_at blank close none first end next item xs)
  all_sound l none none_spelled none_good item h xs =
      holds_list_end _ _ _ _ _ (holds_past close xs) (λ rest e. (e ∙ sym (none_spelled rest), none_good rest)) (some_sound l item h xs)

-- What is spelled is read.

pub item_complete : {V M : Type 0} (blank : ℕ → Bool) (item : Parse V) (more : Parse M) (xs : List ℕ) (a : V) (gap ys : List ℕ) (m : M) (after : List ℕ) → item xs ≡ Some (a, gap ++ ys) → Passes blank gap → Stops blank ys → more ys ≡ Some (m, after) → item_at blank item more xs ≡ Some (a, gap, m, after)
item_complete blank item more xs a gap ys m after e h s f = rw (e, front_run blank gap ys h s, back_run blank gap ys h s, f) refl

pub some_complete : {V M E : Type 0} (blank : ℕ → Bool) (close : ℕ) (first : V → List ℕ → M → E) (end : M) (next : List ℕ → V → List ℕ → M → M) (item : Parse V) (xs : List ℕ) (a : V) (gap ys : List ℕ) (m : M) (after : List ℕ) → item xs ≡ Some (a, gap ++ ys) → Passes blank gap → Stops blank ys → more_at blank close end next item (length ys) ys ≡ Some (m, after) → some_at blank close first end next item xs ≡ Some (first a gap m, after)
some_complete blank close first end next item xs a gap ys m after e h s f =
    rw (item_complete blank item (λ zs. more_at blank close end next item (length zs) zs) xs a gap ys m after e h s f) refl

pub all_complete : {V M E : Type 0} (blank : ℕ → Bool) (close : ℕ) (none : E) (first : V → List ℕ → M → E) (end : M) (next : List ℕ → V → List ℕ → M → M) (item : Parse V) (xs : List ℕ) (a : V) (gap ys : List ℕ) (m : M) (after : List ℕ) → past close xs ≡ None → item xs ≡ Some (a, gap ++ ys) → Passes blank gap → Stops blank ys → more_at blank close end next item (length ys) ys ≡ Some (m, after) → all_at blank close none first end next item xs ≡ Some (first a gap m, after)
all_complete blank close none first end next item xs a gap ys m after c e h s f =
    rw (c, some_complete blank close first end next item xs a gap ys m after e h s f) refl

pub more_complete : {V M : Type 0} (blank : ℕ → Bool) (close : ℕ) (end : M) (next : List ℕ → V → List ℕ → M → M) (item : Parse V) (count less : ℕ) (before xs : List ℕ) (a : V) (gap ys : List ℕ) (m : M) (after : List ℕ) → count ≡ suc less → (44 == close) ≡ false → Passes blank before → Stops blank xs → item xs ≡ Some (a, gap ++ ys) → Passes blank gap → Stops blank ys → more_at blank close end next item less ys ≡ Some (m, after) → more_at blank close end next item count (44 ∷ (before ++ xs)) ≡ Some (next before a gap m, after)
more_complete blank close end next item count less before xs a gap ys m after n c b t e h s f =
    rw (n, c, front_run blank before xs b t, back_run blank before xs b t, item_complete blank item (λ zs. more_at blank close end next item less zs) xs a gap ys m after e h s f) refl
