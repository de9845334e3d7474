-- Names that strictly rise: each list of names has one of the same elements, and no other.
use Rattle.std.proofs.Common.{◌≡◌, ◌∙◌, ◌⊎◌, inl, inr, refl, sym, subst, ℕ, Bool, true, false, cond, ◌&&◌, List, [], ◌∷◌, bytes_eq}
use Rattle.std.proofs.lemmas.Slice.Eq.{bytes_eq-Decides}
use Rattle.variant_meta.specs.Names.{is_before, names_rise, rise_after}
use Rattle.variant_meta.proofs.Places.{before_apart, before_trans, neither_before}
use Rattle.variant_write.specs.Dictionaries.{added, each_once}
use Rattle.variant_write.proofs.NamesAmong.{Among}

both : (b c : Bool) → (b && c) ≡ true → (b ≡ true) × (c ≡ true)
both true c h = (refl, h)
both false c h = cc

-- ---- the order

not_itself : (a : List ℕ) → is_before a a ≡ true → ⊥
not_itself a h =
    let apart : bytes_eq a a ≡ false = before_apart a a h in
    let same : bytes_eq a a ≡ true = (bytes_eq-Decides a a).1 refl in
    cc

not_both : (a b : List ℕ) → is_before a b ≡ true → is_before b a ≡ true → ⊥
not_both a b h g = not_itself a (before_trans a b a h g)

-- where neither comes before the other they are equal
tied : (a b : List ℕ) → is_before a b ≡ false → is_before b a ≡ false → a ≡ b
tied a b h g = by (bytes_eq a b) refl
  where
    by : (e : Bool) → bytes_eq a b ≡ e → a ≡ b
    by true e = (bytes_eq-Decides a b).0 e
    by false e = absurd (let less : is_before b a ≡ true = neither_before a b h e in cc)

-- ---- names that rise

head_rises : (first other : List ℕ) (names : List (List ℕ)) → rise_after first (other ∷ names) ≡ true → is_before first other ≡ true
head_rises first other names h = (both (is_before first other) (rise_after other names) h).0

tail_rises : (first other : List ℕ) (names : List (List ℕ)) → rise_after first (other ∷ names) ≡ true → rise_after other names ≡ true
tail_rises first other names h = (both (is_before first other) (rise_after other names) h).1

rises_from : (first : List ℕ) (names : List (List ℕ)) → rise_after first names ≡ true → names_rise names ≡ true
rises_from first [] h = refl
rises_from first (other ∷ names) h = tail_rises first other names h

pub all_before : (first : List ℕ) (names : List (List ℕ)) (x : List ℕ) → rise_after first names ≡ true → Among x names → is_before first x ≡ true
all_before first [] x h a = absurd a
all_before first (other ∷ names) x h (inl e) = subst (λ (y : List ℕ). is_before first y ≡ true) (sym e) (head_rises first other names h)
all_before first (other ∷ names) x h (inr a) = before_trans first other x (head_rises first other names h) (all_before other names x (tail_rises first other names h) a)

first_same : (x : List ℕ) (xs : List (List ℕ)) (y : List ℕ) (ys : List (List ℕ)) → rise_after x xs ≡ true → rise_after y ys ≡ true → Among x (y ∷ ys) → Among y (x ∷ xs) → x ≡ y
first_same x xs y ys g h (inl e) b = e
first_same x xs y ys g h (inr a) (inl e) = sym e
first_same x xs y ys g h (inr a) (inr b) = absurd (not_both x y (all_before x xs y g b) (all_before y ys x h a))

rest_among : (x : List ℕ) (xs : List (List ℕ)) (y : List ℕ) (ys : List (List ℕ)) (z : List ℕ) → rise_after x xs ≡ true → x ≡ y → Among z xs → Among z (y ∷ ys) → Among z ys
rest_among x xs y ys z g same a (inl e) = absurd (not_itself z (subst (λ (w : List ℕ). is_before w z ≡ true) (same ∙ sym e) (all_before x xs z g a)))
rest_among x xs y ys z g same a (inr b) = b

-- at most one list of given names rises
pub one_rises : (xs ys : List (List ℕ)) → names_rise xs ≡ true → names_rise ys ≡ true → ((z : List ℕ) → Among z xs → Among z ys) → ((z : List ℕ) → Among z ys → Among z xs) → xs ≡ ys
one_rises [] [] g h to from = refl
one_rises [] (y ∷ ys) g h to from = absurd (from y (inl refl))
one_rises (x ∷ xs) [] g h to from = absurd (to x (inl refl))
one_rises (x ∷ xs) (y ∷ ys) g h to from =
    let same : x ≡ y = first_same x xs y ys g h (to x (inl refl)) (from y (inl refl)) in
    let rest : xs ≡ ys = one_rises xs ys (rises_from x xs g) (rises_from y ys h)
    (λ z a. rest_among x xs y ys z g same a (to z (inr a)))
    (λ z a. rest_among y ys x xs z h (sym same) a (from z (inr a))) in
    λ i. same i ∷ rest i

-- ---- each name once

added_rises_after : (first name : List ℕ) (names : List (List ℕ)) → is_before first name ≡ true → rise_after first names ≡ true → rise_after first (added name names) ≡ true
added_rises_after first name [] less h = rw less refl
added_rises_after first name (other ∷ names) less h = by (is_before name other) refl (is_before other name) refl (λ e. added_rises_after other name names e (tail_rises first other names h))
  where
    by : (b : Bool) → is_before name other ≡ b → (c : Bool) → is_before other name ≡ c → (is_before other name ≡ true → rise_after other (added name names) ≡ true) → rise_after first (cond b (name ∷ (other ∷ names)) (cond c (other ∷ added name names) (other ∷ names))) ≡ true
    by true e c f more = rw (less, e) (tail_rises first other names h)
    by false e true f more = rw (head_rises first other names h) (more f)
    by false e false f more = h

added_rises : (name : List ℕ) (names : List (List ℕ)) → names_rise names ≡ true → names_rise (added name names) ≡ true
added_rises name [] h = refl
added_rises name (other ∷ names) h = by (is_before name other) refl (is_before other name) refl
  where
    by : (b : Bool) → is_before name other ≡ b → (c : Bool) → is_before other name ≡ c → names_rise (cond b (name ∷ (other ∷ names)) (cond c (other ∷ added name names) (other ∷ names))) ≡ true
    by true e c f = rw e h
    by false e true f = added_rises_after other name names f h
    by false e false f = h

added_new : (name : List ℕ) (names : List (List ℕ)) → Among name (added name names)
added_new name [] = inl refl
added_new name (other ∷ names) = by (is_before name other) refl (is_before other name) refl (added_new name names)
  where
    by : (b : Bool) → is_before name other ≡ b → (c : Bool) → is_before other name ≡ c → Among name (added name names) → Among name (cond b (name ∷ (other ∷ names)) (cond c (other ∷ added name names) (other ∷ names)))
    by true e c f a = inl refl
    by false e true f a = inr a
    by false e false f a = inl (tied name other e f)

added_keeps : (name : List ℕ) (names : List (List ℕ)) (x : List ℕ) → Among x names → Among x (added name names)
added_keeps name [] x a = absurd a
added_keeps name (other ∷ names) x a = by (is_before name other) (is_before other name) a (added_keeps name names x)
  where
    by : (b c : Bool) → Among x (other ∷ names) → (Among x names → Among x (added name names)) → Among x (cond b (name ∷ (other ∷ names)) (cond c (other ∷ added name names) (other ∷ names)))
    by true c a more = inr a
    by false true (inl e) more = inl e
    by false true (inr a) more = inr (more a)
    by false false a more = a

added_only : (name : List ℕ) (names : List (List ℕ)) (x : List ℕ) → Among x (added name names) → (x ≡ name) ⊎ Among x names
added_only name [] x (inl e) = inl e
added_only name [] x (inr a) = absurd a
added_only name (other ∷ names) x a = by (is_before name other) (is_before other name) a (added_only name names x)
  where
    past : (x ≡ name) ⊎ Among x names → (x ≡ name) ⊎ Among x (other ∷ names)
    past (inl e) = inl e
    past (inr a) = inr (inr a)

    by : (b c : Bool) → Among x (cond b (name ∷ (other ∷ names)) (cond c (other ∷ added name names) (other ∷ names))) → (Among x (added name names) → (x ≡ name) ⊎ Among x names) → (x ≡ name) ⊎ Among x (other ∷ names)
    by true c (inl e) more = inl e
    by true c (inr a) more = inr a
    by false true (inl e) more = inr (inl e)
    by false true (inr a) more = past (more a)
    by false false a more = inr a

pub once_rises : (names : List (List ℕ)) → names_rise (each_once names) ≡ true
once_rises [] = refl
once_rises (name ∷ names) = added_rises name (each_once names) (once_rises names)

pub once_keeps : (names : List (List ℕ)) (x : List ℕ) → Among x names → Among x (each_once names)
once_keeps [] x a = absurd a
once_keeps (name ∷ names) x (inl e) = subst (λ (y : List ℕ). Among y (added name (each_once names))) (sym e) (added_new name (each_once names))
once_keeps (name ∷ names) x (inr a) = added_keeps name (each_once names) x (once_keeps names x a)

pub once_only : (names : List (List ℕ)) (x : List ℕ) → Among x (each_once names) → Among x names
once_only [] x a = absurd a
once_only (name ∷ names) x a = by (added_only name (each_once names) x a) (once_only names x)
  where
    by : (x ≡ name) ⊎ Among x (each_once names) → (Among x (each_once names) → Among x names) → Among x (name ∷ names)
    by (inl e) more = inl e
    by (inr b) more = inr (more b)

-- the names of a list in their order, each once, are the one list that rises and has its elements
pub once_is : (names xs : List (List ℕ)) → names_rise xs ≡ true → ((z : List ℕ) → Among z xs → Among z names) → ((z : List ℕ) → Among z names → Among z xs) → xs ≡ each_once names
once_is names xs h to from = one_rises xs (each_once names) h (once_rises names) (λ z a. once_keeps names z (to z a)) (λ z a. from z (once_only names z a))
