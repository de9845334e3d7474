-- Elements of a list of names, by recursion.
use Rattle.std.proofs.Common.{◌≡◌, ◌⊎◌, inl, inr, refl, sym, ℕ, zero, suc, ◌<◌, Bool, true, false, cond, List, [], ◌∷◌, ◌++◌, length, get_or, Contains, bytes_eq, arith}
use Rattle.std.proofs.lemmas.Slice.Eq.{bytes_eq-Decides}
use Rattle.variant_meta.specs.Names.{place_of}
use Rattle.variant_write.specs.Conditions.{HasName}

abbrev pub Among : List ℕ → List (List ℕ) → Type 0
Among x [] = ⊥
Among x (y ∷ ys) = (x ≡ y) ⊎ Among x ys

pub among_from_contains : (xs : List (List ℕ)) (x : List ℕ) → Contains xs x → Among x xs
among_from_contains xs x at = by xs at.0 at.1 at.2
  where
    by : (ys : List (List ℕ)) (k : ℕ) → k < length ys → get_or ys k x ≡ x → Among x ys
    by [] k h e = omega (arith, h)
    by (y ∷ ys) zero h e = inl (sym e)
    by (y ∷ ys) (suc k) h e = inr (by ys k (omega (arith, h)) e)

pub contains_from_among : (xs : List (List ℕ)) (x : List ℕ) → Among x xs → Contains xs x
contains_from_among [] x a = absurd a
contains_from_among (y ∷ ys) x (inl e) = (0, omega arith, sym e)
contains_from_among (y ∷ ys) x (inr a) = let at = contains_from_among ys x a in (suc at.0, omega (arith, at.1), at.2)

pub among_left : (xs ys : List (List ℕ)) (x : List ℕ) → Among x xs → Among x (xs ++ ys)
among_left [] ys x a = absurd a
among_left (z ∷ xs) ys x (inl e) = inl e
among_left (z ∷ xs) ys x (inr a) = inr (among_left xs ys x a)

pub among_right : (xs ys : List (List ℕ)) (x : List ℕ) → Among x ys → Among x (xs ++ ys)
among_right [] ys x a = a
among_right (z ∷ xs) ys x a = inr (among_right xs ys x a)

pub among_either : (xs ys : List (List ℕ)) (x : List ℕ) → Among x (xs ++ ys) → Among x xs ⊎ Among x ys
among_either [] ys x a = inr a
among_either (z ∷ xs) ys x (inl e) = inl (inl e)
among_either (z ∷ xs) ys x (inr a) = by (among_either xs ys x a)
  where
    by : Among x xs ⊎ Among x ys → Among x (z ∷ xs) ⊎ Among x ys
    by (inl b) = inl (inr b)
    by (inr b) = inr b

-- a name among names has a place
pub has_name : (names : List (List ℕ)) (name : List ℕ) → Among name names → HasName names name
has_name [] name a = absurd a
has_name (other ∷ names) name (inl e) = rw ((bytes_eq-Decides other name).1 (sym e)) (omega arith)
has_name (other ∷ names) name (inr a) = by (bytes_eq other name) (has_name names name a)
  where
    by : (b : Bool) → HasName names name → cond b 0 (suc (place_of names name)) < suc (length names)
    by true h = omega arith
    by false h = omega (arith, h)

-- and what has a place is among them
pub among_from_has : (names : List (List ℕ)) (name : List ℕ) → HasName names name → Among name names
among_from_has [] name h = omega (arith, h)
among_from_has (other ∷ names) name h = by (bytes_eq other name) refl h (among_from_has names name)
  where
    by : (b : Bool) → bytes_eq other name ≡ b → cond b 0 (suc (place_of names name)) < suc (length names) → (HasName names name → Among name names) → Among name (other ∷ names)
    by true e h more = inl (sym ((bytes_eq-Decides other name).0 e))
    by false e h more = inr (more (omega (arith, h)))
