-- Entries of an item: how they begin, and how they are cut off from those of the items after it.
use Rattle.std.proofs.Common.{◌≡◌, refl, ap, ℕ, ◌<◌, ◌≤◌, nat_lt, Bool, true, false, cond, List, [], ◌∷◌, ◌++◌, length, length-append, arith}
use Rattle.std.specs.List.{AllByRecursion, flat_map}
use Rattle.std.proofs.lemmas.Bool.{lt-ltb, le-ltb}
use Rattle.vs_bytes.specs.declared.leaf_columns.Entry.{Entry}
use Rattle.record_assembly.specs.Cuts.{until, beyond, first_item, later_items, is_nil}

-- each entry goes on an item of a list at level m
abbrev pub AllAbove : ℕ → List Entry → Type 0
AllAbove m [] = Unit {0}
AllAbove m (e ∷ es) = (m < e.rep) × AllAbove m es

-- entries that begin with repetition level r, reach definition level d there, and go on above level m
pub record Begins (r m d : ℕ) (es : List Entry) : Type 0 where
  pub first : Entry
  pub rest : List Entry
  pub whole : es ≡ first ∷ rest
  pub rep : first.rep ≡ r
  pub def : d ≤ first.def
  pub above : AllAbove m rest

above_append : (m : ℕ) (xs ys : List Entry) → AllAbove m xs → AllAbove m ys → AllAbove m (xs ++ ys)
above_append m [] ys a b = b
above_append m (e ∷ es) ys a b = (a.0, above_append m es ys a.1 b)

above_lower : (m n : ℕ) (es : List Entry) → m ≤ n → AllAbove n es → AllAbove m es
above_lower m n [] h a = tt
above_lower m n (e ∷ es) h a = (omega (arith, a.0), above_lower m n es h a.1)

pub begins_one : (r m d : ℕ) (e : Entry) → e.rep ≡ r → d ≤ e.def → Begins r m d (e ∷ [])
begins_one r m d e rep def = record { first = e; rest = []; whole = refl; rep = rep; def = def; above = tt }

pub begins_append : (r m d : ℕ) (xs ys : List Entry) → Begins r m d xs → AllAbove m ys → Begins r m d (xs ++ ys)
begins_append r m d xs ys b a = record { first = b.first; rest = b.rest ++ ys; whole = ap (λ zs. zs ++ ys) b.whole; rep = b.rep; def = b.def; above = above_append m b.rest ys b.above a }

pub begins_lower : (r m n c d : ℕ) (es : List Entry) → m ≤ n → c ≤ d → Begins r n d es → Begins r m c es
begins_lower r m n c d es h g b = record { first = b.first; rest = b.rest; whole = b.whole; rep = b.rep; def = omega (arith, b.def); above = above_lower m n b.rest h b.above }

pub begins_above : (r m n d : ℕ) (es : List Entry) → m < r → m ≤ n → Begins r n d es → AllAbove m es
begins_above r m n d es low h b = rw b.whole (omega (arith, b.rep), above_lower m n b.rest h b.above)

pub flat_above : {A : Type 0} (P : A → Type 0) (m : ℕ) (g : A → List Entry) → ((x : A) → P x → AllAbove m (g x)) → (xs : List A) → AllByRecursion P xs → AllAbove m (flat_map g xs)
flat_above P m g h [] ps = tt
flat_above P m g h (x ∷ xs) ps = above_append m (g x) (flat_map g xs) (h x ps.0) (flat_above P m g h xs ps.1)

-- entries of which the first, if any, begins an item
abbrev pub StartsLow : ℕ → List Entry → Type 0
StartsLow m [] = Unit {0}
StartsLow m (e ∷ es) = e.rep ≤ m

pub begins_low : (r m n d : ℕ) (xs ys : List Entry) → r ≤ m → Begins r n d xs → StartsLow m (xs ++ ys)
begins_low r m n d xs ys h b = rw b.whole (omega (arith, b.rep))

until_stops : (m : ℕ) (ys : List Entry) → StartsLow m ys → until m ys ≡ []
until_stops m [] low = refl
until_stops m (e ∷ es) low = rw (le-ltb m e.rep low) refl

beyond_stops : (m : ℕ) (ys : List Entry) → StartsLow m ys → beyond m ys ≡ ys
beyond_stops m [] low = refl
beyond_stops m (e ∷ es) low = rw (le-ltb m e.rep low) refl

until_passes : (m : ℕ) (xs ys : List Entry) → AllAbove m xs → StartsLow m ys → until m (xs ++ ys) ≡ xs
until_passes m [] ys a low = until_stops m ys low
until_passes m (e ∷ es) ys a low = rw (lt-ltb m e.rep a.0, until_passes m es ys a.1 low) refl

beyond_passes : (m : ℕ) (xs ys : List Entry) → AllAbove m xs → StartsLow m ys → beyond m (xs ++ ys) ≡ ys
beyond_passes m [] ys a low = beyond_stops m ys low
beyond_passes m (e ∷ es) ys a low = rw (lt-ltb m e.rep a.0, beyond_passes m es ys a.1 low) refl

-- where entries end that begin an item, the next item begins
pub first_is : (r m d : ℕ) (xs ys : List Entry) → Begins r m d xs → StartsLow m ys → first_item m (xs ++ ys) ≡ xs
first_is r m d xs ys b low = rw b.whole (ap (λ zs. b.first ∷ zs) (until_passes m b.rest ys b.above low))

pub later_are : (r m d : ℕ) (xs ys : List Entry) → Begins r m d xs → StartsLow m ys → later_items m (xs ++ ys) ≡ ys
later_are r m d xs ys b low = rw b.whole (beyond_passes m b.rest ys b.above low)

cut_joined : (m : ℕ) (es : List Entry) → until m es ++ beyond m es ≡ es
cut_joined m [] = refl
cut_joined m (e ∷ es) = by (nat_lt m e.rep) (cut_joined m es)
  where
    by : (b : Bool) → until m es ++ beyond m es ≡ es → cond b (e ∷ until m es) [] ++ cond b (beyond m es) (e ∷ es) ≡ e ∷ es
    by true h = ap (λ zs. e ∷ zs) h
    by false h = refl

-- an item and those after it are the whole
pub items_joined : (m : ℕ) (es : List Entry) → first_item m es ++ later_items m es ≡ es
items_joined m [] = refl
items_joined m (e ∷ es) = ap (λ zs. e ∷ zs) (cut_joined m es)

pub begins_some : (r m d : ℕ) (xs ys : List Entry) → Begins r m d xs → is_nil (xs ++ ys) ≡ false
begins_some r m d xs ys b = rw b.whole refl

pub begins_long : (r m d : ℕ) (xs : List Entry) → Begins r m d xs → 1 ≤ length xs
begins_long r m d xs b = rw b.whole (omega arith)

-- so many items have as many entries at least
pub items_long : {A : Type 0} (P : A → Type 0) (g : A → List Entry) → ((x : A) → P x → 1 ≤ length (g x)) → (xs : List A) → AllByRecursion P xs → length xs ≤ length (flat_map g xs)
items_long P g h [] ps = omega arith
items_long P g h (x ∷ xs) ps = omega (arith, h x ps.0, items_long P g h xs ps.1, length-append (g x) (flat_map g xs))
