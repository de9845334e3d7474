-- Lists of items with a comma between two of them and a closing byte at their end. Gaps may stand round each
-- item; `blank` tests the bytes of gaps. The constructors `first`, `next`, `none` and `end` build what is read.
use Rattle.std.specs.Prelude.{ℕ, suc, zero, List, Bool, Option, Some, None, length}
use Rattle.std.specs.Option.{option_map}
use Rattle.byte_parsing.specs.Bytes.{comma}
use Rattle.byte_parsing.specs.Parse.{Parse, and_then, front, back, past}

-- what is read where a closing byte stands first, and where none does
abbrev pub list_end : {A : Type 0} → A → Option (List ℕ) → Option (A × List ℕ) → Option (A × List ℕ)
list_end value (Some rest) other = Some (value, rest)
list_end value None other = other

-- an item, a gap, and the items after it
abbrev pub item_at : {V M : Type 0} → (ℕ → Bool) → Parse V → Parse M → List ℕ → Option (V × List ℕ × M × List ℕ)
item_at blank item more xs = and_then (item xs) (λ a. option_map (λ m. (a.0, front blank a.1, m.0, m.1)) (more (back blank a.1)))

-- the items after the first, each after a comma, up to the closing byte. The count is the most that are read
abbrev pub more_at : {V M : Type 0} → (ℕ → Bool) → ℕ → M → (List ℕ → V → List ℕ → M → M) → Parse V → ℕ → Parse M
more_at blank close end next item zero xs = None
more_at blank close end next item (suc count) xs =
    list_end end (past close xs) (and_then (past comma xs) (λ ys. option_map (λ i. (next (front blank ys) i.0 i.1 i.2, i.3)) (item_at blank item (λ zs. more_at blank close end next item count zs) (back blank ys))))

-- one item at least, up to the closing byte. Each has a byte of its own, so their count is bounded by the bytes
abbrev pub some_at : {V M E : Type 0} → (ℕ → Bool) → ℕ → (V → List ℕ → M → E) → M → (List ℕ → V → List ℕ → M → M) → Parse V → Parse E
some_at blank close first end next item xs =
    option_map (λ i. (first i.0 i.1 i.2, i.3)) (item_at blank item (λ ys. more_at blank close end next item (length ys) ys) xs)

-- any number of items, up to the closing byte
abbrev pub all_at : {V M E : Type 0} → (ℕ → Bool) → ℕ → E → (V → List ℕ → M → E) → M → (List ℕ → V → List ℕ → M → M) → Parse V → Parse E
all_at blank close none first end next item xs = list_end none (past close xs) (some_at blank close first end next item xs)
