-- A row that is whole stays the same when more entries come after those of its leaf.
use Rattle.std.proofs.Common.{◌≡◌, ◌∙◌, refl, sym, ap, ℕ, nat_lt, Bool, true, false, cond, not, ◌&&◌, List, [], ◌∷◌, ◌++◌, append-nil}
use Rattle.vs_bytes.specs.declared.leaf_columns.Entry.{Entry}
use Rattle.record_assembly.specs.Cuts.{until, beyond, first_item, later_items, is_nil}
use Rattle.column_assembly.specs.Items.{is_whole}

until_on : (m : ℕ) (es ys : List Entry) → is_nil (beyond m es) ≡ false → until m (es ++ ys) ≡ until m es
until_on m [] ys h = absurd cc
until_on m (e ∷ es) ys h = by (nat_lt m e.rep) h (until_on m es ys)
  where
    by : (b : Bool) → is_nil (cond b (beyond m es) (e ∷ es)) ≡ false → (is_nil (beyond m es) ≡ false → until m (es ++ ys) ≡ until m es) → cond b (e ∷ until m (es ++ ys)) [] ≡ cond b (e ∷ until m es) []
    by true some more = ap (λ (xs : List Entry). e ∷ xs) (more some)
    by false some more = refl

beyond_on : (m : ℕ) (es ys : List Entry) → is_nil (beyond m es) ≡ false → beyond m (es ++ ys) ≡ beyond m es ++ ys
beyond_on m [] ys h = absurd cc
beyond_on m (e ∷ es) ys h = by (nat_lt m e.rep) h (beyond_on m es ys)
  where
    by : (b : Bool) → is_nil (cond b (beyond m es) (e ∷ es)) ≡ false → (is_nil (beyond m es) ≡ false → beyond m (es ++ ys) ≡ beyond m es ++ ys) → cond b (beyond m (es ++ ys)) (e ∷ (es ++ ys)) ≡ cond b (beyond m es) (e ∷ es) ++ ys
    by true some more = more some
    by false some more = refl

first_on : (es ys : List Entry) → is_nil (later_items 0 es) ≡ false → first_item 0 (es ++ ys) ≡ first_item 0 es
first_on [] ys h = absurd cc
first_on (e ∷ es) ys h = ap (λ (xs : List Entry). e ∷ xs) (until_on 0 es ys h)

later_on : (es ys : List Entry) → is_nil (later_items 0 es) ≡ false → later_items 0 (es ++ ys) ≡ later_items 0 es ++ ys
later_on [] ys h = absurd cc
later_on (e ∷ es) ys h = beyond_on 0 es ys h

-- a leaf that hasn't ended has another row after a whole one
another : (es : List Entry) → is_whole false es ≡ true → is_nil (later_items 0 es) ≡ false
another es h = by (is_nil es) (is_nil (later_items 0 es)) h
  where
    by : (a b : Bool) → (not a && not b) ≡ true → b ≡ false
    by a false h = refl
    by true true h = absurd cc
    by false true h = absurd cc

pub whole_first : (ended : Bool) (es ys : List Entry) → is_whole ended es ≡ true → (ended ≡ true → ys ≡ []) → first_item 0 (es ++ ys) ≡ first_item 0 es
whole_first true es ys h none = ap (λ (xs : List Entry). first_item 0 (es ++ xs)) (none refl) ∙ ap (first_item 0) (append-nil es)
whole_first false es ys h none = first_on es ys (another es h)

pub whole_later : (ended : Bool) (es ys : List Entry) → is_whole ended es ≡ true → (ended ≡ true → ys ≡ []) → later_items 0 (es ++ ys) ≡ later_items 0 es ++ ys
whole_later true es ys h none =
    ap (λ (xs : List Entry). later_items 0 (es ++ xs)) (none refl)
    ∙ (ap (later_items 0) (append-nil es)
    ∙ (sym (append-nil (later_items 0 es))
    ∙ ap (λ (xs : List Entry). later_items 0 es ++ xs) (sym (none refl))))
whole_later false es ys h none = later_on es ys (another es h)

-- a leaf that has ended, and has entries left, has a whole row
pub whole_end : (ended : Bool) (es : List Entry) → ended ≡ true → is_nil es ≡ false → is_whole ended es ≡ true
whole_end true es is some = ap (λ b. not b && true) some
whole_end false es is some = absurd cc
