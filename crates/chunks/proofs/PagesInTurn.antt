-- Pages that are passed over in turn.
use Rattle.std.proofs.Common.{◌≡◌, ◌∙◌, refl, sym, ap, ℕ, zero, suc, ◌+◌, ◌-◌, ◌<◌, ◌≤◌, List, [], ◌∷◌, length, drop, Option, None, Some, Result, Ok, Err, drop-drop, length-drop, arith}
use Rattle.vs_bytes.specs.Outcome.{◌>>=◌}
use Rattle.vs_bytes.specs.declared.leaf_columns.Entry.{Entry}
use Rattle.vs_bytes.specs.declared.leaf_columns.Leaf.{Leaf}
use Rattle.vs_bytes.specs.declared.rule.Rule.{Rule}
use Rattle.chunks.specs.Turns.{page_at, less, standing, at_end, turn_after, turns, next_of}

-- what stands from `at` on gives what stands from `from` on does
pub record Ahead (leaf : Leaf) (left : Option ℕ) (bytes : List ℕ) (from at : ℕ) : Type 0 where
  pub most : ℕ
  pub enough : length (drop at bytes) ≤ most
  pub whole : turns most leaf left (drop at bytes) ≡ next_of (standing leaf left (drop from bytes))

pub at_start : (leaf : Leaf) (left : Option ℕ) (bytes : List ℕ) (from : ℕ) → Ahead leaf left bytes from from
unfolding next_of
at_start leaf left bytes from = record {
  most = length (drop from bytes);
  enough = omega arith;
  whole = refl;
}

-- one page is read
one_page : (most : ℕ) (leaf : Leaf) (left : Option ℕ) (bytes : List ℕ) → 0 < length bytes → length bytes ≤ suc most →
    turns (suc most) leaf left bytes ≡ (page_at leaf bytes >>= turn_after (turns most leaf) leaf left bytes)
one_page most leaf left [] some enough = absurd (omega (arith, some))
one_page most leaf left (byte ∷ bytes) some enough = refl

-- there is room for one page
room : (most : ℕ) (leaf : Leaf) (left : Option ℕ) (bytes : List ℕ) → 0 < length bytes → length bytes ≤ most →
    turns most leaf left bytes ≡ (page_at leaf bytes >>= turn_after (turns (most - 1) leaf) leaf left bytes)
room zero leaf left bytes some enough = absurd (omega (arith, some, enough))
room (suc most) leaf left bytes some enough =
    let e : suc most - 1 ≡ most = omega arith in
    one_page most leaf left bytes some enough ∙ ap (λ (k : ℕ). page_at leaf bytes >>= turn_after (turns k leaf) leaf left bytes) (sym e)

module _ (leaf : Leaf) (left : Option ℕ) (bytes : List ℕ) (from at : ℕ) (ahead : Ahead leaf left bytes from at) (more : at < length bytes) where
  step : next_of (standing leaf left (drop from bytes)) ≡ (page_at leaf (drop at bytes) >>= turn_after (turns (ahead.most - 1) leaf) leaf left (drop at bytes))
  step =
      let size = length-drop at bytes in
      sym ahead.whole ∙ room ahead.most leaf left (drop at bytes) (omega (arith, size, more)) ahead.enough

  -- an index page is passed over
  pub passed : (used : ℕ) → 1 ≤ used → at + used ≤ length bytes → page_at leaf (drop at bytes) ≡ Ok (None, used) → Ahead leaf left bytes from (at + used)
  passed used least inside is = record {
    most = ahead.most - 1;
    enough =
        let size = length-drop at bytes in
        let rest = length-drop (at + used) bytes in
        let h = ahead.enough in
        omega (arith, size, rest, h, least, inside, more);
    whole =
        ap (turns (ahead.most - 1) leaf left) (sym (drop-drop used at bytes))
        ∙ sym (ap (λ (r : Result (Option (List Entry) × ℕ) Rule). r >>= turn_after (turns (ahead.most - 1) leaf) leaf left (drop at bytes)) is)
        ∙ sym step;
  }

  -- a page gives its entries
  pub gave : (entries : List Entry) (used : ℕ) → page_at leaf (drop at bytes) ≡ Ok (Some entries, used) →
      next_of (standing leaf left (drop from bytes)) ≡ Ok (Some entries, standing leaf (less left (length entries)) (drop (at + used) bytes))
  gave entries used is =
      step
      ∙ ap (λ (r : Result (Option (List Entry) × ℕ) Rule). r >>= turn_after (turns (ahead.most - 1) leaf) leaf left (drop at bytes)) is
      ∙ ap (λ (rest : List ℕ). Ok (Some entries, standing leaf (less left (length entries)) rest)) (drop-drop used at bytes)

  -- a rule is violated
  pub stopped : (rule : Rule) → page_at leaf (drop at bytes) ≡ Err rule → next_of (standing leaf left (drop from bytes)) ≡ Err rule
  stopped rule is = step ∙ ap (λ (r : Result (Option (List Entry) × ℕ) Rule). r >>= turn_after (turns (ahead.most - 1) leaf) leaf left (drop at bytes)) is

-- at the end
no_more : (most : ℕ) (leaf : Leaf) (left : Option ℕ) (bytes : List ℕ) → length bytes ≤ 0 → turns most leaf left bytes ≡ at_end leaf left
no_more zero leaf left [] none = refl
no_more (suc most) leaf left [] none = refl
no_more most leaf left (byte ∷ bytes) none = absurd (omega (arith, none))

pub ended : (leaf : Leaf) (left : Option ℕ) (bytes : List ℕ) (from at : ℕ) → length bytes ≤ at → Ahead leaf left bytes from at → next_of (standing leaf left (drop from bytes)) ≡ at_end leaf left
ended leaf left bytes from at done ahead =
    let size = length-drop at bytes in
    sym ahead.whole ∙ no_more ahead.most leaf left (drop at bytes) (omega (arith, size, done))
