-- Parts that are written in turn.
use Rattle.std.proofs.Common.{◌≡◌, ◌∙◌, refl, sym, ap, ℕ, zero, suc, ◌+◌, ◌-◌, ◌<◌, ◌≤◌, Bool, true, false, cond, nat_le, List, [], ◌∷◌, ◌++◌, length, drop, append_assoc, append-nil, arith}
use Rattle.std.proofs.lemmas.Bool.{leb-true}
use Rattle.std.proofs.lemmas.List.{drop-drop, drop_all, length-drop}
use Rattle.hybrid_levels.specs.Written.{stretch, piece, piece_count, pieces, encoded}

-- a part is for one number or more
pub some_taken : (ns : List ℕ) → 8 ≤ piece_count ns
unfolding piece_count
some_taken ns = by (nat_le 8 (stretch ns)) refl
  where
    by : (b : Bool) → nat_le 8 (stretch ns) ≡ b → 8 ≤ cond b (stretch ns) 8
    by true e = leb-true 8 (stretch ns) e
    by false e = omega arith

-- what was written, and the parts of the numbers from `at` on, are all
pub record Left (width : ℕ) (ns : List ℕ) (at : ℕ) (before now : List ℕ) : Type 0 where
  pub most : ℕ
  pub enough : length ns ≤ at + most
  pub whole : now ++ pieces width most (drop at ns) ≡ before ++ encoded width ns

pub none_written : (width : ℕ) (ns before : List ℕ) → Left width ns 0 before before
none_written width ns before = record { most = length ns; enough = omega arith; whole = refl }

no_pieces : (width most : ℕ) → pieces width most [] ≡ []
no_pieces width zero = refl
no_pieces width (suc most) = refl

pub all_written : (width : ℕ) (ns : List ℕ) (at : ℕ) (before now : List ℕ) → length ns ≤ at → Left width ns at before now → now ≡ before ++ encoded width ns
all_written width ns at before now done left =
    sym (append-nil now) ∙ sym (ap (λ (xs : List ℕ). now ++ xs) (ap (pieces width left.most) (drop_all at ns done) ∙ no_pieces width left.most)) ∙ left.whole

next_piece : (width most : ℕ) (ns : List ℕ) → 0 < length ns → length ns ≤ most → pieces width most ns ≡ piece width ns ++ pieces width (most - 1) (drop (piece_count ns) ns)
next_piece width zero ns some enough = absurd (omega (arith, some, enough))
next_piece width (suc most) [] some enough = absurd (omega (arith, some))
next_piece width (suc most) (n ∷ ns) some enough = let e : suc most - 1 ≡ most = omega arith in rw e refl

pub one_written : (width : ℕ) (ns : List ℕ) (at : ℕ) (before now next : List ℕ) → at < length ns → next ≡ now ++ piece width (drop at ns) → Left width ns at before now → Left width ns (at + piece_count (drop at ns)) before next
one_written width ns at before now next less is left = record {
  most = left.most - 1;
  enough = let h = left.enough in let k = some_taken (drop at ns) in omega (arith, h, k);
  whole =
      let h = left.enough in
      let size = length-drop at ns in
      let behind = pieces width (left.most - 1) (drop (piece_count (drop at ns)) (drop at ns)) in
      ap (λ (xs : List ℕ). next ++ pieces width (left.most - 1) xs) (sym (drop-drop (piece_count (drop at ns)) at ns))
      ∙ ap (λ (xs : List ℕ). xs ++ behind) is
      ∙ append_assoc now (piece width (drop at ns)) behind
      ∙ sym (ap (λ (xs : List ℕ). now ++ xs) (next_piece width left.most (drop at ns) (omega (arith, size, less)) (omega (arith, size, h))))
      ∙ left.whole;
}
