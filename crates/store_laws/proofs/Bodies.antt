-- The bytes and the structs of groups that close one after the other.
use Rattle.std.proofs.Common.{◌≡◌, ◌∙◌, refl, sym, ap, ℕ, ◌+◌, ◌≤◌, Bool, true, false, cond, List, [], ◌∷◌, ◌++◌, length, Option, Result, Ok, Err, arith}
use Rattle.std.specs.Prelude.{nat_le}
use Rattle.std.specs.List.{concat, fold}
use Rattle.std.proofs.lemmas.Bool.Decides.{nat_tests}
use Rattle.std.proofs.lemmas.List.{append_assoc, append-nil, length-append}
use Rattle.json_tree.specs.Json.{Json}
use Rattle.footer_structs.specs.declared.row_groups.GroupMeta.{GroupMeta}
use Rattle.footer_structs.specs.FileEnds.{footer_limit}
use Rattle.closed_groups.specs.ClosedGroups.{ending_of}
use Rattle.store_write.specs.Frames.{Format, Body, begun, more_metas, close, body_of, with_ending}

abbrev pub Rows : Type 0
Rows = List (Option Json)

at_most : (a b : ℕ) → nat_le a b ≡ true → a ≤ b
at_most a b = grind (arith, nat_tests)

ok_body : (a b : Body GroupMeta) → ◌≡◌ {A = Result (Body GroupMeta) ℕ} (Ok a) (Ok b) → a ≡ b
ok_body a b e = cc

never : {A : Type 0} (len : ℕ) (b : Body GroupMeta) → ◌≡◌ {A = Result (Body GroupMeta) ℕ} (Err len) (Ok b) → A
never len b e = absurd cc

module _ (f : Format (Option Json) GroupMeta) where
  -- the chunks of groups, and their structs, where the first byte of the first group has a place
  abbrev pub bytes_of : List Rows → List ℕ
  bytes_of [] = []
  bytes_of (g ∷ gs) = concat (f.chunks g) ++ bytes_of gs

  abbrev pub metas_of : ℕ → List Rows → List GroupMeta
  metas_of place [] = []
  metas_of place (g ∷ gs) = f.meta place g ∷ metas_of (place + length (concat (f.chunks g))) gs

  -- a body with groups more
  pub record HasGroups (a b : Body GroupMeta) (gs : List Rows) : Type 0 where
    pub bytes : b.bytes ≡ a.bytes ++ bytes_of gs
    pub metas : b.metas ≡ a.metas ++ metas_of (length a.bytes) gs
    pub short : (gs ≡ [] → length (f.footer a.metas) ≤ footer_limit) → length (f.footer b.metas) ≤ footer_limit

  stays_full : (gs : List Rows) (len : ℕ) → fold (close f) (Err len) gs ≡ Err len
  stays_full [] len = refl
  stays_full (g ∷ gs) len = stays_full gs len

  pub body_has : (gs : List Rows) (a b : Body GroupMeta) → fold (close f) (Ok a) gs ≡ Ok b → HasGroups a b gs
  body_has [] a b h =
      let same : a ≡ b = ok_body a b h in
      record {
        bytes = ap (λ (x : Body GroupMeta). x.bytes) (sym same) ∙ sym (append-nil a.bytes);
        metas = ap (λ (x : Body GroupMeta). x.metas) (sym same) ∙ sym (append-nil a.metas);
        short = λ low. omega (arith, ap (λ (x : Body GroupMeta). length (f.footer x.metas)) same, low refl);
      }
  body_has (g ∷ gs) a b h = by (nat_le (length (f.footer (more_metas f a g))) footer_limit) refl h (λ e. body_has gs (record { bytes = a.bytes ++ concat (f.chunks g); metas = more_metas f a g }) b e)
    where
      by : (c : Bool) → nat_le (length (f.footer (more_metas f a g))) footer_limit ≡ c
          → fold (close f) (cond c (Ok (record { bytes = a.bytes ++ concat (f.chunks g); metas = more_metas f a g })) (Err (length (f.footer (more_metas f a g))))) gs ≡ Ok b
          → (fold (close f) (Ok (record { bytes = a.bytes ++ concat (f.chunks g); metas = more_metas f a g })) gs ≡ Ok b → HasGroups (record { bytes = a.bytes ++ concat (f.chunks g); metas = more_metas f a g }) b gs)
          → HasGroups a b (g ∷ gs)
      by true fits e rest =
          let later = rest e in
          let place : length (a.bytes ++ concat (f.chunks g)) ≡ length a.bytes + length (concat (f.chunks g)) = length-append a.bytes (concat (f.chunks g)) in
          record {
            bytes = later.bytes ∙ append_assoc a.bytes (concat (f.chunks g)) (bytes_of gs);
            metas = later.metas ∙ (append_assoc a.metas (f.meta (length a.bytes) g ∷ []) (metas_of (length (a.bytes ++ concat (f.chunks g))) gs) ∙ ap (λ (p : ℕ). a.metas ++ (f.meta (length a.bytes) g ∷ metas_of p gs)) place);
            short = λ low. later.short (λ none. at_most (length (f.footer (more_metas f a g))) footer_limit fits);
          }
      by false full e rest = never (length (f.footer (more_metas f a g))) b (sym (stays_full gs (length (f.footer (more_metas f a g)))) ∙ e)

  -- a file that is made
  pub record IsMade (gs : List Rows) (file : List ℕ) : Type 0 where
    pub body : Body GroupMeta
    pub has : HasGroups begun body gs
    pub file_is : file ≡ body.bytes ++ ending_of (f.footer body.metas)

  pub made_has : (gs : List Rows) (file : List ℕ) → with_ending f (body_of f gs) ≡ Ok file → IsMade gs file
  unfolding body_of
  made_has gs file h = by (fold (close f) (Ok begun) gs) refl h
    where
      ok_file : (xs ys : List ℕ) → ◌≡◌ {A = Result (List ℕ) ℕ} (Ok xs) (Ok ys) → xs ≡ ys
      ok_file xs ys e = cc

      by : (r : Result (Body GroupMeta) ℕ) → fold (close f) (Ok begun) gs ≡ r → with_ending f r ≡ Ok file → IsMade gs file
      by (Ok b) is e = record { body = b; has = body_has gs begun b is; file_is = sym (ok_file (b.bytes ++ ending_of (f.footer b.metas)) file e) }
      by (Err len) is e = absurd cc
