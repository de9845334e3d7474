-- The fields of an object, gathered one by one.
use Rattle.std.proofs.Common.{◌≡◌, ◌∙◌, sym, ap, refl, false, ℕ, zero, suc, ◌+◌, ◌<◌, ◌≤◌, List, [], ◌∷◌, ◌++◌, length, map, drop, get_or, nat_eq, append_assoc, Option, None, Some, arith}
use Rattle.std.proofs.lemmas.List.{append-nil}
use Rattle.thrift_compact.specs.Slots.{◌>>?◌}
use Rattle.shred_schema.specs.Groups.{Group, Groups, no_groups, field, groups_from, object_of}
use Rattle.file_columns.specs.declared.places.Levels.{Levels}
use Rattle.file_columns.specs.declared.places.PlacedLeaf.{PlacedLeaf}
use Rattle.file_columns.specs.Columns.{PlacedElement, name_of, names_of, field_in, each_field, fields_in}
use Rattle.file_columns.specs.Views.{seen}
use Rattle.file_columns.specs.declared.places.Child.{Child}
use Rattle.vs_bytes.specs.Names.{repeats}

abbrev pub onto : List (List ℕ × Group) → Groups → Groups
onto [] gs = gs
onto (f ∷ fs) gs = field f.0 f.1 (onto fs gs)

onto_more : (fs more : List (List ℕ × Group)) (gs : Groups) → onto (fs ++ more) gs ≡ onto fs (onto more gs)
onto_more [] more gs = refl
onto_more (f ∷ fs) more gs = ap (field f.0 f.1) (onto_more fs more gs)

onto_none : (fs : List (List ℕ × Group)) → onto fs no_groups ≡ groups_from fs
onto_none [] = refl
onto_none (f ∷ fs) = ap (field f.0 f.1) (onto_none fs)

-- fields and leaves in front of those that are read after them
abbrev pub before : List (List ℕ × Group) → List PlacedLeaf → Option (Groups × List PlacedLeaf) → Option (Groups × List PlacedLeaf)
before fs ls None = None
before fs ls (Some p) = Some (onto fs p.0, ls ++ p.1)

pub record IsGathered (read : Levels → List PlacedElement → Option (Group × List PlacedLeaf)) (l : Levels) (all : List PlacedElement) (fs : List (List ℕ × Group)) (ls : List PlacedLeaf) (rest : List PlacedElement) : Type 0 where
  pub same : each_field read l all ≡ before fs ls (each_field read l rest)

before_none : (o : Option (Groups × List PlacedLeaf)) → o ≡ before [] [] o
before_none None = refl
before_none (Some p) = refl

pub gathered_start : (read : Levels → List PlacedElement → Option (Group × List PlacedLeaf)) (l : Levels) (all : List PlacedElement) → IsGathered read l all [] [] all
gathered_start read l all = record { same = before_none (each_field read l all) }

before_field : (fs more : List (List ℕ × Group)) (ls now ns : List PlacedLeaf) (name : List ℕ) (n : Group) (o : Option (Groups × List PlacedLeaf)) → more ≡ fs ++ (name, n) ∷ [] → now ≡ ls ++ ns
    → before fs ls (o >>? λ (p : Groups × List PlacedLeaf). Some (field name n p.0, ns ++ p.1)) ≡ before more now o
before_field fs more ls now ns name n None e f = refl
before_field fs more ls now ns name n (Some p) e f = λ i. Some ((sym (onto_more fs ((name, n) ∷ []) p.0) ∙ ap (λ (xs : List (List ℕ × Group)). onto xs p.0) (sym e)) i, (sym (append_assoc ls ns p.1) ∙ ap (λ (xs : List PlacedLeaf). xs ++ p.1) (sym f)) i)

pub gathered_turn : (read : Levels → List PlacedElement → Option (Group × List PlacedLeaf)) (l : Levels) (all : List PlacedElement) (fs more : List (List ℕ × Group)) (ls now ns : List PlacedLeaf) (rest : List PlacedElement) (c : PlacedElement) (cs : List PlacedElement) (n : Group)
    → IsGathered read l all fs ls rest → rest ≡ c ∷ cs → field_in read l c ≡ Some (n, ns) → more ≡ fs ++ (name_of c, n) ∷ [] → now ≡ ls ++ ns → IsGathered read l all more now cs
gathered_turn read l all fs more ls now ns rest c cs n h is one grown longer = record {
  same = h.same ∙ ap (λ r. before fs ls (each_field read l r)) is ∙ rw one (before_field fs more ls now ns (name_of c) n (each_field read l cs) grown longer);
}

pub gathered_fails : (read : Levels → List PlacedElement → Option (Group × List PlacedLeaf)) (l : Levels) (all : List PlacedElement) (fs : List (List ℕ × Group)) (ls : List PlacedLeaf) (rest : List PlacedElement) (c : PlacedElement) (cs : List PlacedElement)
    → IsGathered read l all fs ls rest → rest ≡ c ∷ cs → field_in read l c ≡ None → each_field read l all ≡ None
gathered_fails read l all fs ls rest c cs h is none = h.same ∙ ap (λ r. before fs ls (each_field read l r)) is ∙ rw none refl

pub gathered_end : (read : Levels → List PlacedElement → Option (Group × List PlacedLeaf)) (l : Levels) (all : List PlacedElement) (fs : List (List ℕ × Group)) (ls : List PlacedLeaf) (rest : List PlacedElement)
    → IsGathered read l all fs ls rest → rest ≡ [] → each_field read l all ≡ Some (groups_from fs, ls)
gathered_end read l all fs ls rest h none = h.same ∙ ap (λ r. before fs ls (each_field read l r)) none ∙ (λ i. Some (onto_none fs i, append-nil ls i))

-- the elements from k on
pub seen_at : (cs : List Child) (k : ℕ) (c : Child) → k < length cs → c ≡ get_or cs k c → map seen (drop k cs) ≡ seen c ∷ map seen (drop (k + 1) cs)
seen_at [] k c h is = absurd (omega arith)
seen_at (x ∷ cs) zero c h is = λ i. seen (sym is i) ∷ map seen cs
seen_at (x ∷ cs) (suc k) c h is =
    let next : suc k + 1 ≡ suc (suc k) = omega arith in
    let place : k + 1 ≡ suc k = omega arith in
    seen_at cs k c (omega arith) is ∙ ap (λ i. seen c ∷ map seen (drop i cs)) place ∙ ap (λ i. seen c ∷ map seen (drop i (x ∷ cs))) (sym next)

pub seen_end : (cs : List Child) (k : ℕ) → length cs ≤ k → map seen (drop k cs) ≡ []
seen_end [] zero h = refl
seen_end [] (suc k) h = refl
seen_end (x ∷ cs) zero h = absurd (omega arith)
seen_end (x ∷ cs) (suc k) h = seen_end cs k (omega arith)

-- an object of these fields
pub object_read : (read : Levels → List PlacedElement → Option (Group × List PlacedLeaf)) (l : Levels) (cs : List Child) (gs : Groups) (ls : List PlacedLeaf) → nat_eq (length cs) 0 ≡ false → repeats (names_of (map seen cs)) ≡ false → each_field read l (map seen cs) ≡ Some (gs, ls)
    → fields_in read l (map seen cs) ≡ Some (object_of gs, ls)
unfolding fields_in
object_read read l [] gs ls some once each = cc
object_read read l (c ∷ cs) gs ls some once each = rw (once, each) refl
