-- The body that is written for entries reads back.
use Rattle.std.proofs.Common.{◌≡◌, ◌∙◌, sym, ap, subst, ℕ, ◌^◌, ◌<◌, List, ◌++◌, length, Ok, append_assoc}
use Rattle.std.specs.List.{AllByRecursion}
use Rattle.std.proofs.Math.Seq.{drop-append_seam}
use Rattle.std.proofs.lemmas.List.{length-map}
use Rattle.vs_bytes.specs.declared.leaf_columns.Entry.{Entry}
use Rattle.vs_bytes.specs.declared.leaf_columns.Leaf.{Leaf}
use Rattle.hybrid_levels.specs.Written.{encoded}
use Rattle.plain_values.specs.Plain.{plain_cells}
use Rattle.plain_values.specs.Written.{plain_written}
use Rattle.plain_values.proofs.ReadBack.{plain_back}
use Rattle.pages.specs.Bodies.{value_count, data_body}
use Rattle.pages.specs.Entries.{rep_levels, def_levels, values, IsEntry}
use Rattle.pages.specs.Levels.{level_width, levels_of}
use Rattle.pages.specs.Written.{levels_written, body_written}
use Rattle.pages.proofs.EntriesBack.{joined_back, value_count_is, reps_within, defs_within, values_are}
use Rattle.pages.proofs.LevelsBack.{levels_back}

-- what bounds a page
pub record IsSmall (leaf : Leaf) (entries : List Entry) : Type 0 where
  pub rep : leaf.rep < 65536
  pub def : leaf.def < 65536
  pub few : length entries < 2 ^ 31
  pub few_reps : length (encoded (level_width leaf.rep) (rep_levels entries)) < 256 ^ 4
  pub few_defs : length (encoded (level_width leaf.def) (def_levels entries)) < 256 ^ 4

module _ (leaf : Leaf) (entries : List Entry) (more : List ℕ) (small : IsSmall leaf entries) (are : AllByRecursion (IsEntry leaf) entries) where
  abbrev reps_bytes : List ℕ
  reps_bytes = levels_written leaf.rep (rep_levels entries)

  abbrev defs_bytes : List ℕ
  defs_bytes = levels_written leaf.def (def_levels entries)

  abbrev cells_bytes : List ℕ
  cells_bytes = plain_written leaf.phys (values entries)

  regroup : (a b c d : List ℕ) → (a ++ (b ++ c)) ++ d ≡ a ++ (b ++ (c ++ d))
  regroup a b c d = simp append_assoc

  rep_count : length (rep_levels entries) ≡ length entries
  rep_count = length-map entries (λ (e : Entry). e.rep)

  def_count : length (def_levels entries) ≡ length entries
  def_count = length-map entries (λ (e : Entry). e.def)

  reps_back : levels_of leaf.rep (length entries) (reps_bytes ++ (defs_bytes ++ (cells_bytes ++ more))) ≡ Ok (rep_levels entries, length reps_bytes)
  reps_back =
      ap (λ (n : ℕ). levels_of leaf.rep n (reps_bytes ++ (defs_bytes ++ (cells_bytes ++ more)))) (sym rep_count)
      ∙ levels_back leaf.rep (rep_levels entries) (defs_bytes ++ (cells_bytes ++ more)) small.rep (reps_within leaf entries are) (subst (λ (n : ℕ). n < 2 ^ 31) (sym rep_count) small.few) small.few_reps

  defs_back : levels_of leaf.def (length entries) (defs_bytes ++ (cells_bytes ++ more)) ≡ Ok (def_levels entries, length defs_bytes)
  defs_back =
      ap (λ (n : ℕ). levels_of leaf.def n (defs_bytes ++ (cells_bytes ++ more))) (sym def_count)
      ∙ levels_back leaf.def (def_levels entries) (cells_bytes ++ more) small.def (defs_within leaf entries are) (subst (λ (n : ℕ). n < 2 ^ 31) (sym def_count) small.few) small.few_defs

  cells_back : plain_cells leaf.phys leaf.prim (value_count leaf.def (def_levels entries)) (cells_bytes ++ more) ≡ Ok (values entries)
  cells_back =
      ap (λ (n : ℕ). plain_cells leaf.phys leaf.prim n (cells_bytes ++ more)) (value_count_is leaf entries are)
      ∙ plain_back leaf.phys leaf.prim (values entries) more (values_are leaf entries are)

  pub body_back : data_body leaf (length entries) (body_written leaf entries ++ more) ≡ Ok entries
  unfolding data_body body_written
  body_back =
      ap (data_body leaf (length entries)) (regroup reps_bytes defs_bytes cells_bytes more)
      ∙ rw (reps_back, drop-append_seam reps_bytes (defs_bytes ++ (cells_bytes ++ more)), defs_back, drop-append_seam defs_bytes (cells_bytes ++ more), cells_back)
      (ap (λ (es : List Entry). Ok es) (joined_back leaf entries are))
