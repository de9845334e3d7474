-- The groups of a file that is made have its rows, and statistics that are accurate.
use Rattle.std.proofs.Common.{◌≡◌, ◌∙◌, refl, sym, ap, ℕ, ◌+◌, ◌≤◌, Bool, true, List, [], ◌∷◌, ◌++◌, length, Ok, arith}
use Rattle.std.specs.List.{AllByRecursion, concat}
use Rattle.std.proofs.lemmas.List.{append_assoc, length-append}
use Rattle.vs_bytes.specs.Outcome.{◌>>=◌}
use Rattle.thrift_structs.specs.ChunkRanges.{magic_bytes}
use Rattle.shred_schema.specs.Groups.{Group}
use Rattle.shred_schema.specs.Leaves.{column_leaves}
use Rattle.shred_schema.proofs.NodeFacts.{column_leaf_count}
use Rattle.schema_parsing.specs.Grammar.{IsSchema}
use Rattle.file_columns.specs.declared.columns.FileColumn.{FileColumn}
use Rattle.written_columns.proofs.Ways.{paths_counted}
use Rattle.store_read.specs.FileGroups.{file_group_seen}
use Rattle.open_group.specs.declared.settings.Settings.{Settings}
use Rattle.open_group.specs.Filling.{records_of}
use Rattle.open_group.specs.OpenGroups.{IsSettings}
use Rattle.store_write.specs.Made.{column_name, paths_of, chunks_of, struct_of, format}
use Rattle.reading_laws.specs.FullMasks.{ReadsAll}
use Rattle.store_laws.specs.Accuracy.{IsAccurateGroup}
use Rattle.store_laws.specs.FileRows.{in_group, rows_in}
use Rattle.store_laws.specs.ValidFiles.{HasRanges}
use Rattle.store_laws.proofs.Bodies.{Rows, bytes_of, metas_of}
use Rattle.store_laws.proofs.Cuts.{IsSmall, joined}
use Rattle.store_laws.proofs.GroupRows.{IsWrittenColumn, IsWrittenGroup, group_rows, group_accurate, group_ranges}

pub ways_are : (n : Group) → length (paths_of n) ≡ length (column_leaves true n)
ways_are n = paths_counted column_name n ∙ sym (column_leaf_count true n)

module _ (settings : Settings) (text : List ℕ) (n : Group) (column : FileColumn) (file back : List ℕ) (end : ℕ) (chosen : IsSettings settings) (schema : IsSchema text n) (is : IsWrittenColumn n column) where
  -- groups stand in the file from a place on
  pub record Follow (gs : List Rows) (place : ℕ) (front : List ℕ) : Type 0 where
    pub whole : file ≡ front ++ (bytes_of (format settings n) gs ++ back)
    pub at : place ≡ length front
    pub low : magic_bytes ≤ place
    pub high : place + length (bytes_of (format settings n) gs) ≤ end

  first_group : (g : Rows) (gs : List Rows) (place : ℕ) (front : List ℕ) → Follow (g ∷ gs) place front → IsSmall g → IsWrittenGroup settings n g (paths_of n) file place end
  first_group g gs place front follow small = record {
    each = small.each;
    few = small.few;
    ways = ways_are n;
    front = front;
    back = bytes_of (format settings n) gs ++ back;
    whole = follow.whole ∙ ap (λ (xs : List ℕ). front ++ xs) (append_assoc (concat (chunks_of settings n (records_of settings n g))) (bytes_of (format settings n) gs) back);
    at = follow.at;
    low = follow.low;
    high = omega (arith, follow.high, length-append (concat (chunks_of settings n (records_of settings n g))) (bytes_of (format settings n) gs));
  }

  later_groups : (g : Rows) (gs : List Rows) (place : ℕ) (front : List ℕ) → Follow (g ∷ gs) place front → Follow gs (place + length (concat (chunks_of settings n (records_of settings n g)))) (front ++ concat (chunks_of settings n (records_of settings n g)))
  later_groups g gs place front follow =
      let chunks : List ℕ = concat (chunks_of settings n (records_of settings n g)) in
      record {
        whole = follow.whole ∙ (ap (λ (xs : List ℕ). front ++ xs) (append_assoc chunks (bytes_of (format settings n) gs) back) ∙ sym (append_assoc front chunks (bytes_of (format settings n) gs ++ back)));
        at = omega (arith, follow.at, length-append front chunks);
        low = omega (arith, follow.low);
        high = omega (arith, follow.high, length-append chunks (bytes_of (format settings n) gs));
      }

  pub all_rows : (mask : ℕ → Bool) → ReadsAll mask n → (gs : List Rows) (place k : ℕ) (front : List ℕ) → Follow gs place front → AllByRecursion IsSmall gs → rows_in mask true n end column k (metas_of (format settings n) place gs) file ≡ Ok (joined gs)
  unfolding rows_in
  all_rows mask all [] place k front follow small = refl
  all_rows mask all (g ∷ gs) place k front follow small =
      let first : file_group_seen mask true n end column (struct_of settings n (paths_of n) place (records_of settings n g)) file ≡ Ok g =
      group_rows settings text n g (paths_of n) column file place end chosen schema is (first_group g gs place front follow small.0) mask all in
      let rest : rows_in mask true n end column (k + 1) (metas_of (format settings n) (place + length (concat (chunks_of settings n (records_of settings n g)))) gs) file ≡ Ok (joined gs) =
      all_rows mask all gs (place + length (concat (chunks_of settings n (records_of settings n g)))) (k + 1) (front ++ concat (chunks_of settings n (records_of settings n g))) (later_groups g gs place front follow) small.1 in
      λ i. in_group k (first i) >>= λ rows. rest i >>= λ later. Ok (rows ++ later)

  pub all_accurate : (gs : List Rows) (place : ℕ) (front : List ℕ) → Follow gs place front → AllByRecursion IsSmall gs → AllByRecursion (IsAccurateGroup n end column file) (metas_of (format settings n) place gs)
  all_accurate [] place front follow small = tt
  all_accurate (g ∷ gs) place front follow small = (
    group_accurate settings text n g (paths_of n) column file place end chosen schema is (first_group g gs place front follow small.0),
    all_accurate gs (place + length (concat (chunks_of settings n (records_of settings n g)))) (front ++ concat (chunks_of settings n (records_of settings n g))) (later_groups g gs place front follow) small.1,
  )

  pub all_ranges : (gs : List Rows) (place : ℕ) (front : List ℕ) → Follow gs place front → AllByRecursion IsSmall gs → AllByRecursion (HasRanges n end column) (metas_of (format settings n) place gs)
  all_ranges [] place front follow small = tt
  all_ranges (g ∷ gs) place front follow small = (
    group_ranges settings text n g (paths_of n) column file place end chosen schema is (first_group g gs place front follow small.0),
    all_ranges gs (place + length (concat (chunks_of settings n (records_of settings n g)))) (front ++ concat (chunks_of settings n (records_of settings n g))) (later_groups g gs place front follow) small.1,
  )
