-- How many rows, chunks and bytes the groups of a file have, by the length of its footer.
use Rattle.std.proofs.Common.{◌≡◌, refl, ℕ, ◌+◌, ◌*◌, ◌^◌, ◌≤◌, true, List, [], ◌∷◌, length, Option, arith}
use Rattle.std.specs.List.{AllByRecursion, concat, flat_map}
use Rattle.std.proofs.lemmas.List.{length-append, length-map}
use Rattle.std.proofs.lemmas.List.Sums.{sum_by-cons}
use Rattle.json_tree.specs.Json.{Json}
use Rattle.footer_structs.specs.FooterWriting.{group_bytes}
use Rattle.footer_structs.specs.ReadFooters.{total_rows}
use Rattle.footer_structs.specs.declared.row_groups.GroupMeta.{GroupMeta}
use Rattle.shred_schema.specs.Groups.{Group}
use Rattle.shredder.specs.Shredded.{shred_row}
use Rattle.schema_parsing.specs.Grammar.{IsSchema}
use Rattle.striping_laws.specs.Rows.{texts_len}
use Rattle.striping_laws.proofs.WrittenRows.{all_written}
use Rattle.group_writing.specs.GroupChunks.{chunks_size}
use Rattle.closed_groups.proofs.FooterSizes.{group_more}
use Rattle.open_group.specs.declared.settings.Settings.{Settings}
use Rattle.open_group.specs.Filling.{records_of}
use Rattle.open_group.specs.OpenGroups.{IsSettings}
use Rattle.open_group.proofs.Sizes.{group_sized}
use Rattle.store_write.specs.Made.{paths_of, chunks_of, struct_of, format}
use Rattle.reading_laws.proofs.WrittenGroups.{documents_can_be}
use Rattle.store_laws.proofs.Bodies.{Rows, bytes_of, metas_of}
use Rattle.store_laws.proofs.Cuts.{IsSmall}
use Rattle.store_laws.proofs.Files.{ways_are}

pub size_joined : (chunks : List (List ℕ)) → length (concat chunks) ≡ chunks_size chunks
size_joined [] = refl
size_joined (chunk ∷ chunks) = omega (arith, length-append chunk (concat chunks), size_joined chunks, sum_by-cons (length {A = ℕ}) chunk chunks)

pub rows_few : (rows : List (Option Json)) → length rows ≤ texts_len rows
rows_few [] = omega arith
rows_few (row ∷ rows) = omega (arith, rows_few rows)

module _ (settings : Settings) (text : List ℕ) (n : Group) (chosen : IsSettings settings) (schema : IsSchema text n) where
  -- the chunks of a group
  pub chunks_short : (place : ℕ) (g : Rows) → IsSmall g → length (concat (chunks_of settings n (records_of settings n g))) ≤ 2 ^ 30 * length (struct_of settings n (paths_of n) place (records_of settings n g)).columns
  chunks_short place g small =
      let sized = group_sized n (paths_of n) settings.page_bytes place (texts_len g) (records_of settings n g) (all_written true text n settings.widths g schema chosen.widths (documents_can_be true g small.each)) small.few chosen.pages (ways_are n) in
      omega (arith, sized, size_joined (chunks_of settings n (records_of settings n g)))

  pub bytes_few : (gs : List Rows) (place : ℕ) → AllByRecursion IsSmall gs → length (bytes_of (format settings n) gs) ≤ 2 ^ 30 * length (flat_map group_bytes (metas_of (format settings n) place gs))
  bytes_few [] place small = omega arith
  bytes_few (g ∷ gs) place small =
      let chunks : List ℕ = concat (chunks_of settings n (records_of settings n g)) in
      let group : GroupMeta = struct_of settings n (paths_of n) place (records_of settings n g) in
      let first = chunks_short place g small.0 in
      let rest = bytes_few gs (place + length chunks) small.1 in
      omega (arith, first, rest, group_more group, length-append chunks (bytes_of (format settings n) gs), length-append (group_bytes group) (flat_map group_bytes (metas_of (format settings n) (place + length chunks) gs)))

  pub rows_counted : (gs : List Rows) (place : ℕ) → AllByRecursion IsSmall gs → total_rows (metas_of (format settings n) place gs) ≤ 2 ^ 25 * length (flat_map group_bytes (metas_of (format settings n) place gs))
  unfolding total_rows
  rows_counted [] place small = omega arith
  rows_counted (g ∷ gs) place small =
      let chunks : List ℕ = concat (chunks_of settings n (records_of settings n g)) in
      let group : GroupMeta = struct_of settings n (paths_of n) place (records_of settings n g) in
      let rest = rows_counted gs (place + length chunks) small.1 in
      let first : length (records_of settings n g) ≤ 2 ^ 25 = omega (arith, length-map g (λ row. shred_row n row settings.widths), rows_few g, small.0.few) in
      omega (arith, first, rest, group_more group, length-append (group_bytes group) (flat_map group_bytes (metas_of (format settings n) (place + length chunks) gs)))
