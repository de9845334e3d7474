-- Files that are made of rows, as calls on files see them.
use Rattle.std.proofs.Common.{◌≡◌, sym, subst, ℕ, true, List, length, Option, Ok}
use Rattle.std.specs.List.{AllByRecursion}
use Rattle.json_tree.specs.Json.{Json}
use Rattle.query_tree.specs.Asked.{Asked}
use Rattle.path_query.specs.Answer.{answer_of}
use Rattle.shred_schema.specs.Groups.{Group}
use Rattle.schema_parsing.specs.Grammar.{IsSchema}
use Rattle.open_group.specs.Filling.{is_full}
use Rattle.open_group.specs.OpenGroups.{IsSettings}
use Rattle.open_group.specs.declared.settings.Settings.{Settings}
use Rattle.store_write.specs.Cutting.{cut_of, groups_of}
use Rattle.store_write.specs.Made.{column_name, made}
use Rattle.thrift_footer.specs.Opening.{IsFile}
use Rattle.reading_laws.specs.Documents.{IsDocument}
use Rattle.command_parsing.specs.Commands.{FileQuery}
use Rattle.command_words.specs.Check.{CheckGiven}
use Rattle.store_laws.specs.ValidFiles.{IsValid}
use Rattle.store_laws.proofs.MadeFiles.{file_valid, file_groups}
use Rattle.store_file.specs.SeenGroups.{all_found}
use Rattle.store_file.specs.FileCalls.{Counts, rows_seen, lines_seen}
use Rattle.store_file.specs.declared.store_file.StoreFile.{StoreFile}
use Rattle.file_answers.specs.Beginning.{Readout}
use Rattle.file_answers.specs.Completing.{IsAnswerable, IsJudgeable}
use Rattle.file_laws.specs.Begun.{IsBegunFrom, CanBegin}
use Rattle.file_laws.proofs.ValidRows.{valid_rows}
use Rattle.file_laws.proofs.ValidFiles.{valid_begins, valid_lines, valid_counts, valid_answerable, valid_judgeable}

module _ (settings : Settings) (text : List ℕ) (n : Group) (rows : List (Option Json)) (file : List ℕ) (chosen : IsSettings settings) (schema : IsSchema text n) (documents : AllByRecursion (IsDocument true) rows) (is : made settings n rows ≡ Ok file) where
  valid : IsValid file column_name rows
  valid = file_valid settings text n rows file chosen schema documents is

  pub made_begins : CanBegin column_name file
  made_begins = valid_begins column_name file rows valid

  pub made_rows : (f : StoreFile) → IsBegunFrom column_name file f → rows_seen f file ≡ all_found rows
  made_rows f b = valid_rows column_name file rows f valid b

  pub made_lines : (f : StoreFile) (asked : Asked) → IsBegunFrom column_name file f → lines_seen f asked file ≡ all_found (answer_of asked rows)
  made_lines f asked b = valid_lines column_name file rows asked f valid b

  pub made_groups : (v : IsValid file column_name rows) → length v.opened.meta.row_groups ≡ length (groups_of (cut_of (is_full settings n) rows))
  made_groups v = file_groups settings text n rows file chosen schema documents is v.opened v.opens

  pub made_counts : (f : StoreFile) → IsBegunFrom column_name file f → Counts f file (length (groups_of (cut_of (is_full settings n) rows))) (length rows)
  made_counts f b = subst (λ (count : ℕ). Counts f file count (length rows)) (made_groups valid) (valid_counts column_name file rows f valid b)

  pub made_answerable : (query : FileQuery) (before : Readout) → query.column ≡ column_name → IsFile before.shelf.files query.file file → IsAnswerable query before
  made_answerable query before same there = valid_answerable query before file rows there (subst (λ (name : List ℕ). IsValid file name rows) (sym same) valid)

  pub made_judgeable : (check : CheckGiven) (before : Readout) → check.column ≡ column_name → IsFile before.shelf.files check.file file → IsJudgeable check before
  made_judgeable check before same there = valid_judgeable check before file rows there (subst (λ (name : List ℕ). IsValid file name rows) (sym same) valid)
