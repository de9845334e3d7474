-- A file that is made of rows is valid, has these rows, and is honest.
use Rattle.std.proofs.Common.{◌≡◌, ◌∙◌, refl, sym, ap, subst, ℕ, suc, ◌+◌, ◌^◌, ◌<◌, ◌≤◌, ◌&&◌, true, List, [], ◌∷◌, ◌++◌, length, Option, Result, Ok, arith}
use Rattle.std.specs.Prelude.{pos}
use Rattle.std.specs.List.{AllByRecursion, concat, flat_map, list_all}
use Rattle.std.proofs.lemmas.Int.{ints}
use Rattle.std.proofs.lemmas.List.{append_assoc, append-nil, length-append, length-map}
use Rattle.std.proofs.lemmas.List.Elements.{All-from_recursion}
use Rattle.json_tree.specs.Json.{Json}
use Rattle.vs_bytes.specs.declared.rule.Rule.{Rule}
use Rattle.schema_elements.specs.FieldValues.{IsFlag}
use Rattle.schema_elements.specs.SchemaTrees.{are_trees, leaf_count, has_length}
use Rattle.footer_structs.specs.FooterWriting.{footer_bytes, group_bytes, GroupReadsBack, FooterReadsBack}
use Rattle.footer_structs.specs.ReadFooters.{footer, fields_fit, rows_fit, has_chunks, total_rows}
use Rattle.footer_structs.specs.declared.file_metadata.FileMeta.{FileMeta}
use Rattle.footer_structs.specs.declared.row_groups.GroupMeta.{GroupMeta}
use Rattle.footer_structs.proofs.FootersBack as footers
use Rattle.shred_schema.specs.Groups.{Group}
use Rattle.schema_parsing.specs.Grammar.{IsSchema}
use Rattle.schema_parsing.proofs.WrittenNodes.{schema_written}
use Rattle.file_columns.specs.Columns.{ColumnView, column_of}
use Rattle.file_columns.specs.Views.{shown}
use Rattle.file_columns.specs.declared.columns.FileColumn.{FileColumn}
use Rattle.written_columns.specs.Written.{written_view}
use Rattle.written_columns.proofs.Fits.{one_tree, leaves_are, have_lengths, schema_fits}
use Rattle.written_columns.proofs.Ways.{paths_counted}
use Rattle.written_columns.proofs.Whole.{written_back}
use Rattle.group_writing.specs.GroupChunks.{Path}
use Rattle.footer_structs.specs.Footers.{orders_in}
use Rattle.footer_structs.specs.FileEnds.{magic, footer_limit}
use Rattle.closed_groups.specs.ClosedGroups.{file_meta, ending_of}
use Rattle.closed_groups.proofs.FooterSizes.{groups_some, groups_within}
use Rattle.open_group.specs.declared.settings.Settings.{Settings}
use Rattle.open_group.specs.Filling.{is_full}
use Rattle.open_group.specs.OpenGroups.{IsSettings}
use Rattle.store_write.specs.Cutting.{cut_of, groups_of}
use Rattle.store_write.specs.Made.{column_name, schema_of, paths_of, orders_of, format, made}
use Rattle.thrift_footer.specs.Opening.{begin_of, opened, opening}
use Rattle.thrift_footer.specs.declared.opening.Opened.{Opened}
use Rattle.reading_laws.specs.Documents.{IsDocument}
use Rattle.reading_laws.proofs.WrittenGroups.{schema_well_formed}
use Rattle.store_laws.specs.Accuracy.{IsAccurateGroup}
use Rattle.store_laws.specs.ValidFiles.{IsValid, IsHonest, HasRanges, AllInRange}
use Rattle.store_laws.proofs.Bodies.{Rows, bytes_of, metas_of, IsMade, made_has}
use Rattle.store_laws.proofs.Counts.{bytes_few, rows_counted}
use Rattle.store_laws.proofs.Cuts.{IsSmall, AreGroups, groups_are}
use Rattle.store_laws.proofs.ElementsBack.{elements_back}
use Rattle.store_laws.proofs.FooterShort.{short_footer}
use Rattle.store_laws.proofs.Files.{Follow, all_rows, all_accurate, all_ranges}
use Rattle.store_laws.proofs.GroupRows.{IsWrittenColumn}
use Rattle.store_laws.proofs.GroupsBack.{size_fits, same_number, both_pass, groups_back, have_chunks}
use Rattle.store_laws.proofs.NodeNames.{IsNamed, plain_named, schema_named}
use Rattle.store_laws.proofs.Opens.{end_is, opens}
use Rattle.store_laws.proofs.PathsBack.{IsPath, paths_back}

doc_named : IsNamed column_name
doc_named = plain_named column_name refl (omega arith)

flags : (paths : List Path) → AllByRecursion IsFlag (orders_of paths)
flags [] = tt
flags (path ∷ paths) = ((omega (arith, ints), omega (arith, ints)), flags paths)

-- The footer reads back.
module _ (settings : Settings) (text : List ℕ) (n : Group) (chosen : IsSettings settings) (schema : IsSchema text n) (gs : List Rows) (small : AllByRecursion IsSmall gs) (short : length (footer_bytes (file_meta (schema_of n) (orders_of (paths_of n)) (metas_of (format settings n) 4 gs))) ≤ footer_limit) where
  within : length (flat_map group_bytes (metas_of (format settings n) 4 gs)) ≤ footer_limit
  within = omega (arith, groups_within (file_meta (schema_of n) (orders_of (paths_of n)) (metas_of (format settings n) 4 gs)), short)

  ways : AllByRecursion IsPath (paths_of n)
  ways = paths_back column_name n doc_named.short (schema_named text n schema) (schema_well_formed text n schema).deep

  end_low : 4 + length (bytes_of (format settings n) gs) < 2 ^ 63
  end_low = omega (arith, bytes_few settings text n chosen schema gs 4 small, within)

  all_fields : fields_fit (file_meta (schema_of n) (orders_of (paths_of n)) (metas_of (format settings n) 4 gs)) ≡ true
  unfolding fields_fit
  all_fields =
      both_pass (are_trees 1 (schema_of n) && list_all has_length (schema_of n)) (list_all (has_chunks (leaf_count (schema_of n))) (metas_of (format settings n) 4 gs))
      (both_pass (are_trees 1 (schema_of n)) (list_all has_length (schema_of n)) (one_tree true column_name n (schema_well_formed text n schema)) (have_lengths true column_name n (schema_written text n schema)))
      (have_chunks settings text n chosen schema (schema_well_formed text n schema) ways (leaf_count (schema_of n)) (leaves_are true column_name n) gs 4)

  all_counted : rows_fit (file_meta (schema_of n) (orders_of (paths_of n)) (metas_of (format settings n) 4 gs)) ≡ true
  unfolding rows_fit
  all_counted = same_number (total_rows (metas_of (format settings n) 4 gs)) (total_rows (metas_of (format settings n) 4 gs)) refl

  reads : FooterReadsBack (file_meta (schema_of n) (orders_of (paths_of n)) (metas_of (format settings n) 4 gs))
  reads = record {
    version = omega arith;
    schema = (schema_fits true column_name n (schema_written text n schema) (schema_well_formed text n schema)).size;
    element = elements_back true column_name n doc_named (schema_written text n schema) (schema_named text n schema);
    num_rows = size_fits (total_rows (metas_of (format settings n) 4 gs)) (omega (arith, rows_counted settings text n chosen schema gs 4 small, within));
    row_groups = omega (arith, groups_some (metas_of (format settings n) 4 gs), within);
    group = All-from_recursion GroupReadsBack (metas_of (format settings n) 4 gs) (groups_back settings text n chosen schema (schema_well_formed text n schema) ways gs 4 small end_low);
    created_by = omega arith;
    column_orders = record {
      size = omega (arith, length-map (paths_of n) (λ path. pos 1), paths_counted column_name n, (schema_well_formed text n schema).few);
      order = All-from_recursion IsFlag (orders_of (paths_of n)) (flags (paths_of n));
    };
    fields = all_fields;
    rows = all_counted;
  }

  pub footer_back : footer (footer_bytes (file_meta (schema_of n) (orders_of (paths_of n)) (metas_of (format settings n) 4 gs))) ≡ Ok (file_meta (schema_of n) (orders_of (paths_of n)) (metas_of (format settings n) 4 gs))
  footer_back =
      let meta : FileMeta = file_meta (schema_of n) (orders_of (paths_of n)) (metas_of (format settings n) 4 gs) in
      ap footer (sym (append-nil (footer_bytes meta))) ∙ footers.footer_reads_back meta [] reads

metas_counted : (settings : Settings) (n : Group) (gs : List Rows) (place : ℕ) → length (metas_of (format settings n) place gs) ≡ length gs
metas_counted settings n [] place = refl
metas_counted settings n (g ∷ gs) place = ap suc (metas_counted settings n gs (place + length (concat ((format settings n).chunks g))))

ok_opened : (a b : Opened) → ◌≡◌ {A = Result Opened Rule} (Ok a) (Ok b) → a ≡ b
ok_opened a b e = cc

ok_view : (a b : ColumnView) → ◌≡◌ {A = Result ColumnView Rule} (Ok a) (Ok b) → a ≡ b
ok_view a b e = cc

-- The file.
module _ (settings : Settings) (text : List ℕ) (n : Group) (rows : List (Option Json)) (file : List ℕ) (chosen : IsSettings settings) (schema : IsSchema text n) (documents : AllByRecursion (IsDocument true) rows) (is : made settings n rows ≡ Ok file) where
  abbrev groups : List Rows
  groups = groups_of (cut_of (is_full settings n) rows)

  are : AreGroups settings n groups rows
  are = groups_are settings n rows documents

  file_made : IsMade (format settings n) groups file
  file_made = made_has (format settings n) (groups_of (cut_of (is_full settings n) rows)) file is

  abbrev meta : FileMeta
  meta = file_meta (schema_of n) (orders_of (paths_of n)) (metas_of (format settings n) 4 groups)

  abbrev foot : List ℕ
  foot = footer_bytes (file_meta (schema_of n) (orders_of (paths_of n)) (metas_of (format settings n) 4 groups))

  abbrev body : List ℕ
  body = magic ++ bytes_of (format settings n) groups

  same_foot : footer_bytes (file_meta (schema_of n) (orders_of (paths_of n)) file_made.body.metas) ≡ foot
  same_foot = ap (λ (metas : List GroupMeta). footer_bytes (file_meta (schema_of n) (orders_of (paths_of n)) metas)) file_made.has.metas

  file_is : file ≡ body ++ ending_of foot
  file_is = file_made.file_is ∙ (ap (λ (xs : List ℕ). xs ++ ending_of (footer_bytes (file_meta (schema_of n) (orders_of (paths_of n)) file_made.body.metas))) file_made.has.bytes ∙ ap (λ (xs : List ℕ). (magic ++ bytes_of (format settings n) groups) ++ ending_of xs) same_foot)

  short : length foot ≤ footer_limit
  short = omega (arith, file_made.has.short (λ none. short_footer text n schema), ap length same_foot)

  abbrev opened_as : Opened
  opened_as = opened (length file) (length foot) meta

  file_opens : opening file ≡ Ok opened_as
  file_opens = opens body (bytes_of (format settings n) groups) foot file meta refl file_is short (footer_back settings text n chosen schema groups are.small short)

  abbrev view : ColumnView
  view = written_view true n (orders_of (paths_of n))

  column_is : column_of meta.schema column_name (orders_of (paths_of n)) ≡ Ok view
  column_is = written_back true column_name n (orders_of (paths_of n)) (schema_written text n schema) (schema_well_formed text n schema)

  follow : (column : FileColumn) (w : IsWrittenColumn n column) → Follow settings text n column file (ending_of foot) (begin_of (length file) (length foot)) chosen schema w groups 4 magic
  follow column w = record {
    whole = file_is ∙ append_assoc magic (bytes_of (format settings n) groups) (ending_of foot);
    at = refl;
    low = omega arith;
    high = omega (arith, end_is (magic ++ bytes_of (format settings n) groups) foot file file_is, length-append magic (bytes_of (format settings n) groups));
  }

  read_column : (column : FileColumn) → shown column ≡ view → IsWrittenColumn n column
  read_column column same = record { leaves = ap (λ (v : ColumnView). v.leaves) same; places = ap (λ (v : ColumnView). v.places) same }

  pub file_valid : IsValid file column_name rows
  file_valid = record {
    opened = opened_as;
    view = view;
    opens = file_opens;
    has_column = column_is;
    groups = λ column mask same all.
        all_rows settings text n column file (ending_of foot) (begin_of (length file) (length foot)) chosen schema (read_column column same) mask all groups 4 0 magic (follow column (read_column column same)) are.small
        ∙ ap (λ (found : Rows). Ok found) are.whole;
  }

  accurate : (column : FileColumn) → shown column ≡ view → AllByRecursion (IsAccurateGroup (shown column).node (begin_of (length file) (length foot)) column file) meta.row_groups
  accurate column same =
      subst (λ (v : ColumnView). AllByRecursion (IsAccurateGroup v.node (begin_of (length file) (length foot)) column file) meta.row_groups) (sym same)
      (all_accurate settings text n column file (ending_of foot) (begin_of (length file) (length foot)) chosen schema (read_column column same) groups 4 magic (follow column (read_column column same)) are.small)

  pub file_honest : IsHonest file column_name
  file_honest other column opens_as has =
      subst (λ (o : Opened). column_of o.meta.schema column_name (orders_in o.meta.column_orders) ≡ Ok (shown column) → AllByRecursion (IsAccurateGroup (shown column).node o.end column file) o.meta.row_groups)
      (ok_opened opened_as other (sym file_opens ∙ opens_as))
      (λ found. accurate column (ok_view (shown column) view (sym found ∙ column_is)))
      has

  pub file_column : (other : Opened) → opening file ≡ Ok other → column_of other.meta.schema column_name (orders_in other.meta.column_orders) ≡ Ok view
  file_column other opens_as =
      subst (λ (o : Opened). column_of o.meta.schema column_name (orders_in o.meta.column_orders) ≡ Ok view) (ok_opened opened_as other (sym file_opens ∙ opens_as)) column_is

  pub file_groups : (other : Opened) → opening file ≡ Ok other → length other.meta.row_groups ≡ length (groups_of (cut_of (is_full settings n) rows))
  file_groups other opens_as =
      ap (λ (o : Opened). length o.meta.row_groups) (ok_opened other opened_as (sym opens_as ∙ file_opens)) ∙ metas_counted settings n (groups_of (cut_of (is_full settings n) rows)) 4

  ranges : (column : FileColumn) → shown column ≡ view → AllByRecursion (HasRanges (shown column).node (begin_of (length file) (length foot)) column) meta.row_groups
  ranges column same =
      subst (λ (v : ColumnView). AllByRecursion (HasRanges v.node (begin_of (length file) (length foot)) column) meta.row_groups) (sym same)
      (all_ranges settings text n column file (ending_of foot) (begin_of (length file) (length foot)) chosen schema (read_column column same) groups 4 magic (follow column (read_column column same)) are.small)

  pub file_ranges : AllInRange file column_name
  file_ranges other column opens_as has =
      subst (λ (o : Opened). column_of o.meta.schema column_name (orders_in o.meta.column_orders) ≡ Ok (shown column) → AllByRecursion (HasRanges (shown column).node o.end column) o.meta.row_groups)
      (ok_opened opened_as other (sym file_opens ∙ opens_as))
      (λ found. ranges column (ok_view (shown column) view (sym found ∙ column_is)))
      has
