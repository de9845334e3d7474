-- The ends of a load.
use Rattle.std.proofs.Common.{◌≡◌, ◌∙◌, ◌⊎◌, inl, inr, refl, sym, ap, subst, ℕ, ◌+◌, ◌≤◌, List, [], ◌∷◌, ◌++◌, length, take, Option, Some, Ok, Err, append_assoc, append-nil, arith}
use Rattle.std.proofs.lemmas.List.{take_all}
use Rattle.std.proofs.Math.Seq.{take-append-add}
use Rattle.outside.specs.Devices.{Device, IsCalm}
use Rattle.json_tree.specs.Json.{Json}
use Rattle.json_documents.specs.Documents.{at_end, HasDocuments}
use Rattle.json_documents.specs.Input.{OfInput, Begins, GivesAll, Stops, Faulted}
use Rattle.json_documents.specs.declared.faults.InputFault.{InputFault}
use Rattle.json_documents.specs.declared.faults.Stop.TheVariants.{Input, Taker}
use Rattle.command_parsing.specs.Commands.{Load, load_of}
use Rattle.command_parsing.specs.declared.load.LoadCommand.{LoadCommand}
use Rattle.open_group.specs.OpenGroups.{IsSettings}
use Rattle.striping_laws.specs.Rows.{min_page_bytes}
use Rattle.shelf.specs.Storage.{Storage, Has, Lacks, with_file, appended, FailsWrite}
use Rattle.shred_schema.specs.Groups.{Group}
use Rattle.shelf.proofs.Appending.{has_created, has_appended}
use Rattle.footer_structs.specs.FileEnds.{magic}
use Rattle.store_write.specs.Cutting.{cut_of}
use Rattle.store_write.specs.Frames.{body_of, made}
use Rattle.store_write.specs.Made as written
use Rattle.store_write.specs.Writers.{Stands, name_of, node_in, settings_in}
use Rattle.store_write.specs.Steps as step
use Rattle.store_write.specs.Steps.{Keeps, AreClosed, NotBegun, NotTaken, NotEnded, Gains, CutsRow, CutsEnd, Completes, format_in}
use Rattle.store_write.proofs.Steps.{with_more, closed_by}
use Rattle.store_write.specs.declared.file_writer.FileWriter.{FileWriter}
use Rattle.open_group.specs.declared.settings.Settings.{Settings}
use Rattle.store_write.specs.declared.write_error.WriteError.{WriteError}
use Rattle.store_write.specs.declared.write_error.WriteError.TheVariants.{Taken, Failed, FooterFull, NoMemory, Broken}
use Rattle.document_loading.specs.Taken.{rows_of, Took}
use Rattle.document_loading.specs.Loading.{intake, settings_of, format, Leaves, IsClosed, WritesPart, Loads}

-- a writer of this load has written these bytes of these documents
pub record IsAt (load : Load) (first now : Storage) (v : FileWriter) (documents : List Json) : Type 0 where
  pub bytes : List ℕ
  pub fresh : Lacks first.files load.out
  pub grown : now ≡ record first { files = with_file first.files load.out bytes }
  pub stands : Stands v bytes (rows_of documents)
  pub name : name_of v ≡ load.out
  pub same : format_in v ≡ format load

same_format : (load : Load) (v : FileWriter) → node_in v ≡ load.schema → settings_in v ≡ settings_of load → format_in v ≡ format load
same_format load v e f = ap (λ (s : Settings). written.format s (node_in v)) f ∙ ap (λ (n : Group). written.format (settings_of load) n) e

pub has_begun : (load : Load) (node : Group) (settings : Settings) (first s : Storage) (w : FileWriter) → step.Begins first s load.out node settings w → Has s.files (name_of w)
has_begun load node settings first s w b = subst (λ (name : List ℕ). Has s.files name) (sym b.is_for.named) (subst (λ (r : Storage). Has r.files load.out) (sym b.grown) (has_created first.files load.out magic))

put_at : Storage → List ℕ → List ℕ → Storage
put_at s name bytes = record s { files = with_file s.files name bytes }

add_at : Storage → List ℕ → List ℕ → Storage
add_at s name more = record s { files = appended s.files name more }

added : (s : Storage) (name bytes more : List ℕ) → add_at (put_at s name bytes) name more ≡ put_at s name (bytes ++ more)
unfolding put_at add_at
added s name bytes more = ap (λ files. record s { files = files }) (with_more s.files name bytes more)

-- after the start, documents were taken
pub is_at : (load : Load) (node : Group) (settings : Settings) (first s t : Storage) (w v : FileWriter) (ds : List Json) → step.Begins first s load.out node settings w → node ≡ load.schema → settings ≡ settings_of load → Took s w ds v t → IsAt load first t v ds
unfolding put_at add_at
is_at load node settings first s t w v ds b e h f = record {
  bytes = magic ++ f.more;
  fresh = b.fresh;
  grown = f.grown ∙ ap (λ (name : List ℕ). add_at s name f.more) b.is_for.named ∙ ap (λ (r : Storage). add_at r load.out f.more) b.grown ∙ added first load.out magic f.more;
  stands = f.stands magic [] b.stands;
  name = f.keeps.name ∙ b.is_for.named;
  same = same_format load v (f.keeps.node ∙ b.is_for.of ∙ e) (f.keeps.settings ∙ b.is_for.chosen ∙ h);
}

-- the file is still there
pub still_there : (s t : Storage) (w v : FileWriter) (ds : List Json) → Has s.files (name_of w) → Took s w ds v t → Has t.files (name_of v)
still_there s t w v ds has f = subst (λ (name : List ℕ). Has t.files name) (sym f.keeps.name) (subst (λ (r : Storage). Has r.files (name_of w)) (sym f.grown) (has_appended s.files (name_of w) f.more))

-- what stands there, in the words of the load

closed_at : (load : Load) (first t : Storage) (v : FileWriter) (ds : List Json) (a : IsAt load first t v ds) → IsClosed load (rows_of ds) a.bytes
closed_at load first t v ds a = subst (λ f. AreClosed f (rows_of ds) a.bytes) a.same (closed_by v a.bytes (rows_of ds) a.stands)

counts_at : (load : Load) (first t : Storage) (v : FileWriter) (ds : List Json) → IsAt load first t v ds → t.counts ≡ first.counts
counts_at load first t v ds a = ap (λ (s : Storage). s.counts) a.grown

leaves_at : (load : Load) (first t : Storage) (v : FileWriter) (ds : List Json) (a : IsAt load first t v ds) → Leaves first t load.out a.bytes
leaves_at load first t v ds a = record { fresh = a.fresh; files = ap (λ (s : Storage). s.files) a.grown; touched = ap (λ (s : Storage). s.touched) a.grown }

-- and after more bytes
files_more : (load : Load) (first t u : Storage) (v : FileWriter) (ds : List Json) (more : List ℕ) (a : IsAt load first t v ds) → u.files ≡ appended t.files (name_of v) more → u.files ≡ with_file first.files load.out (a.bytes ++ more)
files_more load first t u v ds more a e =
    e ∙ ap (λ (name : List ℕ). appended t.files name more) a.name ∙ ap (λ (s : Storage). appended s.files load.out more) a.grown ∙ with_more first.files load.out a.bytes more

leaves_more : (load : Load) (first t u : Storage) (v : FileWriter) (ds : List Json) (more : List ℕ) (a : IsAt load first t v ds) → u.files ≡ appended t.files (name_of v) more → u.touched ≡ t.touched → Leaves first u load.out (a.bytes ++ more)
leaves_more load first t u v ds more a e f = record { fresh = a.fresh; files = files_more load first t u v ds more a e; touched = f ∙ ap (λ (s : Storage). s.touched) a.grown }

-- documents of an input begin it

begins_all : (input : List ℕ) (left : Option (List ℕ)) (ds : List Json) → GivesAll input left ds → Begins input ds
begins_all input left ds g = ([], at_end, subst (λ (es : List Json). HasDocuments input es at_end) (sym (append-nil ds)) g.0)

begins_less : (input : List ℕ) (ds : List Json) (d : Json) → Begins input (ds ++ d ∷ []) → Begins input ds
begins_less input ds d b = (d ∷ b.0, b.1, subst (λ (es : List Json). HasDocuments input es b.1) (append_assoc ds (d ∷ []) b.0) b.2)

rows_more : (ds : List Json) (d : Json) → rows_of (ds ++ d ∷ []) ≡ rows_of ds ++ Some d ∷ []
rows_more [] d = refl
rows_more (e ∷ ds) d = ap (λ (rs : List (Option Json)). Some e ∷ rs) (rows_more ds d)

-- a first part of nothing more
part_none : (bytes more : List ℕ) (k : ℕ) → more ≡ [] → bytes ++ take k more ≡ take (length bytes) bytes
part_none bytes more k e = ap (λ (m : List ℕ). bytes ++ take k m) e ∙ nothing k ∙ sym (take_all (length bytes) bytes (omega arith))
  where
    nothing : (k : ℕ) → bytes ++ take k [] ≡ bytes
    nothing k = ap (λ (m : List ℕ). bytes ++ m) (grind arith) ∙ append-nil bytes

-- ---- the exits

pub not_started : (load : Load) (first s : Storage) (i : Device) (fault : WriteError) → NotBegun first s load.out fault → Loads load (intake first i) (intake s i) (Err (Taker fault))
not_started load first s i Taken h = (h.0, h.1, h.2, refl)
not_started load first s i Failed h = (inl (h.0, refl), h.1, refl)
not_started load first s i (FooterFull n) h = absurd h
not_started load first s i NoMemory h = (inl (h.0, refl), (h.1, refl))
not_started load first s i (Broken why) h = absurd h

pub stopped : (load : Load) (first t : Storage) (i j : Device) (v : FileWriter) (why : InputFault) (ds : List Json) → IsAt load first t v ds → OfInput i.bytes (λ input. Stops input j.bytes ds why) → Faulted i j why
    → Loads load (intake first i) (intake t j) (Err (Input why))
stopped load first t i j v why ds a known faulted =
    (record { documents = ds; are_of = known; bytes = a.bytes; is_file = closed_at load first t v ds a; leaves = leaves_at load first t v ds a }, counts_at load first t v ds a, faulted)

pub ended : (load : Load) (first t u : Storage) (i j : Device) (v : FileWriter) (ds : List Json) → IsAt load first t v ds → OfInput i.bytes (λ input. GivesAll input j.bytes ds) → IsCalm i j → Completes t u v
    → Loads load (intake first i) (intake u j) (Ok tt)
ended load first t u i j v ds a known calm e = (
  record {
    documents = ds;
    are_of = known;
    bytes = a.bytes ++ e.more;
    is_file = subst (λ f. made f (rows_of ds) ≡ Ok (a.bytes ++ e.more)) a.same (e.whole a.bytes (rows_of ds) a.stands);
    leaves = leaves_more load first t u v ds e.more a (ap (λ (s : Storage). s.files) e.grown) (ap (λ (s : Storage). s.touched) e.grown);
  },
  (ap (λ (s : Storage). s.counts) e.grown ∙ counts_at load first t v ds a, calm),
)

-- a first part of the groups of documents, or of the whole file

part_closed : (load : Load) (first t u : Storage) (i j : Device) (v : FileWriter) (ds all : List Json) (more : List ℕ) (a : IsAt load first t v ds) (g : Gains t u (name_of v) more) → OfInput i.bytes (λ input. Begins input all)
    → (whole : List ℕ) (count : ℕ) → IsClosed load (rows_of all) whole → a.bytes ++ take g.count more ≡ take count whole → WritesPart load (intake first i) (intake u j)
part_closed load first t u i j v ds all more a g known whole count closed e = inl (record {
  documents = all;
  are_of = known;
  bytes = a.bytes ++ take g.count more;
  is_file = record { whole = whole; is_whole = closed; count = count; is_part = e };
  leaves = leaves_more load first t u v ds (take g.count more) a g.files g.touched;
})

part_none_of : (load : Load) (first t u : Storage) (i j : Device) (v : FileWriter) (ds : List Json) (more : List ℕ) (a : IsAt load first t v ds) (g : Gains t u (name_of v) more) → OfInput i.bytes (λ input. Begins input ds) → more ≡ []
    → WritesPart load (intake first i) (intake u j)
part_none_of load first t u i j v ds more a g known none =
    part_closed load first t u i j v ds ds more a g known a.bytes (length a.bytes) (closed_at load first t v ds a) (part_none a.bytes more g.count none)

part_at_end : (load : Load) (first t u : Storage) (i j : Device) (v : FileWriter) (ds : List Json) → IsAt load first t v ds → OfInput i.bytes (λ input. GivesAll input j.bytes ds) → CutsEnd t u v → WritesPart load (intake first i) (intake u j)
part_at_end load first t u i j v ds a known e = by (e.part a.bytes (rows_of ds) a.stands)
  where
    by : (e.more ≡ []) ⊎ (made (format_in v) (rows_of ds) ≡ Ok (a.bytes ++ e.more)) → WritesPart load (intake first i) (intake u j)
    by (inl none) = part_none_of load first t u i j v ds e.more a e.gains (λ input is. begins_all input j.bytes ds (known input is)) none
    by (inr whole) = inr (record {
      documents = ds;
      are_of = known;
      bytes = a.bytes ++ take e.gains.count e.more;
      is_file = record {
        whole = a.bytes ++ e.more;
        is_whole = subst (λ f. made f (rows_of ds) ≡ Ok (a.bytes ++ e.more)) a.same whole;
        count = length a.bytes + e.gains.count;
        is_part = sym (take-append-add a.bytes e.more e.gains.count);
      };
      leaves = leaves_more load first t u v ds (take e.gains.count e.more) a e.gains.files e.gains.touched;
    })

part_cut : (load : Load) (first t u : Storage) (i j : Device) (v : FileWriter) (ds : List Json) (d : Json) → IsAt load first t v ds → OfInput i.bytes (λ input. Begins input (ds ++ d ∷ [])) → CutsRow t u v (Some d) → WritesPart load (intake first i) (intake u j)
part_cut load first t u i j v ds d a known e = by (e.chunks a.bytes (rows_of ds) a.stands)
  where
    by : (e.more ≡ []) ⊎ AreClosed (format_in v) (rows_of ds ++ Some d ∷ []) (a.bytes ++ e.more) → WritesPart load (intake first i) (intake u j)
    by (inl none) = part_none_of load first t u i j v ds e.more a e.gains (λ input is. begins_less input ds d (known input is)) none
    by (inr closed) =
        part_closed load first t u i j v ds (ds ++ d ∷ []) e.more a e.gains known (a.bytes ++ e.more) (length a.bytes + e.gains.count)
        (subst (λ (rs : List (Option Json)). IsClosed load rs (a.bytes ++ e.more)) (sym (rows_more ds d)) (subst (λ f. AreClosed f (rows_of ds ++ Some d ∷ []) (a.bytes ++ e.more)) a.same closed)) (sym (take-append-add a.bytes e.more e.gains.count))

fails_from : (load : Load) (first t u : Storage) (v : FileWriter) (ds : List Json) → IsAt load first t v ds → FailsWrite t.counts u.counts → FailsWrite first.counts u.counts
fails_from load first t u v ds a f = subst (λ c. FailsWrite c u.counts) (counts_at load first t v ds a) f

pub not_ended : (load : Load) (first t u : Storage) (i j : Device) (v : FileWriter) (fault : WriteError) (ds : List Json) → IsAt load first t v ds → OfInput i.bytes (λ input. GivesAll input j.bytes ds) → IsCalm i j → NotEnded t u v fault
    → Loads load (intake first i) (intake u j) (Err (Taker fault))
not_ended load first t u i j v Taken ds a known calm h = absurd h
not_ended load first t u i j v Failed ds a known calm h = (inr (part_at_end load first t u i j v ds a known h.0), fails_from load first t u v ds a h.1, calm)
not_ended load first t u i j v (FooterFull n) ds a known calm h = (
  inr (record {
    documents = ds;
    are_of = known;
    bytes = a.bytes;
    is_file = record { closed = closed_at load first t v ds a; long = subst (λ f. made f (rows_of ds) ≡ Err n) a.same (h.long a.bytes (rows_of ds) a.stands) };
    leaves = subst (λ (s : Storage). Leaves first s load.out a.bytes) (sym h.untouched) (leaves_at load first t v ds a);
  }),
  (ap (λ (s : Storage). s.counts) h.untouched ∙ counts_at load first t v ds a, calm),
)
not_ended load first t u i j v NoMemory ds a known calm h = (inr (part_at_end load first t u i j v ds a known h.0), (h.1 ∙ counts_at load first t v ds a, calm))
not_ended load first t u i j v (Broken why) ds a known calm h = let whole = a.stands.whole in let broken = h.0 in cc

pub not_taken : (load : Load) (first t u : Storage) (i j : Device) (v : FileWriter) (fault : WriteError) (ds : List Json) (d : Json) → IsAt load first t v ds → OfInput i.bytes (λ input. Begins input (ds ++ d ∷ [])) → IsCalm i j → NotTaken t u v (Some d) fault
    → Loads load (intake first i) (intake u j) (Err (Taker fault))
not_taken load first t u i j v Taken ds d a known calm h = absurd h
not_taken load first t u i j v Failed ds d a known calm h = (inr (part_cut load first t u i j v ds d a known h.0), fails_from load first t u v ds a h.1, calm)
not_taken load first t u i j v (FooterFull n) ds d a known calm h = (
  inl (record {
    documents = ds ++ d ∷ [];
    are_of = known;
    bytes = a.bytes;
    is_file = record {
      earlier = rows_of ds;
      last = Some d;
      splits = rows_more ds d;
      closed = closed_at load first t v ds a;
      long = subst (λ (rs : List (Option Json)). body_of (format load) (cut_of (format load).is_full rs).closed ≡ Err n) (sym (rows_more ds d))
          (subst (λ f. body_of f (cut_of f.is_full (rows_of ds ++ Some d ∷ [])).closed ≡ Err n) a.same (h.long a.bytes (rows_of ds) a.stands));
    };
    leaves = subst (λ (s : Storage). Leaves first s load.out a.bytes) (sym h.untouched) (leaves_at load first t v ds a);
  }),
  (ap (λ (s : Storage). s.counts) h.untouched ∙ counts_at load first t v ds a, calm),
)
not_taken load first t u i j v NoMemory ds d a known calm h = (inr (part_cut load first t u i j v ds d a known h.0), (h.1 ∙ counts_at load first t v ds a, calm))
not_taken load first t u i j v (Broken why) ds d a known calm h = let whole = a.stands.whole in let broken = h.0 in cc

-- the choices of the words can be a writer's
pub can_be_chosen : (c : LoadCommand) (s : Settings) → min_page_bytes ≤ c.page_bytes → s ≡ settings_of (load_of c) → IsSettings s
can_be_chosen c s fit e = subst IsSettings (sym e) (record {
  widths = record { offset_least = c.widths.offset_fits.0; offset_most = c.widths.offset_fits.1; id_least = c.widths.id_fits.0; id_most = c.widths.id_fits.1 };
  pages = fit;
})
