-- The walk of a query over the groups of a file.
use Rattle.std.proofs.Common.{◌≡◌, ◌∙◌, refl, sym, ap, subst, ℕ, ◌+◌, ◌-◌, ◌^◌, ◌≤◌, min, List, [], ◌++◌, length, take, drop, Option, Some, Ok, Err, arith, length-append}
use Rattle.std.specs.List.{slice_get}
use Rattle.std.specs.Global.{Vec}
use Rattle.std.specs.Io.KnownBytes.{Appends}
use Rattle.std.proofs.KnownBytes.{Appends-nil, Appends-trans}
use Rattle.std.proofs.Math.Seq.{take-append-add}
use Rattle.query_tree.specs.Asked.{Asked}
use Rattle.outside.specs.Devices.{Device, IsCalm, AppendsPrefix, AppendsPart}
use Rattle.outside.specs.Calls.{WritesAll}
use Rattle.outside.specs.declared.sink.SinkError.{SinkError}
use Rattle.outside.specs.declared.sink.SinkError.TheVariants as sink
use Rattle.outside.proofs.Sending.{prefix_more}
use Rattle.shelf.specs.Storage.{Storage}
use Rattle.footer_structs.specs.declared.row_groups.GroupMeta.{GroupMeta}
use Rattle.store_read.specs.Ranges.{OfFile, Gives, ReadsFile, FailsAt}
use Rattle.store_read.specs.declared.read_stop.ReadStop.{ReadStop}
use Rattle.store_read.specs.declared.read_stop.ReadStop.TheVariants as stop
use Rattle.store_read.proofs.Reading.{asks_all}
use Rattle.store_file.specs.Masks.{needed}
use Rattle.store_file.specs.Places.{fault_of, write_fault}
use Rattle.store_file.specs.SeenGroups.{Seen, seen_of}
use Rattle.store_file.specs.FileCalls.{groups_in, group_lines, lines_seen, chunks_in, PrintsFirst, Queries}
use Rattle.store_file.specs.declared.file_faults.Violation.{Violation}
use Rattle.store_file.specs.declared.file_faults.QueryFault.{QueryFault}
use Rattle.store_file.specs.declared.file_faults.QueryFault.TheVariants as fault
use Rattle.store_file.specs.declared.store_file.StoreFile.{StoreFile}
use Rattle.store_file.proofs.Walks.{AskedGroups, asked_none, asked_more, asked_first, asked_fails, asked_all, of_before, all_taken, seen_more, seen_next, seen_stops, seen_front}

-- the lines of the first k groups were written, and their chunks were asked for
pub record Wrote (f : StoreFile) (asked : Asked) (before now : Storage) (old new : Device) (k : ℕ) : Type 0 where
  pub asks : AskedGroups f (needed f asked) before now k
  pub prints : OfFile before f.name (λ file. PrintsFirst f asked file k old.bytes new.bytes)
  pub calm : IsCalm old new

pub wrote_none : (f : StoreFile) (asked : Asked) (s : Storage) (d : Device) → Wrote f asked s s d d 0
unfolding seen_of
wrote_none f asked s d = record {
  asks = asked_none f (needed f asked) s;
  prints = λ file known. record { text = []; lines = refl; appended = Appends-nil d.bytes };
  calm = refl;
}

pub wrote_more : (f : StoreFile) (asked : Asked) (before now next : Storage) (old mid new : Device) (k : ℕ) (g : GroupMeta) (lines bytes : List ℕ) → slice_get (groups_in f) k ≡ Some g → Wrote f asked before now old mid k →
    Gives now next f.name (chunks_in f (needed f asked) g) (λ file. group_lines f asked file k g ≡ Ok lines) → bytes ≡ lines → WritesAll mid new bytes (Ok tt) → Wrote f asked before next old new (k + 1)
wrote_more f asked before now next old mid new k g lines bytes at wrote gives same writes = record {
  asks = asked_more f (needed f asked) before now next k g at wrote.asks gives.asks;
  prints = λ file known.
      let done = wrote.prints file known in
      record {
        text = done.text ++ lines;
        lines = seen_more (group_lines f asked file) (groups_in f) k g done.text lines at done.lines (of_before f (needed f asked) before now k (λ file. group_lines f asked file k g ≡ Ok lines) wrote.asks gives.of_file file known);
        appended = Appends-trans old.bytes mid.bytes new.bytes done.text lines done.appended (subst (λ (s : List ℕ). Appends mid.bytes new.bytes s) same writes.0);
      };
  calm = writes.1 ∙ wrote.calm;
}

pub wrote_all : (f : StoreFile) (asked : Asked) (before now : Storage) (old new : Device) (k : ℕ) → Wrote f asked before now old new k → length (groups_in f) ≤ k → Queries f asked before now old new (Ok tt)
wrote_all f asked before now old new k wrote past = record {
  asks = asked_all f (needed f asked) before now k wrote.asks past;
  answers = λ file known.
      let done = wrote.prints file known in
      record {
        text = done.text;
        lines = ap (seen_of (group_lines f asked file) 0) (sym (all_taken (groups_in f) k wrote.asks.within past)) ∙ done.lines;
        appended = done.appended;
      };
  counts = wrote.calm;
}

-- Prefixes.

prefix_on : (a b c : Option (List ℕ)) (xs ys : List ℕ) → Appends a b xs → AppendsPrefix b c ys → AppendsPrefix a c (xs ++ ys)
prefix_on a b c xs ys first more =
    (length xs + more.0, omega (arith, more.1, length-append xs ys), subst (λ (s : List ℕ). Appends a c s) (sym (take-append-add xs ys more.0)) (Appends-trans a b c xs (take more.0 ys) first more.2))

-- what was written of the lines that are seen, up to group k
prefix_now : (f : StoreFile) (asked : Asked) (before now : Storage) (old new : Device) (k : ℕ) (file : List ℕ) → Wrote f asked before now old new k → PrintsFirst f asked file k old.bytes new.bytes → AppendsPrefix old.bytes new.bytes (lines_seen f asked file).found
prefix_now f asked before now old new k file wrote done =
    let later = seen_of (group_lines f asked file) k (drop k (groups_in f)) in
    let all : (lines_seen f asked file).found ≡ done.text ++ later.found = ap (λ (s : Seen ℕ). s.found) (seen_front (group_lines f asked file) (groups_in f) k done.text wrote.asks.within done.lines) in
    subst (λ (s : List ℕ). AppendsPrefix old.bytes new.bytes s) (sym all) (prefix_on old.bytes new.bytes new.bytes done.text later.found done.appended (0, omega arith, Appends-nil new.bytes))

prefix_part : (f : StoreFile) (asked : Asked) (old mid new : Device) (k : ℕ) (g : GroupMeta) (lines : List ℕ) (file : List ℕ) → slice_get (groups_in f) k ≡ Some g → PrintsFirst f asked file k old.bytes mid.bytes → group_lines f asked file k g ≡ Ok lines → AppendsPart mid.bytes new.bytes lines → AppendsPrefix old.bytes new.bytes (lines_seen f asked file).found
prefix_part f asked old mid new k g lines file at done given part =
    let later = seen_of (group_lines f asked file) (k + 1) (drop (k + 1) (groups_in f)) in
    let all : (lines_seen f asked file).found ≡ done.text ++ (lines ++ later.found) = ap (λ (s : Seen ℕ). s.found) (seen_next (group_lines f asked file) (groups_in f) k g done.text (Ok lines) at done.lines given) in
    subst (λ (s : List ℕ). AppendsPrefix old.bytes new.bytes s) (sym all)
    (prefix_on old.bytes mid.bytes new.bytes done.text (lines ++ later.found) done.appended (prefix_more mid.bytes new.bytes lines later.found (part.0, omega (arith, part.1), part.2)))

-- A write is refused.

wrote_part : (f : StoreFile) (asked : Asked) (before now next : Storage) (old mid new : Device) (k : ℕ) (g : GroupMeta) (lines : List ℕ) → slice_get (groups_in f) k ≡ Some g → Wrote f asked before now old mid k →
    Gives now next f.name (chunks_in f (needed f asked) g) (λ file. group_lines f asked file k g ≡ Ok lines) → WritesAll mid new lines (Err sink.NoMemory) → Queries f asked before next old new (Err fault.NoMemory)
wrote_part f asked before now next old mid new k g lines at wrote gives writes = record {
  asks = asked_first f (needed f asked) before now next k g at wrote.asks (asks_all now next (chunks_in f (needed f asked) g) gives.asks);
  answers = λ file known. prefix_part f asked old mid new k g lines file at (wrote.prints file known) (of_before f (needed f asked) before now k (λ file. group_lines f asked file k g ≡ Ok lines) wrote.asks gives.of_file file known) writes.0;
  counts = writes.1 ∙ wrote.calm;
}

wrote_breaks : (f : StoreFile) (asked : Asked) (before now next : Storage) (old mid new : Device) (k : ℕ) (g : GroupMeta) (lines : List ℕ) → slice_get (groups_in f) k ≡ Some g → Wrote f asked before now old mid k →
    Gives now next f.name (chunks_in f (needed f asked) g) (λ file. group_lines f asked file k g ≡ Ok lines) → WritesAll mid new lines (Err sink.Failed) → Queries f asked before next old new (Err fault.WriteFault)
wrote_breaks f asked before now next old mid new k g lines at wrote gives writes = record {
  asks = asked_first f (needed f asked) before now next k g at wrote.asks (asks_all now next (chunks_in f (needed f asked) g) gives.asks);
  answers = λ file known. prefix_part f asked old mid new k g lines file at (wrote.prints file known) (of_before f (needed f asked) before now k (λ file. group_lines f asked file k g ≡ Ok lines) wrote.asks gives.of_file file known) writes.0;
  counts = record {
    later = omega (arith, wrote.calm, writes.1.later);
    rose = subst (λ n. min (n + 1) (2 ^ 64 - 1) ≤ new.faults) wrote.calm writes.1.rose;
  };
}

pub wrote_refused : (f : StoreFile) (asked : Asked) (before now next : Storage) (old mid new : Device) (k : ℕ) (g : GroupMeta) (lines bytes : List ℕ) (why : SinkError) (result : QueryFault) → slice_get (groups_in f) k ≡ Some g → Wrote f asked before now old mid k →
    Gives now next f.name (chunks_in f (needed f asked) g) (λ file. group_lines f asked file k g ≡ Ok lines) → bytes ≡ lines → WritesAll mid new bytes (Err why) → result ≡ write_fault why → Queries f asked before next old new (Err result)
wrote_refused f asked before now next old mid new k g lines bytes why result at wrote gives same writes is =
    subst (λ (r : QueryFault). Queries f asked before next old new (Err r)) (sym is) (by why (subst (λ (s : List ℕ). WritesAll mid new s (Err why)) same writes))
  where
    by : (s : SinkError) → WritesAll mid new lines (Err s) → Queries f asked before next old new (Err (write_fault s))
    by sink.Failed w = wrote_breaks f asked before now next old mid new k g lines at wrote gives w
    by sink.NoMemory w = wrote_part f asked before now next old mid new k g lines at wrote gives w

-- A group isn't read.

stops_at : (f : StoreFile) (asked : Asked) (before now next : Storage) (old new : Device) (k : ℕ) (g : GroupMeta) (why : ReadStop Violation) → slice_get (groups_in f) k ≡ Some g → Wrote f asked before now old new k →
    ReadsFile {A = Vec ℕ} {B = List ℕ} (λ lines. lines.items) now next f.name (chunks_in f (needed f asked) g) (λ file. group_lines f asked file k g) (Err why) → Queries f asked before next old new (Err (fault_of why))
stops_at f asked before now next old new k g (stop.Violated violation) at wrote stops = record {
  asks = asked_first f (needed f asked) before now next k g at wrote.asks stops.asks;
  answers = λ file known.
      let done = wrote.prints file known in
      record {
        text = done.text;
        lines = seen_stops (group_lines f asked file) (groups_in f) k g done.text violation at done.lines (of_before f (needed f asked) before now k (λ file. group_lines f asked file k g ≡ Err violation) wrote.asks stops.of_file file known);
        appended = done.appended;
      };
  counts = wrote.calm;
}
stops_at f asked before now next old new k g stop.Failed at wrote stops = record {
  asks = asked_fails f (needed f asked) before now next k g at wrote.asks stops;
  answers = λ file known. record {
    k = k;
    fails = record { group = g; at = at; fails = subst (λ (s : Storage). FailsAt s next (chunks_in f (needed f asked) g)) wrote.asks.ranges stops };
    prints = wrote.prints file known;
  };
  counts = wrote.calm;
}
stops_at f asked before now next old new k g stop.NoMemory at wrote stops = record {
  asks = asked_first f (needed f asked) before now next k g at wrote.asks stops;
  answers = λ file known. prefix_now f asked before now old new k file wrote (wrote.prints file known);
  counts = wrote.calm;
}

pub wrote_stops : (f : StoreFile) (asked : Asked) (before now next : Storage) (old new : Device) (k : ℕ) (g : GroupMeta) (why : ReadStop Violation) (result : QueryFault) → slice_get (groups_in f) k ≡ Some g → Wrote f asked before now old new k →
    ReadsFile {A = Vec ℕ} {B = List ℕ} (λ lines. lines.items) now next f.name (chunks_in f (needed f asked) g) (λ file. group_lines f asked file k g) (Err why) → result ≡ fault_of why → Queries f asked before next old new (Err result)
wrote_stops f asked before now next old new k g why result at wrote stops is =
    subst (λ (r : QueryFault). Queries f asked before next old new (Err r)) (sym is) (stops_at f asked before now next old new k g why at wrote stops)
