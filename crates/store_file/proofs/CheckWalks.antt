-- The walk of a check over the groups of a file.
use Rattle.std.proofs.Common.{◌≡◌, ◌∙◌, refl, sym, ap, subst, ℕ, ◌+◌, ◌≤◌, List, [], ◌++◌, length, take, Option, Some, Ok, Err, arith, length-append}
use Rattle.std.specs.List.{slice_get}
use Rattle.json_tree.specs.Json.{Json}
use Rattle.shelf.specs.Storage.{Storage}
use Rattle.footer_structs.specs.declared.row_groups.GroupMeta.{GroupMeta}
use Rattle.store_read.specs.Ranges.{OfFile, Gives}
use Rattle.store_read.specs.declared.read_stop.ReadStop.{ReadStop}
use Rattle.store_read.specs.declared.read_stop.ReadStop.TheVariants as stop
use Rattle.store_read.proofs.Reading.{asks_all}
use Rattle.store_file.specs.Places.{fault_of}
use Rattle.store_file.specs.SeenGroups.{Seen, all_found, seen_of}
use Rattle.store_file.specs.FileCalls.{groups_in, group_rows, chunks_in, Checks}
use Rattle.store_file.specs.GroupCalls.{HasRows, CountsGroup}
use Rattle.store_file.specs.declared.file_faults.Violation.{Violation}
use Rattle.store_file.specs.declared.file_faults.QueryFault.{QueryFault}
use Rattle.store_file.specs.declared.file_faults.QueryFault.TheVariants as fault
use Rattle.store_file.specs.declared.store_file.StoreFile.{StoreFile}
use Rattle.store_file.proofs.Walks.{AskedGroups, asked_none, asked_more, asked_first, asked_fails, asked_all, of_before, all_taken, seen_more, seen_stops}

-- the first k groups have so many rows
pub record CountsFirst (f : StoreFile) (file : List ℕ) (k rows : ℕ) : Type 0 where
  pub all : List (Option Json)
  pub valid : seen_of (group_rows f f.mask file) 0 (take k (groups_in f)) ≡ all_found all
  pub counted : rows ≡ length all

pub record Judged (f : StoreFile) (before now : Storage) (k rows : ℕ) : Type 0 where
  pub asks : AskedGroups f f.mask before now k
  pub counts : OfFile before f.name (λ file. CountsFirst f file k rows)

pub judged_none : (f : StoreFile) (s : Storage) → Judged f s s 0 0
unfolding seen_of
judged_none f s = record {
  asks = asked_none f f.mask s;
  counts = λ file known. record { all = []; valid = refl; counted = refl };
}

pub judged_more : (f : StoreFile) (before now next : Storage) (k rows count sum : ℕ) (g : GroupMeta) → slice_get (groups_in f) k ≡ Some g → Judged f before now k rows →
    Gives now next f.name (chunks_in f f.mask g) (λ file. HasRows (group_rows f f.mask file k g) count) → sum ≡ rows + count → Judged f before next (k + 1) sum
judged_more f before now next k rows count sum g at judged gives is = record {
  asks = asked_more f f.mask before now next k g at judged.asks gives.asks;
  counts = λ file known.
      let done = judged.counts file known in
      let here = of_before f f.mask before now k (λ file. HasRows (group_rows f f.mask file k g) count) judged.asks gives.of_file file known in
      record {
        all = done.all ++ here.rows;
        valid = seen_more (group_rows f f.mask file) (groups_in f) k g done.all here.rows at done.valid here.valid;
        counted = omega (arith, is, done.counted, here.counted, length-append done.all here.rows);
      };
}

pub judged_all : (f : StoreFile) (before now : Storage) (k rows groups : ℕ) → Judged f before now k rows → length (groups_in f) ≤ k → groups ≡ length (groups_in f) → Checks f before now (Ok (groups, rows))
judged_all f before now k rows groups judged past is = record {
  asks = asked_all f f.mask before now k judged.asks past;
  judges = λ file known.
      let done = judged.counts file known in
      record {
        all = done.all;
        valid = ap (seen_of (group_rows f f.mask file) 0) (sym (all_taken (groups_in f) k judged.asks.within past)) ∙ done.valid;
        group_count = is;
        row_count = done.counted;
      };
}

-- no memory
pub judged_lost : (f : StoreFile) (before now next : Storage) (k rows count : ℕ) (g : GroupMeta) → slice_get (groups_in f) k ≡ Some g → Judged f before now k rows →
    Gives now next f.name (chunks_in f f.mask g) (λ file. HasRows (group_rows f f.mask file k g) count) → Checks f before next (Err fault.NoMemory)
judged_lost f before now next k rows count g at judged gives = record {
  asks = asked_first f f.mask before now next k g at judged.asks (asks_all now next (chunks_in f f.mask g) gives.asks);
  judges = λ file known. tt;
}

stops_at : (f : StoreFile) (before now next : Storage) (k rows : ℕ) (g : GroupMeta) (why : ReadStop Violation) → slice_get (groups_in f) k ≡ Some g → Judged f before now k rows →
    CountsGroup f now next k g (Err why) → Checks f before next (Err (fault_of why))
stops_at f before now next k rows g (stop.Violated violation) at judged stops = record {
  asks = asked_first f f.mask before now next k g at judged.asks stops.asks;
  judges = λ file known.
      let done = judged.counts file known in
      ap (λ (s : Seen (Option Json)). s.stop) (seen_stops (group_rows f f.mask file) (groups_in f) k g done.all violation at done.valid (of_before f f.mask before now k (λ file. group_rows f f.mask file k g ≡ Err violation) judged.asks stops.of_file file known));
}
stops_at f before now next k rows g stop.Failed at judged stops = record {
  asks = asked_fails f f.mask before now next k g at judged.asks stops;
  judges = λ file known. tt;
}
stops_at f before now next k rows g stop.NoMemory at judged stops = record {
  asks = asked_first f f.mask before now next k g at judged.asks stops;
  judges = λ file known. tt;
}

pub judged_stops : (f : StoreFile) (before now next : Storage) (k rows : ℕ) (g : GroupMeta) (why : ReadStop Violation) (result : QueryFault) → slice_get (groups_in f) k ≡ Some g → Judged f before now k rows →
    CountsGroup f now next k g (Err why) → result ≡ fault_of why → Checks f before next (Err result)
judged_stops f before now next k rows g why result at judged stops is = subst (λ (r : QueryFault). Checks f before next (Err r)) (sym is) (stops_at f before now next k rows g why at judged stops)
