-- A command that writes no file leaves all files as they were.
use Rattle.std.proofs.Common.{◌≡◌, inl, inr, ap, subst, ℕ, List, Result}
use Rattle.file_answers.proofs.Unchanged.{files_after_query, files_after_check}
use Rattle.shelf.specs.Storage.{Storage}
use Rattle.variant_store.proofs.AskedCommands.{one_command}
use Rattle.variant_store.specs.Commands.{Command, prints, loads, queries, checks, AskFor, WritesFile}
use Rattle.variant_store.specs.Top.{Does, Runs, KeepsFiles}
use Rattle.variant_store.specs.World.{World, readout_in}
use Rattle.variant_store.specs.declared.command_error.CommandError.{CommandError}

kept_by : (command : Command) (before after : World) (done : Result (Unit {0}) CommandError) → (WritesFile command → ⊥) → Does command before after done → after.shelf.files ≡ before.shelf.files
kept_by (prints stream) before after done none does = ap (λ (s : Storage). s.files) does.3
kept_by (loads load) before after done none does = absurd (none tt)
kept_by (queries query) before after done none does = files_after_query query (readout_in before) (readout_in after) does.0 does.2
kept_by (checks check) before after done none does = files_after_check check (readout_in before) (readout_in after) does.0 does.2

pub keeps_files : (words : List (List ℕ)) (before after : World) (done : Result (Unit {0}) CommandError) → Runs words before after done → KeepsFiles words before after
keeps_files words before after done (inl works) = λ command asks none. kept_by works.command before after done (subst (λ (c : Command). WritesFile c → ⊥) (one_command words command works.command asks works.asked) none) works.does
keeps_files words before after done (inr (inl refused)) = λ command asks none. ap (λ (w : World). w.shelf.files) refused.untouched
keeps_files words before after done (inr (inr lacking)) = λ command asks none. ap (λ (w : World). w.shelf.files) lacking.untouched
