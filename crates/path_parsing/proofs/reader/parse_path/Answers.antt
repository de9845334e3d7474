use Rattle.std.proofs.Common.{sym, subst, List, ℕ, Err}
use Rattle.std.proofs.lemmas.Result.{err_from_is_err_and}
use Rattle.query_tree.specs.declared.step.Step.{Step}
use Rattle.path_parsing.specs.Reading.{path_at}
use Rattle.path_parsing.specs.Grammar.{path_of}
use Rattle.vs_bytes.specs.Outcome.{Reads}
use Rattle.byte_parsing.specs.Parse.{read_as}
use Rattle.vs_bytes.specs.declared.refused.Absent.{Absent}
use Rattle.path_parsing.proofs.Texts.{is_path, no_path_rest, fault_is}
use Rattle.path_parsing.proofs.reader.parse_path.Goals as goal

pub returns-in_err-path : goal.returns-in_err-path
returns-in_err-path c =
    let fault = err_from_is_err_and c.from_residual.result c.from_residual.ensures.1 in
    let reads = subst (λ (xs : List ℕ). Reads {A = List Step × List ℕ} {F = Absent} (λ x. x) (Err c.in_err-path.field-0.0) (read_as path_of (path_at xs))) c.as_bytes.ensures.value c.in_err-path.ensures.reads in
    rw (fault.1, fault.2) (fault_is c.args.text.now c.in_err-path.field-0.0 reads)

pub returns-then-not-is_empty : goal.returns-then-not-is_empty
returns-then-not-is_empty c = rw (← c.as_bytes.ensures.value) (no_path_rest c.as_bytes.result.now _ c.in_ok-path.rest.now c.in_ok-path.ensures.reads (sym c.if-not-is_empty.ensures))

pub returns : goal.returns
returns c = rw (← c.as_bytes.ensures.value) (is_path c.as_bytes.result.now _ c.in_ok-path.rest.now c.in_ok-path.ensures.reads (sym c.if-not-is_empty.ensures))
