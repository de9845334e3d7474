use Rattle.std.proofs.Common.{◌+◌, ◌-◌, length, arith, codes}
use Rattle.vs_bytes.proofs.Refusals.{fails}
use Rattle.std.proofs.lemmas.Result.{err_from_is_err_and}
use Rattle.query_tree.specs.Formula.{conjunction, disjunction}
use Rattle.filter_parsing.specs.Grammar.{both, either}
use Rattle.filter_parsing.specs.Parts.{part_of}
use Rattle.filter_parsing.specs.Reading.{conj_at, unit_at}
use Rattle.filter_parsing.proofs.ParserParts.{bracketed_is, no_bracketed, conj_joins, filter_joins, turns, breaks}
use Rattle.filter_parsing.proofs.filters.+parser.Goals as goal

pub read_bracketed-returns-in_err-inner : goal.read_bracketed-returns-in_err-inner
read_bracketed-returns-in_err-inner t c = record {
  reads = let p = err_from_is_err_and c.from_residual.result c.from_residual.ensures.1 in rw (p.1, p.2) (fails c.in_err-inner.field-0.0 _ _ c.in_err-inner.ensures.reads (λ none.
      no_bracketed c.args.room (c.args.room - 1) c.args.text.now c.past_spaces.result.now (omega arith) c.past_spaces.ensures none));
}

pub read_bracketed-returns-in-Some : goal.read_bracketed-returns-in-Some
read_bracketed-returns-in-Some t c = record {
  reads = bracketed_is c.args.room (c.args.room - 1) c.args.text.now c.past_spaces.result.now (part_of c.in_ok-inner.inner) c.in_ok-inner.more.now c.past_spaces-2.result.now _ (omega arith) c.past_spaces.ensures c.in_ok-inner.ensures.reads c.past_spaces-2.ensures c.in-Some.ensures;
}

pub read_bracketed-returns-in-None : goal.read_bracketed-returns-in-None
read_bracketed-returns-in-None t c = record {
  reads = bracketed_is c.args.room (c.args.room - 1) c.args.text.now c.past_spaces.result.now (part_of c.in_ok-inner.inner) c.in_ok-inner.more.now c.past_spaces-2.result.now _ (omega arith) c.past_spaces.ensures c.in_ok-inner.ensures.reads c.past_spaces-2.ensures c.in-None.ensures;
}

pub read_conj-loop-turn-preserved : goal.read_conj-loop-turn-preserved
read_conj-loop-turn-preserved t c =
    turns (codes "and") both conjunction (λ xs. unit_at c.args.room xs) (conj_joins (λ xs. unit_at c.args.room xs)) c.args.text.now (part_of c.loop-turn.left) (part_of c.in_ok-right.right) (part_of c.in_ok-left-2.left)
    (length c.in_ok-left.rest.now - c.loop-turn.turn) (length c.in_ok-left.rest.now - (c.loop-turn.turn + 1)) c.loop-turn.rest.now c.in-Some.more.now c.past_spaces-in-loop-turn.result.now c.in_ok-right.after.now
    c.loop-turn.invariant (omega arith) (rw (← c.past_spaces.ensures) c.in-Some.ensures) c.past_spaces-in-loop-turn.ensures c.in_ok-right.ensures.reads c.in_ok-left-2.ensures

pub read_filter-loop-turn-preserved : goal.read_filter-loop-turn-preserved
read_filter-loop-turn-preserved t c =
    turns (codes "or") either disjunction (λ ys. conj_at (λ xs. unit_at c.args.room xs) ys) (filter_joins (λ ys. conj_at (λ xs. unit_at c.args.room xs) ys)) c.args.text.now (part_of c.loop-turn.left) (part_of c.in_ok-right.right) (part_of c.in_ok-left-2.left)
    (length c.in_ok-left.rest.now - c.loop-turn.turn) (length c.in_ok-left.rest.now - (c.loop-turn.turn + 1)) c.loop-turn.rest.now c.in-Some.more.now c.past_spaces-in-loop-turn.result.now c.in_ok-right.after.now
    c.loop-turn.invariant (omega arith) (rw (← c.past_spaces.ensures) c.in-Some.ensures) c.past_spaces-in-loop-turn.ensures c.in_ok-right.ensures.reads c.in_ok-left-2.ensures

pub read_conj-returns-in_err-right : goal.read_conj-returns-in_err-right
read_conj-returns-in_err-right t c = record {
  reads = let p = err_from_is_err_and c.from_residual-in_err-right.result c.from_residual-in_err-right.ensures.1 in rw (p.1, p.2) (fails c.in_err-right.field-0.0 _ _ c.in_err-right.ensures.reads (λ none.
      breaks (codes "and") both conjunction (λ xs. unit_at c.args.room xs) c.args.text.now (part_of c.loop-turn.left) (length c.in_ok-left.rest.now - c.loop-turn.turn) (length c.in_ok-left.rest.now - (c.loop-turn.turn + 1)) c.loop-turn.rest.now c.in-Some.more.now c.past_spaces-in-loop-turn.result.now
      c.loop-turn.invariant (omega arith) (rw (← c.past_spaces.ensures) c.in-Some.ensures) c.past_spaces-in-loop-turn.ensures none));
}

pub read_filter-returns-in_err-right : goal.read_filter-returns-in_err-right
read_filter-returns-in_err-right t c = record {
  reads = let p = err_from_is_err_and c.from_residual-in_err-right.result c.from_residual-in_err-right.ensures.1 in rw (p.1, p.2) (fails c.in_err-right.field-0.0 _ _ c.in_err-right.ensures.reads (λ none.
      breaks (codes "or") either disjunction (λ ys. conj_at (λ xs. unit_at c.args.room xs) ys) c.args.text.now (part_of c.loop-turn.left) (length c.in_ok-left.rest.now - c.loop-turn.turn) (length c.in_ok-left.rest.now - (c.loop-turn.turn + 1)) c.loop-turn.rest.now c.in-Some.more.now c.past_spaces-in-loop-turn.result.now
      c.loop-turn.invariant (omega arith) (rw (← c.past_spaces.ensures) c.in-Some.ensures) c.past_spaces-in-loop-turn.ensures none));
}
