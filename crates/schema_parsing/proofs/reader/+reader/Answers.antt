use Rattle.std.proofs.Common.{◌∙◌, refl, ap, ℕ, ◌+◌, ◌-◌, List, [], ◌∷◌, map, length, arith}
use Rattle.std.proofs.lemmas.List.{map-append}
use Rattle.std.proofs.lemmas.Result.{err_from_is_err_and}
use Rattle.vs_bytes.specs.Names.{repeats}
use Rattle.vs_bytes.proofs.Refusals.{fails}
use Rattle.shred_schema.specs.Views.{named}
use Rattle.shred_schema.specs.declared.nodes.Node.{Node}
use Rattle.schema_parsing.specs.Grammar.{names_of}
use Rattle.schema_parsing.specs.Reading.{schema_at}
use Rattle.schema_parsing.proofs.ReaderParts.{braced_twice, braced_once, starts, ends, refuses, breaks, turns}
use Rattle.schema_parsing.proofs.reader.+reader.Goals as goal

pub read_braced-returns-then-names_repeat : goal.read_braced-returns-then-names_repeat
read_braced-returns-then-names_repeat t c = record {
  reads = braced_twice c.args.room (c.args.room - 1) c.args.text.now c.past_spaces.result.now (map named c.in_ok-fields.fields) c.in_ok-fields.rest.now (omega arith) c.past_spaces.ensures c.in_ok-fields.ensures.reads
      (c.if-names_repeat.ensures ∙ ap (λ (fs : List (List ℕ × Node)). repeats (names_of (map named fs))) c.as_slice.ensures);
}

pub read_braced-returns : goal.read_braced-returns
read_braced-returns t c = record {
  reads = rw c.object_node.ensures (braced_once c.args.room (c.args.room - 1) c.args.text.now c.past_spaces.result.now (map named c.in_ok-fields.fields) c.in_ok-fields.rest.now (omega arith) c.past_spaces.ensures c.in_ok-fields.ensures.reads
      (c.if-names_repeat.ensures ∙ ap (λ (fs : List (List ℕ × Node)). repeats (names_of (map named fs))) c.as_slice.ensures));
}

pub read_fields-loop-turn-init : goal.read_fields-loop-turn-init
read_fields-loop-turn-init t c =
    starts (λ xs. schema_at c.args.room xs) c.args.text.now (named c.in_ok-first.first) c.in_ok-first.more.now c.past_spaces-rest.result.now (map named c.push.new.self) (length c.past_spaces-rest.result.now - 0)
    c.in_ok-first.ensures.reads c.past_spaces-rest.ensures (rw (c.in_ok-push.ensures.ok, c.new-fields.ensures) refl) (omega arith)

pub read_fields-returns-in-Some : goal.read_fields-returns-in-Some
read_fields-returns-in-Some t c = record {
  reads = ends (λ xs. schema_at c.args.room xs) (map named c.loop-turn.fields) (length c.past_spaces-rest.result.now - c.loop-turn.turn) (length c.past_spaces-rest.result.now - (c.loop-turn.turn + 1)) c.loop-turn.rest.now c.in-Some.end.now _
      c.loop-turn.invariant (omega arith) c.in-Some.ensures;
}

pub read_fields-returns-in_default-after_byte : goal.read_fields-returns-in_default-after_byte
read_fields-returns-in_default-after_byte t c = record {
  reads = refuses (λ xs. schema_at c.args.room xs) (map named c.loop-turn.fields) (length c.past_spaces-rest.result.now - c.loop-turn.turn) (length c.past_spaces-rest.result.now - (c.loop-turn.turn + 1)) c.loop-turn.rest.now _
      c.loop-turn.invariant (omega arith) c.in_default.ensures c.in_default-after_byte.ensures;
}

pub read_fields-returns-in_err-field : goal.read_fields-returns-in_err-field
read_fields-returns-in_err-field t c = record {
  reads = let p = err_from_is_err_and c.from_residual-in_err-field.result c.from_residual-in_err-field.ensures.1 in rw (p.1, p.2) (fails c.in_err-field.field-0.0 _ _ c.in_err-field.ensures.reads (λ none.
      breaks (λ xs. schema_at c.args.room xs) (map named c.loop-turn.fields) (length c.past_spaces-rest.result.now - c.loop-turn.turn) (length c.past_spaces-rest.result.now - (c.loop-turn.turn + 1)) c.loop-turn.rest.now c.in-Some-after_byte.behind.now c.past_spaces.result.now _
      c.loop-turn.invariant (omega arith) c.in_default.ensures c.in-Some-after_byte.ensures c.past_spaces.ensures none));
}

pub read_fields-loop-turn-preserved : goal.read_fields-loop-turn-preserved
read_fields-loop-turn-preserved t c =
    turns (λ xs. schema_at c.args.room xs) (map named c.loop-turn.fields) (length c.past_spaces-rest.result.now - c.loop-turn.turn) (length c.past_spaces-rest.result.now - (c.loop-turn.turn + 1)) c.loop-turn.rest.now c.in-Some-after_byte.behind.now c.past_spaces.result.now
    (named c.in_ok-field.field) c.in_ok-field.after.now c.past_spaces-rest-in-loop-turn.result.now (map named c.push-in-loop-turn.new.self) _
    c.loop-turn.invariant (omega arith) c.in_default.ensures c.in-Some-after_byte.ensures c.past_spaces.ensures c.in_ok-field.ensures.reads c.past_spaces-rest-in-loop-turn.ensures
    (rw c.in_ok-push-2.ensures.ok (map-append named c.loop-turn.fields (c.in_ok-field.field ∷ [])))
