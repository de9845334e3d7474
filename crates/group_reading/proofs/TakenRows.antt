-- What an assembler answers, in terms of the entries that are still to come.
use Rattle.std.proofs.Common.{◌≡◌, ◌∙◌, sym, ap, subst, ℕ, ◌+◌, Bool, true, false, List, [], ◌++◌, slice_index_or, append-nil, None, Some, Result, Err, ◌⊎◌, inl, inr}
use Rattle.vs_bytes.specs.declared.leaf_columns.Entry.{Entry}
use Rattle.vs_bytes.specs.declared.refused.Refused.{Refused}
use Rattle.vs_bytes.specs.declared.refused.Refused.TheVariants.{Fault, NoMemory}
use Rattle.vs_bytes.specs.declared.rule.Rule.{Rule}
use Rattle.shred_schema.specs.Groups.{Group, width}
use Rattle.shred_schema.specs.Ranges.{is_among, reads}
use Rattle.shred_schema.specs.Recs.{RowRec}
use Rattle.shred_schema.specs.declared.records.RowRecord.{RowRecord}
use Rattle.shred_schema.proofs.ReadLeaves.{read_at, read_from}
use Rattle.record_assembly.specs.Cuts.{first_item, is_nil}
use Rattle.record_assembly.specs.Laws.{Have}
use Rattle.record_assembly.specs.Reading.{row_read}
use Rattle.record_assembly.proofs.Same.{row_same}
use Rattle.column_assembly.specs.Items.{is_whole}
use Rattle.row_assembler.specs.Assembly.{Assembly, IsFor, has_row, left, next_entries, Waits, GivesRow, Refuses, IsRefused}
use Rattle.group_reading.specs.Filling.{joined, Held, Filled, Taken, TakesNone, Takes}
use Rattle.group_reading.proofs.NextRows.{row_shape}
use Rattle.group_reading.proofs.RowsAhead.{record_found, no_record}
use Rattle.group_reading.proofs.WholeRows.{whole_first, whole_later, whole_end}

module _ (o : Bool) (n : Group) (mask : List Bool) (c : Assembly) (chunks : List (List Entry)) (held : Held o n mask c chunks) where
  whole_at : has_row c n mask ≡ true → (j : ℕ) → is_among j 0 (1 + width n) ≡ true → reads mask j ≡ true → is_whole c.ended (left c j) ≡ true
  whole_at whole j a y = read_at (reads mask) 0 (1 + width n) (λ i. is_whole c.ended (left c i)) j whole a y

  firsts : has_row c n mask ≡ true → Have (reads mask) 0 (1 + width n) (λ j. first_item 0 (joined c chunks j)) (next_entries c)
  firsts whole j a y = whole_first c.ended (left c j) (slice_index_or chunks j []) (whole_at whole j a y) (λ ended. held.spent ended j a y)

  read_joined : has_row c n mask ≡ true → row_read o n (reads mask) 0 (λ j. first_item 0 (joined c chunks j)) ≡ row_read o n (reads mask) 0 (next_entries c)
  read_joined whole = row_same o n (reads mask) 0 (λ j. first_item 0 (joined c chunks j)) (next_entries c) held.column.some (firsts whole)

  pub taken : (d : Assembly) (row : RowRec) → IsFor d o n mask → GivesRow c d o n mask row → Taken o n mask (joined c chunks) d chunks row
  taken d row column gives = record {
    shape = row_shape o n mask c d row gives;
    found = record_found (reads mask) o n (joined c chunks) row (read_joined gives.whole ∙ gives.read);
    held = record {
      column = column;
      told = held.told;
      count = held.count;
      goes = gives.passed.goes;
      spent = λ ended. held.spent (sym gives.passed.ended ∙ ended);
    };
    after = λ j a y.
        ap (λ (es : List Entry). es ++ slice_index_or chunks j []) (gives.passed.later j a y)
        ∙ sym (whole_later c.ended (left c j) (slice_index_or chunks j []) (whole_at gives.whole j a y) (λ ended. held.spent ended j a y));
  }

  -- a refusal that came of the row itself
  row_refused : (refusal : Refused Rule) → IsRefused c o n mask refusal → TakesNone o n mask (joined c chunks) refusal
  row_refused (Fault broken) why = no_record (reads mask) o n (joined c chunks) (read_joined why.1.whole ∙ why.1.read) ∙ ap (λ (x : Rule). Err x) (sym why.0)
  row_refused NoMemory why = tt

  pub refused : (d : Assembly) (refusal : Refused Rule) → Refuses c d o n mask refusal → TakesNone o n mask (joined c chunks) refusal
  refused d refusal h = by h.why
    where
      by : (c.stop ≡ Some refusal) ⊎ IsRefused c o n mask refusal → TakesNone o n mask (joined c chunks) refusal
      by (inl stopped) = let wrong : None ≡ Some refusal = sym held.goes ∙ stopped in absurd cc
      by (inr why) = row_refused refusal why

  -- an assembler that was given all entries, of which each leaf has some, has a row
  pub never_waits : (d : Assembly) → c.ended ≡ true → ((j : ℕ) → is_among j 0 (1 + width n) ≡ true → reads mask j ≡ true → is_nil (joined c chunks j) ≡ false) → Waits c d n mask → ⊥
  never_waits d ended some waits =
      let whole : has_row c n mask ≡ true =
      read_from (reads mask) 0 (1 + width n) (λ j. is_whole c.ended (left c j))
      (λ j a y. whole_end c.ended (left c j) ended (sym (ap is_nil (ap (λ (es : List Entry). left c j ++ es) (held.spent ended j a y) ∙ append-nil (left c j))) ∙ some j a y)) in
      let no : true ≡ false = sym whole ∙ waits.whole in cc

-- entries that are joined again, after some were fed
pub joined_again : (a c : Assembly) (chunks later : List (List Entry)) → Filled a chunks c later → joined c later ≡ joined a chunks
joined_again a c chunks later filled = λ i j. filled.same j i

pub takes_filled : (o : Bool) (n : Group) (mask : List Bool) (a c d : Assembly) (chunks later last : List (List Entry)) (result : Result RowRecord (Refused Rule)) → Filled a chunks c later → Takes o n mask (joined c later) d last result → Takes o n mask (joined a chunks) d last result
takes_filled o n mask a c d chunks later last result filled takes = subst (λ (es : ℕ → List Entry). Takes o n mask es d last result) (joined_again a c chunks later filled) takes

pub taken_filled : (o : Bool) (n : Group) (mask : List Bool) (a c d : Assembly) (chunks later last : List (List Entry)) (row : RowRec) → Filled a chunks c later → Taken o n mask (joined c later) d last row → Taken o n mask (joined a chunks) d last row
taken_filled o n mask a c d chunks later last row filled takes = subst (λ (es : ℕ → List Entry). Taken o n mask es d last row) (joined_again a c chunks later filled) takes

pub none_filled : (o : Bool) (n : Group) (mask : List Bool) (a c : Assembly) (chunks later : List (List Entry)) (refusal : Refused Rule) → Filled a chunks c later → TakesNone o n mask (joined c later) refusal → TakesNone o n mask (joined a chunks) refusal
none_filled o n mask a c chunks later refusal filled none = subst (λ (es : ℕ → List Entry). TakesNone o n mask es refusal) (joined_again a c chunks later filled) none

-- the assembler is told that no more entries come

pub held_ended : (o : Bool) (n : Group) (mask : List Bool) (c e : Assembly) (chunks : List (List Entry)) → Held o n mask c chunks → IsFor e o n mask → e ≡ record c { ended = true } →
    ((j : ℕ) → is_among j 0 (1 + width n) ≡ true → reads mask j ≡ true → slice_index_or chunks j [] ≡ []) → Held o n mask e chunks
held_ended o n mask c e chunks held column is spent = record {
  column = column;
  told = held.told;
  count = held.count;
  goes = ap (λ (x : Assembly). x.stop) is ∙ held.goes;
  spent = λ ended. spent;
}

pub filled_ended : (a c e : Assembly) (chunks later : List (List Entry)) → Filled a chunks c later → e ≡ record c { ended = true } → joined e later ≡ joined a chunks
filled_ended a c e chunks later filled is = ap (λ (x : Assembly). joined x later) is ∙ joined_again a c chunks later filled
