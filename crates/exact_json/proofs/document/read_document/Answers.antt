use Rattle.std.proofs.Common.{sym, ◌∙◌}
use Rattle.json_tree.specs.View.{view}
use Rattle.exact_json.specs.Shown.{shown}
use Rattle.exact_json.proofs.Judged.{text_behind}
use Rattle.exact_json.proofs.document.read_document.Goals as goal

pub returns-then-not-is_empty : goal.returns-then-not-is_empty
returns-then-not-is_empty c = record {
  told = text_behind (shown c.args.noted.now) c.args.line.now c.past_gap.result.now (view c.in_ok-tree.tree) (shown c.read_value.new.noted) c.in_ok-tree.behind.now c.past_gap-2.result.now
      c.past_gap.ensures c.in_ok-tree.ensures.told c.past_gap-2.ensures (sym c.is_empty.ensures ∙ c.if-not-is_empty.true);
}
