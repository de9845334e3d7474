use Rattle.std.proofs.Common.{arith, rules, refl}
use Rattle.json_tree.proofs.Escapes.{kept_turn, escaped_turn, grows_more}
use Rattle.json_tree.proofs.printing.put_escaped.Goals as goal
use Rattle.json_tree.proofs.printing.put_escaped.Goals.{then-needs_escape+in_ok-extend_from_slice+in_ok-put_escape, else-needs_escape}

pub loop-i-preserved : goal.loop-i-preserved
loop-i-preserved c = elim c.if-needs_escape.branch [
  | then-needs_escape+in_ok-extend_from_slice+in_ok-put_escape w ↦ record {
    within = omega (arith, w.start-is);
    text = rw (w.into-is, w.start-is, (w.in_ok-put_escape.ensures).ok, (w.in_ok-extend_from_slice.ensures).items)
        (escaped_turn c.args.into.now.items c.loop-i.into.items c.args.text.now c.loop-i.start c.loop-i.i (omega arith) c.loop-i.invariant.within c.loop-i.invariant.text);
    grows = rw (w.into-is, (w.in_ok-put_escape.ensures).ok, (w.in_ok-extend_from_slice.ensures).items) (grows_more _ _ _ (grows_more _ _ _ c.loop-i.invariant.grows));
  }
  | else-needs_escape w ↦ record {
    within = omega (arith, w.start-is);
    text = rw (w.into-is, w.start-is) (kept_turn c.args.into.now.items c.loop-i.into.items c.args.text.now c.loop-i.start c.loop-i.i (omega arith) c.loop-i.invariant.within ((w.if-needs_escape.ensures).plain refl) c.loop-i.invariant.text);
    grows = search rules;
  }
]
