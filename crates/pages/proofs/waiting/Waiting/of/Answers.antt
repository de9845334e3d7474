use Rattle.std.proofs.Common.{◌≡◌, sym, subst, ℕ, true, is_ok, List, arith}
use Rattle.vs_bytes.specs.declared.leaf_columns.Leaf.{Leaf}
use Rattle.plain_values.specs.Plain.{front_cell, cells}
use Rattle.pages.specs.Shown.{shown}
use Rattle.pages.specs.Waiting.{left, judged_leaf}
use Rattle.pages.proofs.Judged.{judged_good}
use Rattle.pages.proofs.waiting.Waiting.of.Goals as goal

pub invariant_of-result : goal.invariant_of-result
invariant_of-result c =
    let leaf = c.args.leaf.now in
    let reps = shown c.args.reps in
    let defs = shown c.args.defs in
    let values = subst (λ (n : ℕ). is_ok (cells (front_cell leaf.phys leaf.prim) n c.args.bytes.now) ≡ true) c.count.ensures c.in-Ok.ensures.ok in
    record {
      reps_len = c.requires.reps;
      defs_len = c.requires.defs;
      given = omega arith;
      inside = omega arith;
      good =
          subst (λ (as_judged : Leaf). is_ok (left as_judged reps defs c.in-Ok-from_slice.values) ≡ true) (sym c.judged_leaf.ensures)
          (subst (λ (bytes : List ℕ). is_ok (left (judged_leaf leaf) reps defs bytes) ≡ true) (sym c.in-Ok-from_slice.ensures) (judged_good leaf c.args.count reps defs c.args.bytes.now c.requires.reps c.requires.defs values));
    }
