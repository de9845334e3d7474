use Rattle.std.proofs.Common.{◌≡◌, ◌∙◌, sym, ap, ◌+◌, ◌++◌, ◌∷◌, [], ℕ, Option, Some, None, cond, length, length-append, arith}
use Rattle.shred_schema.specs.Ranges.{reads}
use Rattle.row_assembler.specs.Assembly.{place_in}
use Rattle.row_assembler.proofs.Places.{cond_most, one_listed, place_step}
use Rattle.row_assembler.proofs.leaf_places.leaf_places.Goals as goal

pub loop-leaf-preserved : goal.loop-leaf-preserved
loop-leaf-preserved c =
    let mask = c.args.mask.now in
    let k = c.loop-leaf.leaf in
    let inv = c.loop-leaf.invariant in
    let one : c.place_at.result ≡ place_in mask k = c.place_at.ensures ∙ ap (λ (n : ℕ). cond (reads mask k) (Some n) None) inv.count in
    let made : c.push.new.self.items ≡ c.loop-leaf.places.items ++ place_in mask k ∷ [] = c.in_ok-push.ensures.items ∙ ap (λ (p : Option ℕ). c.loop-leaf.places.items ++ p ∷ []) one in
    record {
      len = omega (arith, ap length made, length-append c.loop-leaf.places.items (place_in mask k ∷ []), inv.len);
      count = c.count_after-count.ensures ∙ (ap (λ (n : ℕ). cond (reads mask k) (n + 1) n) inv.count ∙ sym (place_step (reads mask) k));
      few = omega (arith, c.count_after-count.ensures, cond_most (reads mask k) c.loop-leaf.count k inv.few);
      listed = one_listed mask c.loop-leaf.places.items c.push.new.self.items k inv.len made inv.listed;
    }
