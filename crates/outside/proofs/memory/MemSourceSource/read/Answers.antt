use Rattle.std.proofs.Common.{rules, ◌≡◌, ◌∙◌, ℕ, ◌+◌, ◌-◌, ◌≤◌, List, take, drop, length, sym, ap, arith, drop_of_length-le}
use Rattle.outside.specs.Memory.{Given}
use Rattle.outside.proofs.Pieces.{split_at}
use Rattle.outside.proofs.memory.MemSourceSource.read.Goals as goal

pub returns-clause-reads : goal.returns-clause-reads
returns-clause-reads c =
    let bytes = c.self.inside.bytes.items in
    let at = c.self.inside.at in
    let n = c.min-count.result in
    let size : length bytes ≡ length c.deref.result.now = ap length (sym c.deref.ensures.value) in
    let within : at + n ≤ length bytes = omega arith in
    let copied = c.copy_from_slice.ensures.after ∙ ap (λ (s : List ℕ). take (at + n - at) (drop at s)) c.deref.ensures.value in
    let left = sym (ap (λ (s : Given). s.left) c.self.view_is) in
    record {
      within = search rules;
      size = search rules;
      taken = split_at bytes _ _ _ at n left within copied;
      end = λ none. drop_of_length-le bytes (omega arith);
      calm = search rules;
    }
