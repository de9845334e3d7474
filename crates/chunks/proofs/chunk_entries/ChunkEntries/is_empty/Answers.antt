use Rattle.std.proofs.Common.{◌≡◌, ◌∙◌, refl, sym, ap, Bool, true, false, List, drop, arith}
use Rattle.vs_bytes.specs.declared.leaf_columns.Entry.{Entry}
use Rattle.chunks.specs.Pieces.{all_of}
use Rattle.chunks.proofs.PiecesGiven.{none_left, is_end}
use Rattle.chunks.proofs.chunk_entries.ChunkEntries.is_empty.Goals as goal

pub returns-then-at-len : goal.returns-then-at-len
returns-then-at-len c =
    let same : all_of (drop c.self.inside.at c.deref.result.now) ≡ c.args.self.now = ap (λ (pages : List (List Entry)). all_of (drop c.self.inside.at pages)) c.deref.ensures.value ∙ c.self.view_is in
    ((λ impossible. let wrong : ◌≡◌ {A = Bool} false true = impossible in cc), (λ none. absurd (is_end c.deref.result.now c.self.inside.at c.first_left-at.result c.first_left-at.ensures (same ∙ none) (omega (arith, c.if-at-len.true, c.len.ensures, c.deref.ensures.len)))))

pub returns : goal.returns
returns c =
    let same : all_of (drop c.self.inside.at c.deref.result.now) ≡ c.args.self.now = ap (λ (pages : List (List Entry)). all_of (drop c.self.inside.at pages)) c.deref.ensures.value ∙ c.self.view_is in
    let within = c.first_left-at.ensures.within in
    ((λ yes. sym same ∙ none_left c.deref.result.now c.self.inside.at c.first_left-at.result c.first_left-at.ensures (omega (arith, within, c.if-at-len.false, c.len.ensures, c.deref.ensures.len))), (λ none. refl))
