use Rattle.std.proofs.Common.{◌≡◌, ◌∙◌, ap, ◌+◌, length, replicate, false}
use Rattle.std.proofs.lemmas.List.{with_items_is}
use Rattle.query_tree.specs.Asked.{query_of}
use Rattle.shred_schema.specs.Views.{group_of}
use Rattle.chunk_pruning.proofs.Listed.{mask_is}
use Rattle.chunk_pruning.proofs.needing.needs.Goals as goal

pub returns : goal.returns
returns c =
    let marked = c.mark_query.new.mask in
    let none = c.as_mut_slice.ensures.value ∙ c.in_ok-mask.ensures ∙ ap (λ w. replicate (1 + w) false) c.width.ensures in
    let len : length marked ≡ c.in_ok-mask.mask.len = c.mark_query.auto.mask ∙ c.as_mut_slice.ensures.len in
    let same : c.from_vec.result ≡ marked = c.from_vec.ensures ∙ with_items_is c.in_ok-mask.mask marked len in
    same ∙ mask_is (query_of c.args.query.now) (group_of c.args.column.now.node) c.as_mut_slice.result.now marked none c.mark_query.auto.mask c.mark_query.ensures
