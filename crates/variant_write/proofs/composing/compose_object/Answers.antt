use Rattle.std.proofs.Common.{◌∙◌, ◌<◌, ◌^◌, subst, ap, ℕ, max}
use Rattle.vs_bytes.specs.Numbers.{width_of}
use Rattle.variant_write.specs.Coded.{id_size}
use Rattle.variant_write.proofs.Fits.{ids_below}
use Rattle.variant_write.proofs.composing.compose_object.Goals as goal

pub append_object-requires-clause-ids : goal.append_object-requires-clause-ids
append_object-requires-clause-ids c = λ k d inside.
    ids_below (256 ^ c.width_for-id_width.result) c.args.ids.now k d (subst (λ (n : ℕ). n < 256 ^ c.width_for-id_width.result) c.greatest.ensures c.width_for-id_width.ensures.holds) inside

pub returns-clause-ok : goal.returns-clause-ok
unfolding id_size
returns-clause-ok c =
    let width = c.width_for-width.ensures.value in
    let ids = c.width_for-id_width.ensures.value ∙ ap (λ (n : ℕ). max c.args.widths.id (width_of n)) c.greatest.ensures in
    rw (← width, ← ids) c.append_object.ensures.ok
