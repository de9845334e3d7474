use Rattle.std.proofs.Common.{◌≡◌, sym, subst, true, List, ℕ, arith}
use Rattle.json_tree.specs.Json.{Json}
use Rattle.variant_meta.specs.Names.{names_rise}
use Rattle.variant_meta.specs.MetaRefs.{names_of}
use Rattle.variant_read.specs.Items.{members_held, member_names}
use Rattle.variant_read.proofs.Members.{held_members_len, held_names_rise}
use Rattle.variant_read.proofs.Made.{all_members}
use Rattle.variant_read.proofs.owned.+owned.Goals as goal

pub members-in_order-requires : goal.members-in_order-requires
members-in_order-requires t c =
    let names = names_of c.args.meta.now in
    let bytes = c.args.layout.now.bytes.now in
    let all = all_members c.loop-k.pairs.items (members_held names c.args.room bytes) c.loop-k.k c.loop-k.invariant (omega (arith, c.loop-k-test.false, c.args.layout.now.len_is, held_members_len names c.args.room bytes c.requires.judged)) in
    subst (λ (members : List (List ℕ × Json)). names_rise (member_names members) ≡ true) (sym all)
    (held_names_rise names c.args.room bytes c.requires.object c.requires.judged)
