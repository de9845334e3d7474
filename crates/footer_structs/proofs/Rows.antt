-- The rows of groups, one after the other.
use Rattle.std.proofs.Common.{◌≡◌, refl, ℕ, suc, ◌+◌, ◌<◌, ◌≤◌, List, ◌∷◌, drop, get_or, length, unsigned_abs, drop-cons, arith}
use Rattle.std.proofs.lemmas.List.{drop_all}
use Rattle.footer_structs.specs.ReadFooters.{total_rows}
use Rattle.footer_structs.specs.declared.row_groups.GroupMeta.{GroupMeta}

rows_turn : (g : GroupMeta) (gs : List GroupMeta) → unsigned_abs g.num_rows + total_rows gs ≡ total_rows (g ∷ gs)
unfolding total_rows
rows_turn g gs = refl

pub more_rows : (i : ℕ) (gs : List GroupMeta) (d : GroupMeta) → i < length gs → unsigned_abs (get_or gs i d).num_rows + total_rows (drop (i + 1) gs) ≡ total_rows (drop i gs)
more_rows i gs d h =
    let k : suc i ≡ i + 1 = omega arith in
    let one : GroupMeta = get_or gs i d in
    rw (drop-cons gs i d h, k) (rows_turn one (drop (i + 1) gs))

pub no_rows : (i : ℕ) (gs : List GroupMeta) → length gs ≤ i → total_rows (drop i gs) ≡ 0
unfolding total_rows
no_rows i gs h = rw (drop_all i gs h) refl
