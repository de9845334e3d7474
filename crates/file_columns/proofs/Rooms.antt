-- How deep objects and lists may nest.
use Rattle.std.proofs.Common.{◌≡◌, refl, true, false, ℕ, zero, suc, ◌-◌, None, arith}
use Rattle.file_columns.specs.declared.places.Levels.{Levels}
use Rattle.file_columns.specs.Elements.{note_of, is_list_note}
use Rattle.file_columns.specs.Columns.{PlacedElement, children_in, node_in, fields_in, items_in, group_in}

pub no_room : (room : ℕ) (l : Levels) (c : PlacedElement) → room ≡ 0 → group_in room l c ≡ None
unfolding group_in
no_room zero l c h = refl
no_room (suc room) l c h = absurd (omega arith)

pub room_for_list : (room : ℕ) (l : Levels) (c : PlacedElement) → (room ≡ 0 → ⊥) → is_list_note (note_of c.element) ≡ true → group_in room l c ≡ items_in (node_in (group_in (room - 1))) l (children_in c)
unfolding group_in
room_for_list zero l c some h = absurd (some refl)
room_for_list (suc room) l c some h = let less : suc room - 1 ≡ room = omega arith in rw (h, less) refl

pub room_for_object : (room : ℕ) (l : Levels) (c : PlacedElement) → (room ≡ 0 → ⊥) → is_list_note (note_of c.element) ≡ false → group_in room l c ≡ fields_in (node_in (group_in (room - 1))) l (children_in c)
unfolding group_in
room_for_object zero l c some h = absurd (some refl)
room_for_object (suc room) l c some h = let less : suc room - 1 ≡ room = omega arith in rw (h, less) refl
