-- The files that a map in memory shows.
use Rattle.std.proofs.Common.{◌≡◌, ◌∙◌, ℕ, List, [], ◌∷◌, map, Option, Some, Bool, true, false, cond, sym, ap, refl}
use Rattle.shelf.proofs.Appending.{insert_same}
use Rattle.std.specs.Option.{option_map}
use Rattle.std.specs.Global.{Vec}
use Rattle.std.specs.Map.{lookup}
use Rattle.std.specs.BTreeMap as tree
use Rattle.std.specs.BTreeMap.{BTreeMap, is_at}
use Rattle.std.specs.FinMap.{get, insert, find, from_entries, get-from_entries, get-insert, same_map, slice_cmp-IsAntisymmetric, nat_cmp-IsAntisymmetric}
use Rattle.std.specs.Cmp.{eq_by_cmp_equiv}
use Rattle.std.specs.Cmp.Lexicographic.{slice_cmp, nat_list_cmp_total}
use Rattle.std.specs.Ordering.{nat_cmp}
use Rattle.shelf.specs.Memory.{shown}

abbrev items_of : Option (Vec ℕ) → Option (List ℕ)
items_of o = option_map (λ (v : Vec ℕ). v.items) o

chosen : (b : Bool) (v : Vec ℕ) (o : Option (Vec ℕ)) (p : Option (List ℕ)) → p ≡ items_of o → cond b (Some v.items) p ≡ items_of (cond b (Some v) o)
chosen true v o p e = refl
chosen false v o p e = e

found : (q : List ℕ) (es : List (List ℕ × Vec ℕ)) → find (slice_cmp nat_cmp) q (map (λ e. (e.0, e.1.items)) es) ≡ items_of (lookup (is_at (slice_cmp nat_cmp q)) es)
found q [] = refl
found q (e ∷ es) = chosen (is_at (slice_cmp nat_cmp q) e.0) e.1 (lookup (is_at (slice_cmp nat_cmp q)) es) _ (found q es)

-- the files have what the map has
pub get_shown : (m : BTreeMap (List ℕ) (Vec ℕ)) (q : List ℕ) → get (shown m) q ≡ option_map (λ v. v.items) (tree.get (slice_cmp nat_cmp) m q)
get_shown m q = get-from_entries nat_list_cmp_total (map (λ e. (e.0, e.1.items)) m.entries) q ∙ found q m.entries

-- a map with one entry more, or another value, shows the files with that one
pub shown_insert : (m n : BTreeMap (List ℕ) (Vec ℕ)) (name : List ℕ) (v : Vec ℕ)
    → ((q : List ℕ) → tree.get (slice_cmp nat_cmp) n q ≡ cond (is_at (slice_cmp nat_cmp name) q) (Some v) (tree.get (slice_cmp nat_cmp) m q))
    → shown n ≡ insert (shown m) name v.items
shown_insert m n name v now =
    same_map nat_list_cmp_total (slice_cmp-IsAntisymmetric nat_cmp-IsAntisymmetric) (shown n) (insert (shown m) name v.items)
    (λ q. get_shown n q ∙ ap items_of (now q) ∙ sym (chosen (is_at (slice_cmp nat_cmp name) q) v (tree.get (slice_cmp nat_cmp) m q) _ (get_shown m q))
    ∙ ap (λ (b : Bool). cond b (Some v.items) (get (shown m) q)) ((eq_by_cmp_equiv nat_list_cmp_total).symm name q) ∙ sym (get-insert nat_list_cmp_total (shown m) name v.items q))

-- the same entries show the same files
pub same_shown : (m n : BTreeMap (List ℕ) (Vec ℕ)) → n.entries ≡ m.entries → shown n ≡ shown m
same_shown m n e = ap (λ (es : List (List ℕ × Vec ℕ)). from_entries (map (λ e. (e.0, e.1.items)) es)) e

-- what was written through a loan is what stood there
pub shown_kept : (m n : BTreeMap (List ℕ) (Vec ℕ)) (name : List ℕ) (v w : Vec ℕ)
    → ((q : List ℕ) → tree.get (slice_cmp nat_cmp) n q ≡ cond (is_at (slice_cmp nat_cmp name) q) (Some w) (tree.get (slice_cmp nat_cmp) m q))
    → Some v ≡ tree.get (slice_cmp nat_cmp) m name → w.items ≡ v.items → shown n ≡ shown m
shown_kept m n name v w now there same =
    shown_insert m n name w now ∙ insert_same (shown m) name w.items (get_shown m name ∙ ap items_of (sym there) ∙ ap Some (sym same))
