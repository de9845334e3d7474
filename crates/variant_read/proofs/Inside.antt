-- What lies in bytes.
use Rattle.std.proofs.Common.{◌≡◌, ◌∙◌, sym, ap, subst, ℕ, List, [], ◌++◌, take, drop}
use Rattle.std.proofs.lemmas.List.{take-append-drop, append-nil}
use Rattle.vs_bytes.specs.Numbers.{IsPart}
use Rattle.vs_bytes.proofs.Parts.{part_on}
use Rattle.variant_read.specs.View.{LiesIn, array_bytes, object_bytes}
use Rattle.variant_read.specs.declared.views.ValueRef.{ValueRef}
use Rattle.variant_read.specs.declared.views.ValueRef.TheVariants.{Null, Bool, Num, Text, Object, Array}

pub part_all : (bytes : List ℕ) → IsPart bytes bytes
part_all bytes = record { before = []; after = []; joined = sym (append-nil bytes) }

pub part_rest : (bytes : List ℕ) (at : ℕ) → IsPart (drop at bytes) bytes
part_rest bytes at = record {
  before = take at bytes;
  after = [];
  joined = sym (take-append-drop at bytes) ∙ ap (λ (xs : List ℕ). take at bytes ++ xs) (sym (append-nil (drop at bytes)));
}

pub lies_on : (value : ValueRef) (part whole : List ℕ) → LiesIn value part → IsPart part whole → LiesIn value whole
lies_on Null part whole h on = tt
lies_on (Bool b) part whole h on = tt
lies_on (Num n) part whole h on = tt
lies_on (Text text) part whole h on = part_on text.now part whole h on
lies_on (Object view) part whole h on = part_on (object_bytes view) part whole h on
lies_on (Array view) part whole h on = part_on (array_bytes view) part whole h on

-- what lies in the rest of a part
pub item_lies : (value : ValueRef) (rest part whole : List ℕ) (at : ℕ) → LiesIn value rest → rest ≡ drop at part → IsPart part whole → LiesIn value whole
item_lies value rest part whole at h e on =
    lies_on value rest whole h (subst (λ (xs : List ℕ). IsPart xs whole) (sym e) (part_on (drop at part) part whole (part_rest part at) on))
