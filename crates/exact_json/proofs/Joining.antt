-- Flaws that are joined.
use Rattle.std.proofs.Common.{◌≡◌, refl, Bool, true, false, ◌||◌}
use Rattle.std.proofs.Math.Bool.{or_assoc}
use Rattle.exact_json.specs.Meaning.{Flaws, flawless, joined}

pub joined_after : (f : Flaws) → joined f flawless ≡ f
joined_after f = refl

or_none : (b : Bool) → (b || false) ≡ b
or_none true = refl
or_none false = refl

pub joined_before : (f : Flaws) → joined flawless f ≡ f
joined_before f = rw (or_none f.lone, or_none f.repeated, or_none f.wide) refl

pub joined_assoc : (a b c : Flaws) → joined a (joined b c) ≡ joined (joined a b) c
joined_assoc a b c = rw (or_assoc c.lone b.lone a.lone, or_assoc c.repeated b.repeated a.repeated, or_assoc c.wide b.wide a.wide) refl
