-- Whether a line opens too many brackets at once. It is asked of any line, JSON or not: outside of quoted
-- stretches `[` and `{` count one up, `]` and `}` one down. A quoted stretch begins and ends with a
-- quote, and within it a backslash takes the next byte with it.
use Rattle.std.specs.Prelude.{◌==◌, nat_le, ℕ, ◌+◌, ◌-◌, List, [], ◌∷◌, Bool, true, false, cond, ◌||◌}

abbrev pub opens : ℕ → Bool
opens x = (x == 91) || (x == 123)

abbrev pub closes : ℕ → Bool
closes x = (x == 93) || (x == 125)

-- whether so many more brackets come to be open at once
abbrev mutual
  pub outside : List ℕ → ℕ → Bool
  outside [] left = false
  outside (x ∷ xs) left =
      cond (x == 34) (inside xs left)
      (cond (opens x) (cond (nat_le left 1) true (outside xs (left - 1)))
      (cond (closes x) (outside xs (left + 1)) (outside xs left)))

  pub inside : List ℕ → ℕ → Bool
  inside [] left = false
  inside (x ∷ xs) left = cond (x == 34) (outside xs left) (cond (x == 92) (escaped xs left) (inside xs left))

  pub escaped : List ℕ → ℕ → Bool
  escaped [] left = false
  escaped (x ∷ xs) left = inside xs left

abbrev pub is_too_deep : List ℕ → Bool
is_too_deep line = outside line 65
