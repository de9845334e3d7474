-- The parts of a number text, as a function of the text.
use Rattle.std.specs.Prelude.{◌==◌, ◌||◌, ℕ, Bool, true, false, cond, List, [], ◌∷◌, Option, Some, None, option_map}
use Rattle.std.specs.List.{list_all}
use Rattle.byte_parsing.specs.Parse as bytes
pub use Rattle.byte_parsing.specs.Parse.{past}
pub use Rattle.byte_parsing.specs.Words.{is_digit, is_empty, is_numeric, is_whole}
use Rattle.exact_num.specs.Spelling.{Sign, unmarked, plus, minus, Exponent, no_exponent, exponent, Written}

-- The stages of the text are taken in turn. Each is named for what it is given: a Bool for the sign,
-- the digits before the point, those after it, and the rest of the text.

-- the digits that stand first, and what comes after them
abbrev pub front : List ℕ → List ℕ
front xs = bytes.front is_digit xs

abbrev pub back : List ℕ → List ℕ
back xs = bytes.back is_digit xs

-- digits to the end of the text
unfoldable pub power_digits : ℕ → Sign → List ℕ → Option Exponent
power_digits mark sign ds = cond (is_empty ds) None (cond (list_all is_digit ds) (Some (exponent mark sign ds)) None)

-- after the mark there may be a sign
abbrev pub power_from : ℕ → List ℕ → Option (List ℕ) → Option (List ℕ) → Option Exponent
power_from mark text (Some rest) other = power_digits mark minus rest
power_from mark text None (Some rest) = power_digits mark plus rest
power_from mark text None None = power_digits mark unmarked text

unfoldable pub power_signed : ℕ → List ℕ → Option Exponent
power_signed mark text = power_from mark text (past 45 text) (past 43 text)

abbrev pub is_mark : ℕ → Bool
is_mark x = (x == 69) || (x == 101)

-- the end of the text, or an exponent up to it
unfoldable pub power_of : List ℕ → Option Exponent
power_of [] = Some no_exponent
power_of (x ∷ xs) = cond (is_mark x) (power_signed x xs) None

-- after the digits
unfoldable pub ended : Bool → List ℕ → List ℕ → List ℕ → Option Written
ended negative whole fraction rest =
    option_map (λ e. record { negative = negative; whole = whole; fraction = fraction; power = e }) (power_of rest)

-- after the point there is a digit at least
unfoldable pub pointed : Bool → List ℕ → List ℕ → Option Written
pointed negative whole rest = cond (is_empty (front rest)) None (ended negative whole (front rest) (back rest))

abbrev pub point_from : Bool → List ℕ → List ℕ → Option (List ℕ) → Option Written
point_from negative whole rest None = ended negative whole [] rest
point_from negative whole rest (Some more) = pointed negative whole more

-- after the sign
unfoldable pub unsigned : Bool → List ℕ → Option Written
unsigned negative text =
    cond (is_whole (front text)) (point_from negative (front text) (back text) (past 46 (back text))) None

abbrev pub sign_from : List ℕ → Option (List ℕ) → Option Written
sign_from text None = unsigned false text
sign_from text (Some rest) = unsigned true rest

-- the parts of the text, or None where it is no number
unfoldable pub parsed : List ℕ → Option Written
parsed text = sign_from text (past 45 text)
