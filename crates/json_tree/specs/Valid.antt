-- What every tree is.
use Rattle.std.specs.Prelude.{◌≡◌, true}
use Rattle.std.specs.Str.{is_utf8}
use Rattle.exact_num.specs.Decimal.{IsNumber}
use Rattle.json_tree.specs.Json.{Json, null, boolean, number, text, array, object, Parts, no_parts, part, Fields, no_fields, field}
use Rattle.json_tree.specs.Order.{NamesRise}

-- each text and name is UTF-8, each number is one of 38 digits and 38 places at most, in least scale, and
-- the names of each object strictly rise
abbrev mutual
  pub IsValid : Json → Type 0
  IsValid null = Unit {0}
  IsValid (boolean b) = Unit {0}
  IsValid (number d) = IsNumber d
  IsValid (text s) = is_utf8 s ≡ true
  IsValid (array ps) = AreValid ps
  IsValid (object fs) = NamesRise fs × HoldValid fs

  pub AreValid : Parts → Type 0
  AreValid no_parts = Unit {0}
  AreValid (part j ps) = IsValid j × AreValid ps

  pub HoldValid : Fields → Type 0
  HoldValid no_fields = Unit {0}
  HoldValid (field name j fs) = (is_utf8 name ≡ true) × IsValid j × HoldValid fs
