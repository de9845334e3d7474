-- What a `Number` of the code is.
use Rattle.exact_num.specs.Decimal.{Decimal}
use Rattle.exact_num.specs.declared.number.Number.{Number}

abbrev pub decimal_of : Number → Decimal
decimal_of n = record { unscaled = n.unscaled; scale = n.scale }
