-- The bytes of a text, wherever they lie.
use Rattle.std.specs.Prelude.{ℕ, List, string_bytes}
use Rattle.vs_bytes.specs.declared.utf8_text.HeldText.{HeldText}
use Rattle.vs_bytes.specs.declared.utf8_text.HeldText.TheVariants.{Short, Long}

abbrev pub held_bytes : HeldText → List ℕ
held_bytes (Short text) = text.bytes
held_bytes (Long text) = string_bytes text
