-- The steps that have a text.
use Rattle.std.specs.Prelude.{◌≡◌, ◌≤◌, true}
use Rattle.std.specs.Str.{is_utf8}
use Rattle.query_tree.specs.declared.step.Step.{Step}
use Rattle.query_tree.specs.declared.step.Step.TheVariants.{Field, Index, Star}
use Rattle.path_parsing.specs.Limits.{greatest_index}

-- a name is UTF-8, and an index has no more digits than one may have
abbrev pub IsWritable : Step → Type 0
IsWritable (Field name) = is_utf8 name ≡ true
IsWritable (Index n) = n ≤ greatest_index
IsWritable Star = Unit {0}
