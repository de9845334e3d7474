-- What stands in the nodes of a column, as plain data.
use Rattle.std.specs.Prelude.{ℕ, List, [], ◌∷◌, Option}
use Rattle.vs_bytes.specs.declared.leaf_columns.Cell.{Cell}

mutual
  -- what stands in a node: the bytes of its value, where there are any, and its typed part
  pub data Rec : Type 0 where
    rec : Option (List ℕ) → RecPart → Rec

  pub data RecPart : Type 0 where
    -- nothing stands there
    empty : RecPart
    cell : Cell → RecPart
    -- a record for each field
    fields : Recs → RecPart
    -- a record for each item
    items : Recs → RecPart

  pub data Recs : Type 0 where
    no_recs : Recs
    recs : Rec → Recs → Recs

-- a row is absent, or has metadata and a record
pub data RowRec : Type 0 where
  absent : RowRec
  present : List ℕ → Rec → RowRec

abbrev pub recs_from : List Rec → Recs
recs_from [] = no_recs
recs_from (x ∷ xs) = recs x (recs_from xs)

abbrev pub recs_in : Recs → List Rec
recs_in no_recs = []
recs_in (recs x xs) = x ∷ recs_in xs

-- what holds of each record
abbrev pub EachRec : (Rec → Type 0) → Recs → Type 0
EachRec P no_recs = Unit {0}
EachRec P (recs x xs) = P x × EachRec P xs
