-- an assembler, as contracts see it, and what its calls answer
pub mod Assembly
-- rows of a projected column
pub mod ProjectedRows
-- the answers in terms of the projected column
pub mod KeptAnswers
