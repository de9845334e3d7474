pub mod BodyBack
pub mod Borne
pub mod EntriesBack
pub mod Fitting
pub mod LevelsBack
pub mod Light
pub mod Maximum
pub mod PageBack
pub mod ReadingInTurn
pub mod Samples
pub mod Truths
mod Pieces
mod Judged
mod JudgedIntegers
mod JudgedTexts
mod Narrowed
