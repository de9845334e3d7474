pub mod Growing
pub mod Numbers
pub mod PackedNumbers
pub mod Parts
pub mod PartsInTurn
pub mod Refusals
pub mod Utf8
