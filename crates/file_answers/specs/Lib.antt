-- how a call on a file begins
pub mod Beginning
-- what a query leaves
pub mod Answering
-- what a check leaves
pub mod Judging
-- when a call has nothing to refuse
pub mod Completing
