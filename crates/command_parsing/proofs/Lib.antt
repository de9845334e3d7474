-- words that ask for something aren't wrong, and ask for one thing
pub mod AskedOnce
-- a filter and paths, text by text
pub mod ReadTexts
