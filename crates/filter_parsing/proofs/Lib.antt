-- numbers that are read are in least scale, and are numbers of JSON
mod Numbers
-- what is read is spelled
mod Sound
-- what is spelled of a term is read
mod Terms
-- what is spelled of a filter is read
mod Complete
-- whole texts: a text is one filter at most
pub mod Texts
-- joined parts and units, as the parser reads them
pub mod ParserParts
-- whole texts, as the parser reads them
pub mod ParserWhole
