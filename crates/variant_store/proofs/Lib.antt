-- words that ask for a command are wrong in no way
pub mod AskedCommands
-- admitted input and no fault give 0, or 7
pub mod Completing
-- what is gathered of documents, and written of it
pub mod Gathering
-- commands that write no file
pub mod KeptFiles
-- the top call over known bytes
pub mod KnownBytes
-- what is known of a load that words ask for
pub mod LoadWords
-- the ends of a command that prints something of each document
pub mod StreamEnds
