-- the canonical text of a schema is a schema again
pub mod Canonical
-- what is spelled is read
pub mod Complete
-- the node of an object
pub mod ObjectNodes
-- schemas, and the fields of one, as the parser reads them
pub mod ReaderParts
-- the room that is left for leaves
pub mod Room
-- what is read is spelled
pub mod Sound
-- whole texts
pub mod Texts
-- words, decimals and names
pub mod Tokens
-- the nodes of a schema are nodes of columns that are written
pub mod WrittenNodes
