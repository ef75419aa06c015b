-- Read in this order: Places (the rest of a text at a place, and where it stands in memory); Promise (what the public functions promise). The token at a place is that of the grammar's Tokens.
pub mod Places
pub mod Promise
