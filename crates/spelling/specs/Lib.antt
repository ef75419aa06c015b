-- Read in this order: Bytes (classes and runs); Words; Numbers; Tokens (where the tokens of a text begin); Spells (which texts spell which tokens); Machine (the tables
-- that a reader finds token by token); Refusal (where a text is refused); Promise (what the public functions promise); Claims (what is proved: which
-- bytes are read as which number).
pub mod Bytes
pub mod Words
pub mod Numbers
pub mod Tokens
pub mod Spells
pub mod Machine
pub mod Refusal
pub mod Promise
pub mod Claims
