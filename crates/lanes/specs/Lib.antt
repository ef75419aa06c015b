-- Read in this order: Words (the masks and disable states as words, and what the rules make of them); Promise (what the public functions promise).
pub mod Words
pub mod Promise
