-- Read in this order: Promise (what a reading promises, over the grammar's Spelling, Grammar and Tokens); Reading (what is found, answered and written, over the grammar's
-- Automaton), which the promise also cites. By itself: Needs (what the writing pass asks).
pub mod Reading
pub mod Promise
pub mod Needs
