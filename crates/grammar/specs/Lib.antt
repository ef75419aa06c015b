-- Read in this order: Spelling (the words, numbers and marks, and which bytes spell them); Grammar (which tokens write which listing, which text denotes it, and its two
-- tables); Tokens (the tokens of any text, and their places); Automaton (what a reader expects next, and what a token does); Promise (what the public functions promise); Claims (what is proved: a text
-- denotes one listing at most).
pub mod Spelling
pub mod Grammar
pub mod Tokens
pub mod Automaton
pub mod Promise
pub mod Claims
