-- Read in this order: Pieces (the token that bytes begin with); Lexes (it is the one that they spell); Steps (what a token does); Listings (what is found in a listing's
-- tokens); Grammars (the automaton takes listings and nothing else); Unique (nothing else meets a
-- contract).
pub mod Pieces
pub mod Lexes
pub mod Steps
pub mod Listings
pub mod Grammars
pub mod Unique
