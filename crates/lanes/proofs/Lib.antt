-- Read in this order: Bits (the bits of words); Words (the words follow the rules of Table 2); Answers (the answers of the code, test by test);
-- Unique (the doors have one answer each).
pub mod Bits
pub mod Words
mod Answers
pub mod Unique
