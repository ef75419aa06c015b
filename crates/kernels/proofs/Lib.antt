-- Read in this order: Numbers (a number that stands for a kind); Finds (does some number pass a test?); Climbing (the way upwards from a list);
-- Answers (each answer, by the facts that lead to it); Passed (what tables have that are not refused); Lawful (and what their statements are therefore);
-- Unique (nothing else meets the contract).
pub mod Numbers
pub mod Finds
pub mod Climbing
pub mod Answers
pub mod Passed
pub mod Lawful
pub mod Unique
