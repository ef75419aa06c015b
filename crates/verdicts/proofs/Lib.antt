-- Read in this order: Verdicts (each has its number and place to itself); Numbers (what follows from what a number means); FirstTold (in the order tested, the first that is not 0 is told);
-- Unique (nothing else meets the contract).
pub mod Verdicts
pub mod Numbers
pub mod FirstTold
pub mod Unique
