-- Read in this order: Running (runs, as the code comes to their ends); Progs (what 17 and 18 let through is what the theory asks for);
-- Tying (the code's step is Table 2's); Theorems (one proof for each name of Claims); Places (where a refusal points); Unique (nothing else meets the contract).
mod Running
mod Progs
mod Tying
pub mod Theorems
pub mod Places
pub mod Unique
