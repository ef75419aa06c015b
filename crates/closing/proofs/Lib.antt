-- Read in this order: Rows (rows done one after the other); Trimming (the padding of a row is cut off); Warshall (one round, and all rounds); Closed (what all rounds
-- leave is closed under chains); Unique (nothing else meets the contract of `close`).
mod Rows
mod Trimming
mod Warshall
mod Closed
pub mod Unique
