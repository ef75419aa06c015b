-- Read in this order: Counting (counters); Barrier (one barrier, and what registering does to it); Promise (what the public functions promise).
pub mod Counting
pub mod Barrier
pub mod Promise
