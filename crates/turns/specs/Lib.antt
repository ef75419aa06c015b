-- Read in this order: Turns (who waits, who may step, and who goes first); Ready (the sets that a schedule writer keeps); Promise (what the public functions promise).
pub mod Turns
pub mod Ready
pub mod Promise
