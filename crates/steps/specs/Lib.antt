-- A barrier, and what registering does to it, stands in the crate `barriers`. Read here, in this order: State (the replay state); Step (one step); Going (going on from any point with any entries, and a whole schedule); Ending (how a
-- replay ended, and the verdict so far); Writing (schedules that a choice writes, from any state); Promise (what the public functions promise); Claims (what is proved of steps and entries). By itself: Needs (what the parts ask for and pass on: what a step changes; nothing public speaks of it).
pub mod State
pub mod Step
pub mod Going
pub mod Ending
pub mod Writing
pub mod Promise
pub mod Claims
pub mod Needs
