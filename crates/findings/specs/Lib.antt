-- The faults and their order are in the crate `faults`, refusals 1 to 4 in `rooms`. Read here, in this order: Findings (the verdict and the pairs, and what `find_faults`
-- promises); Promise (what `bare` promises). By itself: Needs (what the parts ask for and pass on; nothing public speaks of it).
pub mod Findings
pub mod Promise
pub mod Needs
