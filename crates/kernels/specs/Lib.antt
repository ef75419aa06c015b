-- Read in this order: Limits; Rows (the two tables of a kernel, and what stands in them); Refusals (which tables are refused, with 17 or 18, and where);
-- Promise (what the public functions promise). By itself: Needs (what the parts ask for and pass on; nothing public speaks of it).
pub mod Limits
pub mod Rows
pub mod Refusals
pub mod Promise
pub mod Needs
