-- Read in this order: Entries (the stack); Step (Table 2, and what the doors promise). By itself: Needs (what the parts ask for and pass on; nothing public speaks of it).
pub mod Entries
pub mod Step
pub mod Needs
