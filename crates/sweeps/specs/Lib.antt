-- Read in this order: Pairs (a list of pairs, and the edges that it names); Promise (what the public function promises). By itself: Needs (what the parts ask for and pass on: joins of rows in any order; nothing public speaks of it).
pub mod Pairs
pub mod Promise
pub mod Needs
