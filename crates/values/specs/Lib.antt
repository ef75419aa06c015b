-- Read in this order: Expressions (what rows denote, and for which lanes they are not 0); Promise (what the public functions promise). By itself: Needs (what the parts ask for and pass on; nothing public speaks of it).
pub mod Expressions
pub mod Promise
pub mod Needs
