-- Read in this order: Numbers (what an answer room gets); Promise (what the doors promise). By itself: Needs (what the parts ask for).
pub mod Numbers
pub mod Promise
pub mod Needs
