-- Read in this order: Sheet (the sheet of a list of pairs, and one pair more); Promise (what the public functions promise); Claims (what is proved of the sheet of a list). By itself: Needs (what the parts of a search ask for and pass on; nothing public speaks of it).
pub mod Sheet
pub mod Promise
pub mod Claims
pub mod Needs
