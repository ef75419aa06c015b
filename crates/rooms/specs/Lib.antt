-- Read in this order: Short (the first room of a list that is short); Refusals (1 to 4); Rooms (numbers in a room); Promise (what the public functions promise). By itself: Needs (what the parts of a search ask for and pass on; nothing public speaks of it).
pub mod Short
pub mod Refusals
pub mod Rooms
pub mod Promise
pub mod Needs
