-- Read in this order: Words (a set as a list of words, however many); Set (a set of threads); Promise (what the public functions promise).
pub mod Words
pub mod Set
pub mod Promise
