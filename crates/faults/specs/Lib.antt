-- Read in this order: Faults (reuse faults, races, their order); Tests (the same of what is seen of two commands); Promise (what the public functions promise); Claims (what is proved of the tests and of the order).
pub mod Faults
pub mod Tests
pub mod Promise
pub mod Claims
