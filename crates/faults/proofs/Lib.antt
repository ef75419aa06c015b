-- Laws, by subject: Pairs (which pairs, in what order), Searched (the pairs number by number, and how many), Conflicts, Tests (by the heads of the rows the tests find the faults), Unique.
pub mod Pairs
pub mod Searched
pub mod Conflicts
pub mod Tests
pub mod Unique
