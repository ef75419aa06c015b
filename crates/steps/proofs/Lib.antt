-- Laws, by subject, in an order that can be read: RowTests (what a row is and what it changes, from the tests), Changing (what a step changes is what it does), Stepping (one step: when it is
-- allowed, and what a loop over steps needs), Entries (entries of a schedule, and joined ones), Endings (how a replay ended), Filled (a room that a schedule fills), Written (the loop of the schedule writer), Unique
-- (nothing else meets a contract).
pub mod RowTests
pub mod Changing
pub mod Stepping
pub mod Entries
pub mod Endings
pub mod Filled
pub mod Written
pub mod Unique
