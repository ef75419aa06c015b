-- Read in this order: Scans (the laws behind the loops); Classes; Words; Numbers; Runs; Laws (what a notation must show); Cuts (the
-- tokens of a text one after another); Spelt (the tokens are those that the bytes spell); Machines (where a reader stops); Refusals (it stops where it should); Unique (nothing else meets a
-- contract).
pub mod Scans
pub mod Classes
pub mod Words
pub mod Numbers
pub mod Runs
pub mod Laws
pub mod Cuts
pub mod Spelt
pub mod Machines
pub mod Refusals
pub mod Unique
