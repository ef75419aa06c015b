-- Read in this order: Showing (what a schedule shows, from how it is judged); Apart (a schedule at the front of its room);
-- Races (the exhibits of races, pair by pair);
-- Doors (the exhibits of a verdict, by its number); Alike (they ask no more than what is said of rows); True (what is said above a schedule is so); Long (how long they are); Zeros (they have no zero byte).
-- That nothing else meets the contract of `put_exhibits` is `puts_unique` of printing.
pub mod Showing
pub mod Apart
pub mod Races
pub mod Doors
pub mod Alike
pub mod True
pub mod Long
pub mod Zeros
