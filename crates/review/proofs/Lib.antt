-- Laws, by subject, in an order that can be read: Rooms (what goes into the generation room), Judging (demand 3), Telling (demand 2 by any table of what reaches what), Reviews (the contract), Unique (it has one
-- answer), OneFile (what two reviews of one program leave), Bounds (how large its numbers are). By itself: Examples (document 01's starred ones, and one
-- program with two files).
pub mod Rooms
pub mod Judging
pub mod Telling
pub mod Reviews
pub mod Unique
pub mod OneFile
pub mod Bounds
pub mod Examples
