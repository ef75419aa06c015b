-- Laws: Rooms (lists of rooms), Refusals (1 to 4, each from the test that found it; tables and rooms that pass), Unique (the public functions have one answer each).
pub mod Rooms
pub mod Refusals
pub mod Unique
