-- Read in this order: Placing (bytes put into a room); Numerals (numbers in decimal); Zeros (what is printed has no zero byte); Unique (nothing else meets the contract).
pub mod Placing
pub mod Numerals
pub mod Zeros
pub mod Unique
