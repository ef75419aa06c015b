-- Read in this order: Marks (a space, a newline); Figures (numbers in decimal); Putting (bytes put into a room); Zeros (bytes without a zero).
pub mod Marks
pub mod Figures
pub mod Putting
pub mod Zeros
