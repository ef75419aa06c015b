-- Read in this order: Held (laws of the stack in its room); Towers (calls on it, one after another); Obeying (the rules, as the code comes to them); Doors (what the doors answer, test by test); Unique (nothing else meets the contracts).
pub mod Held
mod Towers
mod Obeying
pub mod Doors
pub mod Unique
