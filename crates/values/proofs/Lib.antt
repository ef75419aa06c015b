-- Read in this order: Filling (the value of a row from those of the rows before it); Several (the same for several lanes at once); Lanewise (the lanes for which it is not 0); Unique (the doors have one answer each).
pub mod Filling
mod Several
pub mod Lanewise
pub mod Unique
