-- Read in this order: Fronts (a list mapped in place); Turns (each answer, from the tests); Kept (the sets that a schedule writer keeps); Unique (nothing else meets a contract).
pub mod Fronts
pub mod Turns
pub mod Kept
pub mod Unique
