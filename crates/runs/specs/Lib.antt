-- Read in this order: Run (a run, and what the door promises), Denotes (the tables and the warp in document 001's words), Claims (what is proved).
pub mod Run
pub mod Denotes
pub mod Claims
