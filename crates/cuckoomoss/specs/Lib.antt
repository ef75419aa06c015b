-- Read Printed (what is printed). By itself: Needs (what has come from standard input).
pub mod Printed
pub mod Needs
