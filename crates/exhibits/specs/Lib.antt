-- Read in this order: Lines of wording; Shown (what a schedule shows); Exhibits (all that is printed). By itself: Needs (what the parts ask for, and answer).
pub mod Shown
pub mod Exhibits
pub mod Needs
