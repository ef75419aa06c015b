-- Read in this order: Conclusion (what the review of a text tells; its report is crates/report's); Promise (what the text review promises); Evidence (what the text review with
-- evidence promises); Claims (what holds of every text); OneReport (what texts of one program have in common); Examples (the starred report). By itself: Needs (what the parts ask of rooms, and leave in them).
pub mod Conclusion
pub mod Promise
pub mod Evidence
pub mod Claims
pub mod OneReport
pub mod Examples
pub mod Needs
