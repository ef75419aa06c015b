-- Read in this order: Evidence (what evidence is, over the replay's definitions, and which schedules are written); Doors (what a review with
-- evidence promises). By itself: Needs (what the writing asks for, and leaves).
pub mod Evidence
pub mod Doors
pub mod Needs
