-- Lines: what a schedule shows, in words, and the schedule.
pub mod Lines
