-- Evident (the schedules that are written as evidence are that); Putting (schedules put into a room one after the other); Slices (which stand where, and that tables
-- that are alike write the same); Verdicts (the evidence for 10 and 11, by the verdict and the sheet); Shown (for what a review found); Filling and Doors (the contract, from what the parts leave); Bounds (how large its numbers are);
-- Unique.
pub mod Evident
pub mod Putting
pub mod Slices
pub mod Verdicts
pub mod Shown
pub mod Filling
pub mod Doors
pub mod Bounds
pub mod Unique
