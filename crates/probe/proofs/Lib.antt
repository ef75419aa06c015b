-- Laws, by subject: Fitting (what is told fits its places), Putting (numbers put into a room), Telling (what was put is what is promised), Unique
-- (the doors have one answer each).
mod Fitting
mod Putting
mod Telling
pub mod Unique
