-- Read in this order: Report (the report's bytes); Claims (what is proved: they tell again what they were made of). What `print` promises is `Prints` of the crate `printing`.
pub mod Report
pub mod Claims
