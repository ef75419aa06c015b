-- The tables as a program of `schedules`.
pub mod Program
