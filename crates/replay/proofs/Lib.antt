-- Laws, by subject, in an order that can be read.
-- Who steps and what is refused: Picking (which thread a writer lets step), Refusals.
-- The kept state and the machine of `schedules`: Phases and Waits (what kept barriers and waits stand for), Few (how long a schedule is), Ties (the two states beside each other, and that
-- counters stay small), Tied (one step of both).
-- Whole schedules: Plays (a replay), Told (what is told of it), Places (where that stands), Schedules (legal, complete and clean are the same for both), Writing (what a choice writes
-- is complete), Wrote (the writers' two doors), Precede (what stands before what), Steering (the schedule in which some commands go first runs them as far as they go), Agreements, Unique (the
-- doors have one answer each).
pub mod Picking
pub mod Refusals
pub mod Phases
pub mod Waits
pub mod Few
pub mod Ties
pub mod Tied
pub mod Plays
pub mod Told
pub mod Places
pub mod Schedules
pub mod Writing
pub mod Wrote
pub mod Precede
pub mod Steering
pub mod Agreements
pub mod Unique
