-- Read in this order: Tally (counting), Machine (one step of the barriers), Threads (schedules), HappensBefore (what reaches what, and reuse), Claims (what is proved), Shows (which schedules show a
-- fault).
pub mod Tally
pub mod Machine
pub mod Threads
pub mod HappensBefore
pub mod Claims
pub mod Shows
