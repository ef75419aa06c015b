-- Read in this order: counting; logs of commands, one step, what holds after every log; a clean log, what agrees with it and what strays from
-- it; the order of commands; then schedules of threads, and one proof for each claim; last, the schedules that show a fault (Astray, of logs, and Showing).
pub mod Tally
pub mod Logs
pub mod Step
pub mod Good
pub mod Tests
pub mod Along
pub mod Final
pub mod Agree
pub mod Sound
pub mod Table
pub mod Cut
pub mod Soon
pub mod Real
pub mod Ordered
pub mod Threads
pub mod Completes
pub mod Decided
pub mod Theorems
pub mod Astray
pub mod Showing
