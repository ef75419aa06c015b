-- Read in this order: Shape (what holds in every reachable configuration); Sweep (threads that each take their steps, one after the other); Simulate (a warp's step, matched lane by
-- lane); Proceed (Table 2 as a function); Theorems (one proof for each name of Claims).
pub mod Shape
pub mod Sweep
pub mod Simulate
pub mod Proceed
pub mod Theorems
