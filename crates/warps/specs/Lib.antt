-- Read in this order, beside document 001: Language (3.1), Warp (Table 2), Threads (Table 4), Projection (Table 5), Programs (where a break may stand), Claims (what is proved), Lists
-- (statement lists told by rows).
pub mod Language
pub mod Warp
pub mod Threads
pub mod Projection
pub mod Programs
pub mod Claims
pub mod Lists
