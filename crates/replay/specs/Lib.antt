-- A step, a whole schedule and how it ends stand in the crate `steps`. Read here, in this order: Writer (the schedules that are written); Schedules (which are legal and complete, which
-- end clean, whether all agree); Doors (what the judge and the writers promise); Claims (the schedules are those of the theory). By itself: Needs (which commands go first, as a list that a function is lent).
pub mod Writer
pub mod Schedules
pub mod Doors
pub mod Claims
pub mod Needs
