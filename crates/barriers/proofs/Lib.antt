-- Registering: counters, and what a registration meets, from the tests. Unique: nothing else meets a contract.
pub mod Registering
pub mod Unique
