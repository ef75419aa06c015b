-- Unique: no other answer meets a contract.
pub mod Unique
