-- Laws, in an order that can be read: Sheets (pairs added one after the other), Unique (each function has one outcome).
pub mod Sheets
pub mod Unique
