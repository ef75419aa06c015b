-- Laws, by subject, in an order that can be read: Leading (leaders), Drawing (what is listed reaches as far as happens-before), Reaching (what a room holds that holds happens-before), Unique (the door has
-- one outcome).
pub mod Leading
pub mod Drawing
pub mod Reaching
pub mod Unique
