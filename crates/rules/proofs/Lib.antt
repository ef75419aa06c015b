-- Read in this order: Rules (which tables pass, and what a row keeps to); Broken (the rows as three numbers each); Unique (nothing else meets a contract).
pub mod Rules
pub mod Broken
pub mod Unique
