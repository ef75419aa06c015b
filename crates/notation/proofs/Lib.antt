-- Read in this order, after the grammar's: Along (what is found from a place of a text on); Passes (the two passes); Readings (what is answered is what the grammar
-- says); Tabled (which tables a listing has); Unique (nothing else meets a contract).
pub mod Along
pub mod Passes
pub mod Readings
pub mod Tabled
pub mod Unique
