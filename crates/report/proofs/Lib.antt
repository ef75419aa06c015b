-- Read in this order: Lines (the report's lines); Long (how long a report of small numbers is); Retold (a report tells its conclusion again); Zeros (it has no zero byte). That nothing else meets the
-- contract of `print` is `puts_unique` of printing.
pub mod Lines
pub mod Long
pub mod Retold
pub mod Zeros
