-- Laws: Passes (joins in any order leave exactly what can be reached), Sweeping (what the parts of a sweep try), Unique (`put_reach` has one outcome).
pub mod Passes
pub mod Sweeping
pub mod Unique
