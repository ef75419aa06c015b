-- Laws, by subject, in an order that can be read: Searching (the pairs of a search, added to a sheet), Listing (the lists that it goes through), Looks (what a search tells), Founds (the contract of
-- `find_faults`), Unique (the doors have one outcome each).
pub mod Searching
pub mod Listing
pub mod Looks
pub mod Founds
pub mod Unique
