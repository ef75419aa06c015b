-- Laws, by subject: Words (sets as lists of words, however many); Sets (sets of threads); Unique (nothing else meets a contract).
pub mod Words
pub mod Sets
pub mod Unique
