-- Programs (tables that pass are a lawful program, and their lengths are its threads); Reaching (what reaches what hangs on generations, and follows a thread).
pub mod Programs
pub mod Reaching
