-- Read in this order: HappensBefore (over offered generations); Promise (what `put_happens_before` promises). By itself: Needs (which edges are listed; nothing public speaks of it).
pub mod HappensBefore
pub mod Promise
pub mod Needs
