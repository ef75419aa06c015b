-- Read in this order: Rules (which tables pass, and what they keep to); Promise (what the public functions promise); Claims (what is proved: exactly the tables that keep the rules pass). By itself: Needs (what the parts pass on; nothing public speaks of it).
pub mod Rules
pub mod Promise
pub mod Claims
pub mod Needs
