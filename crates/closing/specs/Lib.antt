-- Chains and tables of bits stand in the crate `relation` (Chains, Table). Read here: Promise (what the public function promises). By itself: Needs (what the parts ask for and pass on: how the rounds go; nothing public speaks of it).
pub mod Promise
pub mod Needs
