-- Read in this order: Verdicts (their numbers and places); Numbers (what a number means); FirstTold (verdicts in the order tested); Promise (what the public function promises).
pub mod Verdicts
pub mod Numbers
pub mod FirstTold
pub mod Promise
