-- The replay is in the crate `replay`, happens-before in `happens`, the faults in `faults`, their verdict and sheet in `findings`. Read here, in this order: Judge (the verdict); Agreement (the
-- three demands, and one file for one program); Examples (the starred ones).
pub mod Judge
pub mod Agreement
pub mod Examples
