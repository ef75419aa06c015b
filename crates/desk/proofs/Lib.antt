-- Read in this order: Tabled (two tables, judged by
-- the writer's schedule); Texts (a text, read into tables); Demands (what is concluded, by the grammar); Reports (any text's report has room; nothing else meets the
-- promise); Evidenced (the same of the text review with evidence, and that it is so); OneReport (texts of one
-- program have one report); Theorems (the claims). By itself: Examples.
pub mod Tabled
pub mod Texts
pub mod Demands
pub mod Reports
pub mod Evidenced
pub mod OneReport
pub mod Theorems
pub mod Examples
