-- The lemmas that crates above cite.
pub mod Shaped
pub mod Loops
pub mod Lawful
pub mod Good
pub mod Reaches
pub mod Separated
pub mod Operators
pub mod Heights
pub mod Names
pub mod ExpressionsGood
pub mod Exact
pub mod StatementsGood
pub mod Turns
pub mod NamesReach
pub mod ExpressionsReach
pub mod StatementsReach
