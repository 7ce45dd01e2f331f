pub mod Board
pub mod MacroLists
pub mod Primes
