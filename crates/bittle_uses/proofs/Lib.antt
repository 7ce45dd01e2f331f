pub mod MacroLists
pub mod JoinedWords
pub mod SieveSteps
pub mod RoleOrder
pub mod Subsets
pub mod Lasts
