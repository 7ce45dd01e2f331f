pub mod Entries
pub mod KeyLaws
pub mod Keys
pub mod SlotSets
