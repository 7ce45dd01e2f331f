pub mod KeyHistories
pub mod RowEntries
pub mod SlotChanges
pub mod SlotCounts
pub mod SlotMarks
