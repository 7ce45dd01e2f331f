pub mod PassedGroups
pub mod PassedWords
pub mod CallableBelow
pub mod ListedMembers
pub mod CallerMembers
pub mod CallerSpans
pub mod CallerShifts
pub mod CombinedSets
mod CombinedWords
mod Complements
mod CopiedRanges
mod DigitTexts
mod EdgeRuns
mod EdgeWords
pub mod FoundBits
pub mod FoundSizes
mod GrownSets
pub mod KeptMembers
pub mod KeptSizes
mod MaximalRuns
pub mod NumberBits
mod OneBit
pub mod IncludedSets
pub mod CommonCounts
pub mod RangeAnswers
mod RangeItems
mod RangesBelow
mod PassingMembers
mod RankedBits
pub mod RankFacts
pub mod RelationFacts
mod RetainSteps
mod ReversedBits
mod RetainedWords
mod RotatedSets
mod RotatedSizes
mod RotatedWords
pub mod RunCounts
mod ShiftedWords
mod WholeWords
mod Windows
mod WordsReplaced
pub mod ZeroCounts
pub mod RunFacts
mod RunLists
mod ShortRuns
pub mod UnsetSpans
pub mod SetFacts
mod ViewFacts
