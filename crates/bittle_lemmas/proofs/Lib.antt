pub mod EqualSets
pub mod ExcludedSets
pub mod FoundNumbers
pub mod IncludedPairs
pub mod ListedNumbers
pub mod SetSpans
pub mod StdCounts
pub mod TestedRanges
