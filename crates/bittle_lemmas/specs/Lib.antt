pub mod ExcludedSets
