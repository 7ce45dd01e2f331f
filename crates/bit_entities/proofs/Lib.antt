pub mod Counts
pub mod EntityLaws
pub mod Histories
pub mod LeastDead
pub mod Masks
pub mod Matches
pub mod Worlds
pub mod Others
