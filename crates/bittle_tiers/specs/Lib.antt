-- What the contracts and the impls of sets with a summary cite.
pub mod Tiers
pub mod TierLaws
