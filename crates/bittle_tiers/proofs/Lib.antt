-- Lemmas.
pub mod Summaries
