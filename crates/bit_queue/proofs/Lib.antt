pub mod Counting
pub mod Histories
pub mod QueueLaws
pub mod RoundRobinLaws
pub mod Turns
pub mod Urgency
