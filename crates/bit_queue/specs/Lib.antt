pub mod Queue
pub mod QueueLaws
pub mod RoundRobin
pub mod RoundRobinLaws
