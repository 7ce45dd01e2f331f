pub mod Graphs
pub mod Shots
