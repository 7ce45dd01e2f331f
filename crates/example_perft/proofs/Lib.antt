pub mod Stones
