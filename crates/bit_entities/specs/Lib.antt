pub mod Entities
pub mod EntityLaws
