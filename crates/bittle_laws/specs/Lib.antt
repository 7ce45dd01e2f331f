pub mod AlgebraLaws
pub mod ComparisonLaws
pub mod CountLaws
pub mod ListLaws
pub mod OrderLaws
