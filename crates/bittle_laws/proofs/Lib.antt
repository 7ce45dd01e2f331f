pub mod AlgebraLaws
pub mod CallerAlgebra
pub mod CountLaws
pub mod ListLaws
