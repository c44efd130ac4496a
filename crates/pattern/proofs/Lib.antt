pub mod FloatLaws
pub mod PatternLaws
pub mod BoundLaws
pub mod ConstantLaws
