pub mod NumeralLaws
pub mod EightLaws
