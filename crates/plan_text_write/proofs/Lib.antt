pub mod WriteLaws
pub mod RoundTripLaws
