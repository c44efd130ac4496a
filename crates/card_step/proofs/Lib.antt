pub mod PartsLaws
