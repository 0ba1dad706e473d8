pub mod Shape
pub mod Reports
pub mod State
