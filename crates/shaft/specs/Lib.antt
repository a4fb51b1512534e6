pub mod Coming
pub mod Reports
pub mod Sources
