pub mod Runs
pub mod Stays
pub mod Promise
pub mod Examples
