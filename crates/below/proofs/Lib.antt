pub mod Records
pub mod Taping
