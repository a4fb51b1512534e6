pub mod Figures
pub mod Sites
