pub mod Numbers
pub mod Versions
pub mod Sendings
