pub mod Appending
pub mod Working
pub mod Answering
