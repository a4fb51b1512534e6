pub mod Standing
pub mod Texts
pub mod Answers
pub mod Sessions
