pub mod Walking
pub mod Cutting
pub mod Joining
pub mod Spelling
pub mod Rounds
