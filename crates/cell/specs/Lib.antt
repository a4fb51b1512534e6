pub mod Effects
pub mod Calls
pub mod Promises
pub mod Cells
