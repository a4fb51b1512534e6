pub mod Writing
pub mod Turning
pub mod Calling
pub mod Promising
pub mod Answering
