pub mod Frames
pub mod Codes
pub mod Written
pub mod Trips
pub mod Worked
pub mod Lines
pub mod Walks
pub mod Books
