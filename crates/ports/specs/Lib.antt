pub mod Radio
pub mod Source
