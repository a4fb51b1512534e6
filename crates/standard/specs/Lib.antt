pub mod Ts36321
pub mod Conformance
