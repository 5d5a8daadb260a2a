pub mod Code
pub mod Fields
pub mod Syntax
pub mod Derivation
pub mod Citing
