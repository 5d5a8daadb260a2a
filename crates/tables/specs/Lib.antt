pub mod Forming
pub mod Refusals
pub mod Screened
pub mod SyntaxLaws
