pub mod Screening
pub mod Trees
pub mod Spans
pub mod Refusals
