pub mod Trees
pub mod Exact
pub mod Steps
pub mod Shown
