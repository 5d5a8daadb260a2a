pub mod Chain
pub mod Forward
pub mod Backward
pub mod Unique
pub mod Next
pub mod Stuck
pub mod Trace
pub mod Joined
