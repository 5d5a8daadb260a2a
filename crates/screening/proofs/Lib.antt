pub mod Scans
pub mod Laid
pub mod Forests
pub mod Citing
pub mod Growth
pub mod Unique
pub mod Laws
pub mod Held
