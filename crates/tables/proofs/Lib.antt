mod Sorted
mod Formed
