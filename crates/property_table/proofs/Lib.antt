pub mod Cells
pub mod Placing
pub mod Moving
pub mod Ordered
pub mod Walking
