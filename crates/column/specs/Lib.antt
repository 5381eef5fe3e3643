pub mod Checks
pub mod Faults
pub mod Cells
pub mod Columns
pub mod Shapes
pub mod Seen
pub mod Views
