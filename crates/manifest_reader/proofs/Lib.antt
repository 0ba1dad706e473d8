pub mod Views
pub mod JsonFiles
pub mod Memory
