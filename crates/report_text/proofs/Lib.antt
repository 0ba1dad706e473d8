pub mod Pieces
pub mod Folders
pub mod Numbers
pub mod Printing
pub mod Ids
