-- Laws of lists and their cursors.
pub mod Lists
