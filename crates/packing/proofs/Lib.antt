-- Laws that callers use.
pub mod Words
