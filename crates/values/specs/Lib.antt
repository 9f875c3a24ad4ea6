-- What the operators give, over whole numbers.
pub mod Values
