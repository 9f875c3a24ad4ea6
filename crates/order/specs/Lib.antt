-- Orders of levels: faults and laws, refusals 1 and 2, the order upside down.
pub mod Order
pub mod Rows
pub mod Refusals
