-- What the calls answer, and the words of it for C.
pub mod Results
pub mod Words
