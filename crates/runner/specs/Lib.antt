-- What comes of a whole run, what its functions ask for and promise, and what is proved of runs from anywhere.
pub mod Outcome
pub mod Promises
pub mod Results
