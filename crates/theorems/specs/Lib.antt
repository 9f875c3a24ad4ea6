-- What is proved of the calls, about what their contracts (engine/src/lib.rt) say they answer and leave.
pub mod Records
pub mod Results
pub mod Examples
