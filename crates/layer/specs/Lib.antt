-- The layer of four venues (Layer), what it promises over every list of calls (Promises), and that these promises are not empty (Witness).
pub mod Layer
pub mod Promises
pub mod Witness
