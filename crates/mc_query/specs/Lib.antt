pub mod Ahead
pub mod Answers
pub mod Places
pub mod Reads
