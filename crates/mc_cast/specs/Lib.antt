pub mod Cast
pub mod Reads
pub mod Steps
