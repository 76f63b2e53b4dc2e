pub mod KeyRule
pub mod Prefix
