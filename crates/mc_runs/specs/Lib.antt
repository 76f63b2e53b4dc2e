pub mod Runs
pub mod Promises
pub mod OneText
pub mod OneEnd
pub mod Exports
