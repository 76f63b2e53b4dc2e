pub mod Pulling
