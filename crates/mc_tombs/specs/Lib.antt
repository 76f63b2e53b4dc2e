pub mod Tombs
