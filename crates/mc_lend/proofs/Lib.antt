mod LendFacts
pub mod Firsts
