pub mod OnOk
pub mod TombFacts
