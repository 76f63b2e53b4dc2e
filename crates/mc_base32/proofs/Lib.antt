pub mod BitFacts
pub mod DigitFacts
pub mod GroupFacts
pub mod Laws
pub mod TextFacts
pub mod WordFacts
