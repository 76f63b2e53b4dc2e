pub mod Within
pub mod OnOk
pub mod CidFacts
pub mod FreshFacts
pub mod GraphFacts
pub mod OrderFacts
pub mod HeadFacts
