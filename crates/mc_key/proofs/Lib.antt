pub mod PrefixFacts
pub mod RuleFacts
pub mod SegmentFacts
