pub mod StormActs
pub mod PullFacts
pub mod SiteFacts
pub mod PullInFacts
pub mod PulledFacts
pub mod DeskedFacts
