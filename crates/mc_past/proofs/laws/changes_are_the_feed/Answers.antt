use Rattle.mc_past.proofs.FeedFacts.{all_changes_are_feed, changes_are_feed}
use Rattle.mc_past.proofs.laws.changes_are_the_feed.Goals as goal

pub returns-clause-part : goal.returns-clause-part
returns-clause-part c = changes_are_feed

pub returns-clause-all : goal.returns-clause-all
returns-clause-all c = all_changes_are_feed
