use Rattle.std.proofs.Common.{inl, inr}
use Rattle.mc_tables.specs.Fits.{kept_in, Fits, HasWinners}
use Rattle.mc_tables.proofs.CommitFacts.{after_blocks, after_migration, meet_blocks, meet_migration}
use Rattle.mc_tables.proofs.store.Store.commit.Goals as goal

pub invariant_of-self : goal.invariant_of-self
invariant_of-self g c =
    let kept = kept_in c.args.self.now.tables in
    let both : Fits c.commit_tables-self.new.tables × HasWinners c.commit_tables-self.new.tables = elim c.requires.fit [
      | inl fit ↦ after_blocks c.args.self.now.tables c.args.changes c.args.self.now.fits c.commit_tables-self.new.tables c.commit_tables-self.ensures.applied fit
          (c.commits_are_events.ensures.sound kept c.args.changes c.args.self.now.fits.kept fit.store fit.marks)
          (c.changes_fit.ensures.processed kept c.args.changes c.args.self.now.fits.kept) c.args.self.now.winners
      | inr fit ↦ after_migration c.args.self.now.tables c.args.changes c.args.self.now.fits c.commit_tables-self.new.tables c.commit_tables-self.ensures.applied fit
          (c.migrations_fit.ensures c.args.self.now.tables.layout kept c.args.changes fit) c.args.self.now.winners
    ] in
    record {
      fits = both.0;
      roomy = c.commit_tables-self.ensures.room;
      winners = both.1;
    }

pub commit_tables-self-requires-clause-meet : goal.commit_tables-self-requires-clause-meet
commit_tables-self-requires-clause-meet g c = elim c.requires.fit [
  | inl fit ↦ meet_blocks c.args.self.now.tables c.args.changes c.args.self.now.fits fit
  | inr fit ↦ meet_migration c.args.self.now.tables c.args.changes c.args.self.now.fits fit
]
