use Rattle.mc_tables.proofs.Reserves.{fits_pruned, room_pruned, winners_pruned}
use Rattle.mc_tables.proofs.store.Store.live_elements.Goals as goal

pub invariant_of-self : goal.invariant_of-self
invariant_of-self g c = record {
  fits = fits_pruned c.args.self.now.tables c.live_elements_of.new.elements c.live_elements_of.ensures.pruned c.live_elements_of.ensures.keys c.args.self.now.fits;
  roomy = room_pruned c.args.self.now.tables c.live_elements_of.new.elements c.args.self.now.room c.live_elements_of.ensures.keys c.live_elements_of.ensures.len c.live_elements_of.ensures.capacity c.args.self.now.roomy;
  winners = winners_pruned c.args.self.now.tables c.live_elements_of.new.elements c.live_elements_of.ensures.pruned c.live_elements_of.ensures.keys c.args.self.now.winners;
}
