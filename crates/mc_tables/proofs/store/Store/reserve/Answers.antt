use Rattle.mc_tables.proofs.Reserves.{fits_reserved, room_reserved, winners_reserved}
use Rattle.mc_tables.proofs.store.Store.reserve.Goals as goal

pub invariant_of-self : goal.invariant_of-self
invariant_of-self g c =
    record {
      fits = fits_reserved c.args.self.now.tables c.reserve_tables.new.tables c.reserve_tables.ensures.reserved c.args.self.now.fits;
      roomy = room_reserved c.args.self.now.tables c.reserve_tables.new.tables c.reserve_tables.ensures.reserved c.args.self.now.room c.args.self.now.roomy;
      winners = winners_reserved c.args.self.now.tables c.reserve_tables.new.tables c.reserve_tables.ensures.reserved c.args.self.now.fits c.args.self.now.winners;
    }

pub invariant_of-self-2 : goal.invariant_of-self-2
invariant_of-self-2 g c =
    record {
      fits = fits_reserved c.args.self.now.tables c.reserve_tables.new.tables c.reserve_tables.ensures.reserved c.args.self.now.fits;
      roomy = c.in_ok-reserve_tables.ensures.ok;
      winners = winners_reserved c.args.self.now.tables c.reserve_tables.new.tables c.reserve_tables.ensures.reserved c.args.self.now.fits c.args.self.now.winners;
    }
