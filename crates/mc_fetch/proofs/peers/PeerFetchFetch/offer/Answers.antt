use Rattle.std.proofs.Common.{refl, ◌<◌, ◌/◌, arith, length}
use Rattle.std.proofs.lemmas.Option.{slice_get_read}
use Rattle.mc_fetch.proofs.PeerFacts.{offer_led, offer_told, asks_set}
use Rattle.mc_fetch.proofs.peers.PeerFetchFetch.offer.Goals as goal

pub returns-clause-offer : goal.returns-clause-offer
returns-clause-offer g c =
    let within : c.args.place / 2 < length c.args.self.now.views.items = omega (arith, c.requires.place) in
    let stands = slice_get_read c.args.self.now.views.items _ (c.args.place / 2) c.index_mut-view.result.now refl within c.index_mut-view.ensures.value in
    offer_told g.K.Keeper.told c.args.self.now.views.items c.args.place _ stands c.args.cid.now c.ask_peer.result c.ask_peer.ensures.offer

pub returns-clause-led : goal.returns-clause-led
returns-clause-led g c =
    let within : c.args.place / 2 < length c.args.self.now.views.items = omega (arith, c.requires.place) in
    let stands = slice_get_read c.args.self.now.views.items _ (c.args.place / 2) c.index_mut-view.result.now refl within c.index_mut-view.ensures.value in
    offer_led g.K.Keeper.told c.args.self.now.views.items c.args.place _ stands c.args.cid.now c.ask_peer.result c.ask_peer.ensures.place

pub returns-clause-asks : goal.returns-clause-asks
returns-clause-asks g c =
    let within : c.args.place / 2 < length c.args.self.now.views.items = omega (arith, c.requires.place) in
    let stands = slice_get_read c.args.self.now.views.items _ (c.args.place / 2) c.index_mut-view.result.now refl within c.index_mut-view.ensures.value in
    let asks = asks_set g.K.Keeper.told g.K.Keeper.quiet g.K.Keeper.quiet_desk g.K.Desk.Counted.faults g.K.Keeper.desk_schedule c.args.self.now.views.items (c.args.place / 2) _ _ _ stands c.ask_peer.ensures.asks in
    record {
      offers_same = asks.offers_same;
      leading_same = asks.leading_same;
      places_same = asks.places_same;
      faults_go = asks.faults_go;
      still_quiet = asks.still_quiet;
      calm = asks.calm;
      followed = asks.followed;
    }
