use Rattle.std.proofs.Common.{◌∙◌, ap, sym, Some}
use Rattle.indexmap.specs.Entry.{entry_map_ref, entry_value, map_with_value}
use Rattle.indexmap.specs.IndexMap.{get}
use Rattle.mc_model.specs.Front.{same_cid}
use Rattle.mc_queue.proofs.FitsFacts.{added_fits, is_wanted, none_wanted, used_at}
use Rattle.mc_queue.proofs.queue.Queue.enter.Goals as goal

pub returns-in-Occupied-clause-used : goal.returns-in-Occupied-clause-used
returns-in-Occupied-clause-used c = used_at (get same_cid c.args.self.now.places) c.args.self.now.lists c.args.self.now.fits c.args.cid (Some c.get.result.now) (sym c.get.ensures ∙ sym (ap entry_value c.in-Occupied.is) ∙ c.in-Ok.ensures.value)

pub returns-in-Occupied-clause-wanted : goal.returns-in-Occupied-clause-wanted
returns-in-Occupied-clause-wanted c = is_wanted (get same_cid c.args.self.now.places) c.args.self.now.lists c.args.self.now.fits c.args.cid (Some c.get.result.now) (sym c.in-Ok.ensures.value ∙ ap entry_value c.in-Occupied.is ∙ c.get.ensures)

pub returns-in-Vacant-clause-wanted : goal.returns-in-Vacant-clause-wanted
unfolding entry_value
returns-in-Vacant-clause-wanted c = sym (none_wanted (get same_cid c.args.self.now.places) c.args.self.now.lists c.args.self.now.fits c.args.cid (sym c.in-Ok.ensures.value ∙ ap entry_value c.in-Vacant.is))

pub invariant_of-self-in-Vacant-clause-fits : goal.invariant_of-self-in-Vacant-clause-fits
unfolding entry_value
invariant_of-self-in-Vacant-clause-fits c =
    added_fits (get same_cid c.args.self.now.places) _ c.args.self.now.lists c.add.new.self c.args.self.now.fits c.args.cid c.add.result 0 c.list.result (sym c.in-Ok.ensures.value ∙ ap entry_value c.in-Vacant.is)
    (λ other.
    let put = c.insert_entry.ensures in
    let now = c.self-in-Vacant-1.given.1 (sym (put.0 ∙ sym (ap (λ e. (entry_map_ref e).ghost_name) c.in-Vacant.is) ∙ c.in-Ok.ensures.same_map)) in
    ap (λ m. get same_cid m other) (now ∙ put.1 ∙ sym (ap (λ e. map_with_value e c.add.result) c.in-Vacant.is)) ∙ (c.in-Ok.ensures.update.0 c.add.result).0 other) c.add.ensures.entries c.add.ensures.fresh c.add.ensures.used c.add.ensures.places
