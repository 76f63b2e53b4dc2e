use Rattle.std.proofs.Common.{◌∙◌, sym, ap, subst, Bool, Some}
use Rattle.mc_node.specs.Entries.{items_at}
use Rattle.mc_node.specs.Seats.{knows}
use Rattle.mc_storm.specs.Storms.{is_bytes}
use Rattle.mc_writers.specs.Writers.{WritesOnce}
use Rattle.mc_writers.proofs.StormCrews.{get_turn, item_at, open_one, put_turn}
use Rattle.mc_writers.proofs.StormSeats.{write_ungot, write_unput, write_whole}
use Rattle.mc_writers.proofs.writing.write_once.Goals as goal

pub returns-in-None-clause-writes : goal.returns-in-None-clause-writes
returns-in-None-clause-writes g c =
    write_unput (item_at g.K.Keeper.told g.K.Keeper.fuse g.K.Keeper.own g.K.Counted.faults g.K.Keeper.quiet g.K.Keeper.schedule) c.args.writer c.args.number c.put-put.result (knows c.args.seat.now) (knows c.put-put.new.seat) (open_one _ c.requires.unsealed)
    (put_turn (item_at g.K.Keeper.told g.K.Keeper.fuse g.K.Keeper.own g.K.Counted.faults g.K.Keeper.quiet g.K.Keeper.schedule) c.args.writer c.args.number _ _ _ _ _ c.requires.key c.to_be_bytes-bytes.ensures c.put-put.ensures.turned) (sym c.end_of_put.ensures ∙ c.in-None.is)

pub returns-in-Ok-clause-writes : goal.returns-in-Ok-clause-writes
returns-in-Ok-clause-writes g c =
    subst (λ (same : Bool). WritesOnce c.args.writer c.args.number (Some (record { made = c.in-Some.made; same = same })) (items_at g.K.Keeper.told g.K.Keeper.fuse g.K.Keeper.own g.K.Counted.faults g.K.Keeper.quiet g.K.Keeper.schedule (knows c.get.new.seat).seen) (knows c.args.seat.now) (knows c.get.new.seat))
    (sym (c.is_bytes-same.ensures ∙ ap (λ bytes. is_bytes bytes c.in-Ok.seen.answer) c.to_be_bytes-bytes.ensures))
    (write_whole (item_at g.K.Keeper.told g.K.Keeper.fuse g.K.Keeper.own g.K.Counted.faults g.K.Keeper.quiet g.K.Keeper.schedule) c.args.writer c.args.number c.in-Some.made c.put-put.result c.in-Ok.seen (knows c.args.seat.now) (knows c.put-put.new.seat) (knows c.get.new.seat) (open_one _ c.requires.unsealed)
    (put_turn (item_at g.K.Keeper.told g.K.Keeper.fuse g.K.Keeper.own g.K.Counted.faults g.K.Keeper.quiet g.K.Keeper.schedule) c.args.writer c.args.number _ _ _ _ _ c.requires.key c.to_be_bytes-bytes.ensures c.put-put.ensures.turned)
    (get_turn (item_at g.K.Keeper.told g.K.Keeper.fuse g.K.Keeper.own g.K.Counted.faults g.K.Keeper.quiet g.K.Keeper.schedule) c.args.writer _ _ _ _ c.requires.key c.in-Ok.ensures.turned) (sym c.end_of_put.ensures ∙ c.in-Some.is))

pub returns-in-Err-clause-writes : goal.returns-in-Err-clause-writes
returns-in-Err-clause-writes g c =
    write_ungot (item_at g.K.Keeper.told g.K.Keeper.fuse g.K.Keeper.own g.K.Counted.faults g.K.Keeper.quiet g.K.Keeper.schedule) c.args.writer c.args.number c.in-Some.made c.put-put.result c.in-Err._error (knows c.args.seat.now) (knows c.put-put.new.seat) (knows c.get.new.seat) (open_one _ c.requires.unsealed)
    (put_turn (item_at g.K.Keeper.told g.K.Keeper.fuse g.K.Keeper.own g.K.Counted.faults g.K.Keeper.quiet g.K.Keeper.schedule) c.args.writer c.args.number _ _ _ _ _ c.requires.key c.to_be_bytes-bytes.ensures c.put-put.ensures.turned)
    (get_turn (item_at g.K.Keeper.told g.K.Keeper.fuse g.K.Keeper.own g.K.Counted.faults g.K.Keeper.quiet g.K.Keeper.schedule) c.args.writer _ _ _ _ c.requires.key c.in-Err.ensures.turned) (sym c.end_of_put.ensures ∙ c.in-Some.is)
