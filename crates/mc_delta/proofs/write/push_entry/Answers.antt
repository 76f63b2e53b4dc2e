use Rattle.mc_delta.proofs.LengthFacts.{entry_written}
use Rattle.mc_delta.proofs.write.push_entry.Goals as goal

pub returns : goal.returns
returns c =
    entry_written c.args.out.now c.args.key.now c.args.id.now c.args.value.now c.put_part_head.new.out c.push_part.new.out c.push_part-2.new.out c.push_part-3.new.out c.args.number c.entry_len-len.result
    c.entry_len-len.ensures c.if-len.false c.in_ok-put_part_head.ensures.ok c.in_ok-push_part.ensures c.in_ok-push_part-2.ensures c.in_ok-push_part-3.ensures
