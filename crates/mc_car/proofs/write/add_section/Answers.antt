use Rattle.mc_car.proofs.PlaceFacts.{section_added}
use Rattle.mc_car.proofs.write.add_section.Goals as goal

pub returns : goal.returns
returns c = section_added c.put_block.result c.args.file.now c.put_block.new.out c.args.cid.now c.args.block.now c.put_block.ensures
