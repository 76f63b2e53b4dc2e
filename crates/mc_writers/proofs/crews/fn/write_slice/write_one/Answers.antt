use Rattle.mc_writers.proofs.crews.fn.write_slice.write_one.Goals as goal

pub write_all-requires : goal.write_all-requires
write_all-requires g c = record { own = c.requires.0.own; unsealed = c.requires.0.unsealed; unused = c.requires.0.unused; short = c.requires.1 }
