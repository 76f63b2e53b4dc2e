use Rattle.std.proofs.Common.{ap, refl, rules}
use Rattle.mc_seats.specs.Step.{is_fault}
use Rattle.mc_seats.proofs.MemberWords.{members}
use Rattle.mc_acts.proofs.LiftFacts.{around_goes, around_says}
use Rattle.mc_acts.proofs.files.load_in.Goals as goal

pub returns-in-Ok-load : goal.returns-in-Ok-load
returns-in-Ok-load g c = record {
  acts = record {
    row = search rules;
    short = search rules;
    not_bad = search rules;
    goes = around_says (members g.K.Keeper g.K.Counted) g.K.Desk.Counted.faults _ _ _ _ (ap is_fault c.in-Ok-load.ensures.ok.1) refl refl;
    entries_same = search rules;
  };
}

pub returns-in-Err-load : goal.returns-in-Err-load
returns-in-Err-load g c = record {
  acts = record {
    row = search rules;
    short = search rules;
    not_bad = search rules;
    goes = around_goes (members g.K.Keeper g.K.Counted) g.K.Desk.Counted.faults _ _ _ refl refl;
    entries_same = search rules;
  };
}

pub returns-in-Err : goal.returns-in-Err
returns-in-Err g c = record {
  acts = record {
    row = search rules;
    short = search rules;
    not_bad = search rules;
    goes = around_goes (members g.K.Keeper g.K.Counted) g.K.Desk.Counted.faults _ _ _ refl refl;
    entries_same = search rules;
  };
}
