use Rattle.std.proofs.Common.{ap, refl, rules}
use Rattle.mc_seats.specs.Step.{is_fault}
use Rattle.mc_seats.proofs.MemberWords.{members}
use Rattle.mc_acts.proofs.LiftFacts.{around_goes, around_says}
use Rattle.mc_acts.proofs.messages.send_in.Goals as goal

pub returns-in-Ok-send : goal.returns-in-Ok-send
returns-in-Ok-send g c = record {
  acts = record {
    row = search rules;
    short = search rules;
    not_bad = search rules;
    goes = around_says (members g.K.Keeper g.K.Counted) g.K.Desk.Counted.faults _ _ _ _ (ap is_fault c.in-Ok-send.ensures.ok.1) refl refl;
    entries_same = search rules;
  };
}

pub returns-in-Err-send : goal.returns-in-Err-send
returns-in-Err-send g c = record {
  acts = record {
    row = search rules;
    short = search rules;
    not_bad = search rules;
    goes = around_goes (members g.K.Keeper g.K.Counted) g.K.Desk.Counted.faults _ _ _ refl refl;
    entries_same = search rules;
  };
}

pub returns-in-Err : goal.returns-in-Err
returns-in-Err g c = record {
  acts = record {
    row = search rules;
    short = search rules;
    not_bad = search rules;
    goes = around_goes (members g.K.Keeper g.K.Counted) g.K.Desk.Counted.faults _ _ _ refl refl;
    entries_same = search rules;
  };
}
