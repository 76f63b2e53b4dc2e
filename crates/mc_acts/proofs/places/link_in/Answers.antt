use Rattle.std.proofs.Common.{refl, rules}
use Rattle.mc_seats.proofs.MemberWords.{members}
use Rattle.mc_acts.proofs.LiftFacts.{around_goes}
use Rattle.mc_acts.proofs.places.link_in.Goals as goal

pub returns-in-Ok : goal.returns-in-Ok
returns-in-Ok g c = record {
  acts = record {
    row = search rules;
    short = search rules;
    not_bad = search rules;
    goes = around_goes (members g.K.Keeper g.K.Counted) g.K.Desk.Counted.faults _ _ _ refl refl;
    entries_same = search rules;
  };
}

pub returns-in-Err : goal.returns-in-Err
returns-in-Err g c = record {
  acts = record {
    row = search rules;
    short = search rules;
    not_bad = search rules;
    goes = around_goes (members g.K.Keeper g.K.Counted) g.K.Desk.Counted.faults _ _ _ refl refl;
    entries_same = search rules;
  };
}
