use Rattle.std.proofs.Common.{◌≡◌, ◌∙◌, ap, arith, ◌++◌, sym}
use Rattle.mc_list.specs.Views.{entries}
use Rattle.mc_inbox.specs.Waiting.{Waiting, turned}
use Rattle.mc_inbox.proofs.InboxFacts.{is_turned, items_length, turned_length}
use Rattle.mc_inbox.proofs.inbox.Inbox.turn_one.Goals as goal

pub invariant_of-self : goal.invariant_of-self
invariant_of-self c =
    let same = turned_length c.in-Some.place (entries c.self.inside.lists 0) (entries c.self.inside.lists 1 ++ (entries c.self.inside.lists 2 ++ entries c.self.inside.lists 3)) (entries c.shift.new.self 0)
    c.in-Some.ensures.first (c.no_place_stands_twice.ensures c.in-Some.place) (c.shift.ensures.entries 0) in
    let old = items_length (entries c.self.inside.lists 0) in
    let new = items_length (entries c.shift.new.self 0) in
    let few = c.self.invariant in omega (arith, same, old, new, few)

pub returns-in-Some-clause-items : goal.returns-in-Some-clause-items
returns-in-Some-clause-items c =
    is_turned c.in-Some.place (entries c.self.inside.lists 0) (entries c.self.inside.lists 1 ++ (entries c.self.inside.lists 2 ++ entries c.self.inside.lists 3)) (entries c.shift.new.self 0)
    c.in-Some.ensures.first (c.no_place_stands_twice.ensures c.in-Some.place) (c.shift.ensures.entries 0)
    ∙ ap (λ (w : Waiting). turned w.items) c.self.view_is

pub returns-in-Some-clause-room : goal.returns-in-Some-clause-room
returns-in-Some-clause-room c =
    let same = turned_length c.in-Some.place (entries c.self.inside.lists 0) (entries c.self.inside.lists 1 ++ (entries c.self.inside.lists 2 ++ entries c.self.inside.lists 3)) (entries c.shift.new.self 0)
    c.in-Some.ensures.first (c.no_place_stands_twice.ensures c.in-Some.place) (c.shift.ensures.entries 0) in
    let room = ap (λ (w : Waiting). w.room) c.self.view_is in
    let spare = c.shift.ensures.spare in omega (arith, same, room, spare)
