use Rattle.std.proofs.Common.{◌≡◌, ◌∙◌, ap, arith, ◌++◌, sym}
use Rattle.mc_list.specs.Views.{entries}
use Rattle.mc_inbox.specs.Waiting.{Waiting}
use Rattle.mc_inbox.proofs.InboxFacts.{is_less, is_taken, items_length}
use Rattle.mc_inbox.proofs.inbox.Inbox.take.Goals as goal

pub invariant_of-self : goal.invariant_of-self
invariant_of-self c =
    let less = is_less c.in_ok-place.place c.take.result (entries c.self.inside.lists 0) (entries c.self.inside.lists 1 ++ (entries c.self.inside.lists 2 ++ entries c.self.inside.lists 3)) (entries c.take.new.self 0)
    c.in_ok-place.ensures.first (c.no_place_stands_twice.ensures c.in_ok-place.place) (c.take.ensures.entries 0) in
    let old = items_length (entries c.self.inside.lists 0) in
    let new = items_length (entries c.take.new.self 0) in
    let few = c.self.invariant in omega (arith, less, old, new, few)

pub returns-clause-taken : goal.returns-clause-taken
returns-clause-taken c =
    ap (λ (w : Waiting). w.items) (sym c.self.view_is)
    ∙ is_taken c.in_ok-place.place c.take.result (entries c.self.inside.lists 0) (entries c.self.inside.lists 1 ++ (entries c.self.inside.lists 2 ++ entries c.self.inside.lists 3)) (entries c.take.new.self 0)
    c.in_ok-place.ensures.first c.take.ensures.item (c.no_place_stands_twice.ensures c.in_ok-place.place) (c.take.ensures.entries 0)

pub returns-clause-room : goal.returns-clause-room
returns-clause-room c =
    let less = is_less c.in_ok-place.place c.take.result (entries c.self.inside.lists 0) (entries c.self.inside.lists 1 ++ (entries c.self.inside.lists 2 ++ entries c.self.inside.lists 3)) (entries c.take.new.self 0)
    c.in_ok-place.ensures.first (c.no_place_stands_twice.ensures c.in_ok-place.place) (c.take.ensures.entries 0) in
    let room = ap (λ (w : Waiting). w.room) c.self.view_is in
    let spare = c.take.ensures.spare in omega (arith, less, room, spare)
