use Rattle.std.proofs.Common.{◌≡◌, ◌∙◌, ap, arith, length, sym, true}
use Rattle.std.specs.List.{list_all}
use Rattle.mc_list.specs.Views.{entries}
use Rattle.mc_model.specs.declared.block.Stored.{Stored}
use Rattle.mc_model.specs.Offer.{is_good}
use Rattle.mc_inbox.specs.Waiting.{Waiting}
use Rattle.mc_inbox.proofs.InboxFacts.{all_good, items_length}
use Rattle.mc_inbox.proofs.inbox.Inbox.is_good.Goals as goal

pub returns-clause-good : goal.returns-clause-good
returns-clause-good c = ap (λ (w : Waiting). list_all (λ (item : Stored). is_good item.cid item.bytes) w.items) (sym c.self.view_is) ∙ all_good (entries c.self.inside.lists 0)

pub returns-clause-room : goal.returns-clause-room
returns-clause-room c =
    let length_is = items_length (entries c.self.inside.lists 0) in
    let items = ap (λ (w : Waiting). length w.items) c.self.view_is in
    let room = ap (λ (w : Waiting). w.room) c.self.view_is in omega (arith, length_is, items, room)
