-- The events of a replica together with the layout of its keeper: a migration comes before it is opened, and changes
-- nothing but the layout and the winner rows.
use Rattle.std.specs.Prelude.{⊤, ◌≡◌, ℕ, zero, suc, Bool, true, false, List, [], ◌∷◌, fold, None}
use Rattle.mc_model.specs.declared.layout.Layout.{Layout}
use Rattle.mc_model.specs.declared.layout.Layout.TheVariants.{Two}
use Rattle.mc_model.specs.Events.{Event, Open, MayCome, happens}
use Rattle.mc_model.specs.Layouts.{is_two, migrated}
use Rattle.mc_model.specs.State.{State, IsSound, blocks_of}

-- a replica that runs, or doesn't, with the layout of its keeper
pub record Laid : Type 0 where
  pub state : State
  pub layout : Layout

-- Does: an event of the replica. Migrate: one commit of a migration.
pub data Move : Type 0 where
  Does : (event : Event) → Move
  Migrate : Move

abbrev pub is_open : Event → Bool
is_open Open = true
is_open event = false

-- where a move may come: a migration before the replica runs, as long as rows are still to come; an opening where
-- none is
abbrev pub MayMove : Laid → Move → Type 0
MayMove laid (Does event) =
    MayCome laid.state.durable laid.state.run event × (is_open event ≡ true → laid.layout ≡ Two)
MayMove laid Migrate = (laid.state.run ≡ None) × (is_two laid.layout ≡ false)

abbrev pub moved : Laid → Move → Laid
moved laid (Does event) = record { state = happens laid.state event; layout = laid.layout }
moved laid Migrate = record { state = laid.state; layout = migrated (blocks_of laid.state.durable) laid.layout }

-- after moves, one after another
abbrev pub after_moves : Laid → List Move → Laid
after_moves laid moves = fold moved laid moves

abbrev pub MayMoveAll : Laid → List Move → Type 0
MayMoveAll laid [] = ⊤
MayMoveAll laid (move ∷ moves) = MayMove laid move × MayMoveAll (moved laid move) moves

-- the state is sound before each move, and after the last
abbrev pub StaysSoundOver : Laid → List Move → Type 0
StaysSoundOver laid [] = IsSound laid.state
StaysSoundOver laid (move ∷ moves) = IsSound laid.state × StaysSoundOver (moved laid move) moves

-- a commit of a migration that fails has happened wholly, or not at all
abbrev pub failed_migrate : Bool → List Move
failed_migrate true = Migrate ∷ []
failed_migrate false = []

-- whether a move is a migration
abbrev pub is_migrate : Move → Bool
is_migrate (Does event) = false
is_migrate Migrate = true

-- the layout after so many commits of a migration
abbrev pub migrated_by : ℕ → State → Layout → Layout
migrated_by zero state layout = layout
migrated_by (suc commits) state layout = migrated_by commits state (migrated (blocks_of state.durable) layout)
