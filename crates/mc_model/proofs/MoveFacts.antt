-- Events and migrations.
use Rattle.std.proofs.Common.{◌≡◌, Bool, true, false, ◌&&◌, List, [], ◌∷◌, refl, ap, ◌∙◌}
use Rattle.std.specs.List.{list_all}
use Rattle.std.proofs.lemmas.Bool.{and_parts}
use Rattle.mc_model.specs.declared.layout.Layout.{Layout}
use Rattle.mc_model.specs.declared.layout.Layout.TheVariants.{Two}
use Rattle.mc_model.specs.Layouts.{migrated}
use Rattle.mc_model.specs.Moves.{Laid, Move, Does, Migrate, MayMoveAll, StaysSoundOver, after_moves, moved, is_migrate, failed_migrate}
use Rattle.mc_model.specs.State.{IsSound, blocks_of}
use Rattle.mc_model.proofs.Sound.{stays_sound}

pub stays_sound_over : (laid : Laid) (moves : List Move) → IsSound laid.state → MayMoveAll laid moves → StaysSoundOver laid moves
stays_sound_over laid [] sound may = sound
stays_sound_over laid (Does event ∷ moves) sound may =
    (sound, stays_sound_over (moved laid (Does event)) moves (stays_sound laid.state (event ∷ []) sound (may.0.0, tt)).1 may.1)
stays_sound_over laid (Migrate ∷ moves) sound may = (sound, stays_sound_over (moved laid Migrate) moves sound may.1)

pub migrations_same : (laid : Laid) (moves : List Move) → list_all is_migrate moves ≡ true → (after_moves laid moves).state ≡ laid.state
migrations_same laid [] all = refl
migrations_same laid (Does event ∷ moves) all = absurd (let no : false ≡ true = all in cc)
migrations_same laid (Migrate ∷ moves) all = migrations_same (moved laid Migrate) moves all

pub failed_same : (laid : Laid) (wholly : Bool) → (after_moves laid (failed_migrate wholly)).state ≡ laid.state
failed_same laid true = refl
failed_same laid false = refl

pub two_stays : (laid : Laid) (moves : List Move) → laid.layout ≡ Two → (after_moves laid moves).layout ≡ Two
two_stays laid [] two = two
two_stays laid (Does event ∷ moves) two = two_stays (moved laid (Does event)) moves two
two_stays laid (Migrate ∷ moves) two = two_stays (moved laid Migrate) moves (ap (migrated (blocks_of laid.state.durable)) two)
