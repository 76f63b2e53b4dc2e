use Rattle.std.proofs.Common.{◌∙◌, sym, ap, refl}
use Rattle.std.specs.Prelude.{is_some}
use Rattle.indexmap.proofs.CallerLemmas.{keys-with_value_at}
use Rattle.mc_tables.specs.declared.places.Places.{Places}
use Rattle.mc_tables.proofs.PlaceFacts.{lasts_kept, value_placed, value_was, no_key}
use Rattle.mc_tables.proofs.places.set_value.Goals as goal

pub returns-in-Some-clause-before : goal.returns-in-Some-clause-before
returns-in-Some-clause-before g c = λ key named.
    let old : Places = c.in-Some.places.now in
    let new : Places = record { last = old.last; value = c.args.value } in
    c.is_some-had.ensures ∙ ap is_some c.place.ensures ∙ sym (ap is_some (value_was c.args.keys.now c.args.number old new c.in-Some.ensures.unique (sym c.in-Some.ensures.value) key named))

pub returns-in-Some-clause-lasts : goal.returns-in-Some-clause-lasts
returns-in-Some-clause-lasts g c =
    let old : Places = c.in-Some.places.now in
    let new : Places = record { last = old.last; value = c.args.value } in
    lasts_kept c.args.keys.now c.args.number old new c.in-Some.ensures.unique (sym c.in-Some.ensures.value) refl

pub returns-in-Some-clause-values : goal.returns-in-Some-clause-values
returns-in-Some-clause-values g c =
    let old : Places = c.in-Some.places.now in
    let new : Places = record { last = old.last; value = c.args.value } in
    value_placed c.args.keys.now c.args.number old new c.in-Some.ensures.unique (sym c.in-Some.ensures.value)

pub returns-in-Some-clause-texts : goal.returns-in-Some-clause-texts
returns-in-Some-clause-texts g c =
    let old : Places = c.in-Some.places.now in
    let new : Places = record { last = old.last; value = c.args.value } in
    keys-with_value_at c.args.keys.now c.args.number new

pub returns-in-None-clause-before : goal.returns-in-None-clause-before
returns-in-None-clause-before g c = λ key named. absurd (no_key c.args.keys.now c.args.number key (sym c.in-None.ensures.value) named)

pub returns-in-None-clause-values : goal.returns-in-None-clause-values
returns-in-None-clause-values g c = λ key named. absurd (no_key c.args.keys.now c.args.number key (sym c.in-None.ensures.value) named)
