use Rattle.std.proofs.Common.{◌∙◌, Some, ap, cond, sym, subst}
use Rattle.std.specs.HashMap.{get_by_text}
use Rattle.std.specs.Map.{keys_of}
use Rattle.std.specs.Str.{bytes_eq}
use Rattle.std.specs.List.{position_or_len}
use Rattle.std.specs.String.{string_bytes, string_eq}
use Rattle.indexmap.specs.IndexMap.{insert_entry}
use Rattle.std.proofs.lemmas.Map.Text.{hash_map_updates_text}
use Rattle.mc_tables.specs.declared.places.Places.{Places}
use Rattle.mc_tables.specs.Places.{value_in, stands_at, KeepsTexts}
use Rattle.mc_tables.proofs.PlaceFacts.{lasts_after, values_after, insert_keeps, insert_stands}
use Rattle.mc_tables.proofs.places.put_first.Goals as goal

pub returns-clause-lasts : goal.returns-clause-lasts
returns-clause-lasts g c =
    let places : Places = record { last = c.args.place; value = c.none.result } in
    lasts_after c.args.keys.now c.insert_full.new.self c.args.key places (λ other.
    hash_map_updates_text (string_bytes c.into_string.result) c.args.keys.now c.insert_full.new.self (Some places) c.in-Ok.ensures.updates other
    ∙ ap (λ z. cond (bytes_eq z other) (Some places) (get_by_text c.args.keys.now other)) c.into_string.ensures)

pub returns-clause-values : goal.returns-clause-values
returns-clause-values g c =
    let places : Places = record { last = c.args.place; value = c.none.result } in
    λ other. values_after c.args.keys.now c.insert_full.new.self c.args.key places (λ other.
    hash_map_updates_text (string_bytes c.into_string.result) c.args.keys.now c.insert_full.new.self (Some places) c.in-Ok.ensures.updates other
    ∙ ap (λ z. cond (bytes_eq z other) (Some places) (get_by_text c.args.keys.now other)) c.into_string.ensures) other
    ∙ ap (λ z. cond (bytes_eq c.args.key other) z (value_in c.args.keys.now other)) c.none.ensures

pub returns-clause-texts : goal.returns-clause-texts
returns-clause-texts g c =
    let places : Places = record { last = c.args.place; value = c.none.result } in
    subst (λ z. KeepsTexts (keys_of c.args.keys.now.entries) (keys_of z)) (sym c.in-Ok.ensures.entries) (insert_keeps c.args.keys.now.entries c.into_string.result places)

pub returns-clause-place : goal.returns-clause-place
returns-clause-place g c =
    let places : Places = record { last = c.args.place; value = c.none.result } in
    ap (λ z. stands_at (keys_of z) c.args.key c.in-Ok.found.0) c.in-Ok.ensures.entries
    ∙ ap (λ z. stands_at (keys_of (insert_entry string_eq c.args.keys.now.entries c.into_string.result places)) c.args.key z) c.in-Ok.ensures.index
    ∙ ap (λ z. stands_at (keys_of (insert_entry string_eq c.args.keys.now.entries c.into_string.result places)) z (position_or_len (string_eq c.into_string.result) (keys_of c.args.keys.now.entries))) (sym c.into_string.ensures)
    ∙ insert_stands c.args.keys.now.entries c.into_string.result places
