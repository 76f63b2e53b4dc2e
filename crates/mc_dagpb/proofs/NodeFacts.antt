-- A node that is read field by field.
use Rattle.std.proofs.Common.{◌≡◌, ℕ, ◌≤◌, ◌-◌, List, [], ◌∷◌, ◌++◌, ◌==◌, length, true, false, refl, sym, ◌∙◌, append_assoc, Option, Some, None, Ok, Err}
use Rattle.std.proofs.Math.Bool.{or-true, or-false}
use Rattle.std.proofs.lemmas.Bool.{true≢false}
use Rattle.std.proofs.lemmas.List.{append-nil}
use Rattle.std.proofs.lemmas.List.Folds.{list_any-append}
use Rattle.std.specs.List.{cons_option}
use Rattle.std.specs.Option.{option_or}
use Rattle.std.specs.Prelude.{is_some}
use Rattle.mc_base.specs.NodeRead.{NodeFault, NodeText, node_fault, node_key_fault, node_of, part_in, parts_in, first_of, link_hashes}
use Rattle.mc_base.specs.WireRead.{Front, Placed, Whole}
use Rattle.mc_wire.specs.Named.{fronts_at}
use Rattle.mc_dagpb.specs.Before.{IsAfter, has_data}
use Rattle.mc_dagpb.specs.Reads.{with_field}
use Rattle.mc_dagpb.specs.Named.{span_bytes}
use Rattle.mc_dagpb.specs.Step.{StepAt, Says, number_of_field}
use Rattle.mc_dagpb.specs.declared.step.NodeField.{NodeField}
use Rattle.mc_dagpb.specs.declared.step.NodeField.TheVariants.{Data, Link}
use Rattle.mc_dagpb.specs.declared.step.Step.{Step}
use Rattle.mc_dagpb.specs.declared.order.Order.{Order}

-- the fields up to an offset are fine, and this is what they hold
pub record IsReading (text : List ℕ) (at : ℕ) (order : Order) (node : NodeText) : Type 0 where
  pub before : List ℕ
  pub within : at ≤ length text
  pub known : IsAfter before order
  pub told : is_some node.payload ≡ has_data before
  pub fault : node_fault [] (fronts_at text 0) ≡ node_fault before (fronts_at text at)
  pub links : link_hashes (parts_in 2 (fronts_at text 0)) ≡ node.links ++ link_hashes (parts_in 2 (fronts_at text at))
  pub payload : first_of (parts_in 1 (fronts_at text 0)) ≡ option_or node.payload (first_of (parts_in 1 (fronts_at text at)))

-- a fault of the next field is that of the node
pub bad_node : (text : List ℕ) (at : ℕ) (order : Order) (node : NodeText) (fault : NodeFault) → IsReading text at order node →
    ((before : List ℕ) → IsAfter before order → node_fault before (fronts_at text at) ≡ Some fault) → node_of text ≡ Err fault
unfolding node_of
bad_node text at order node fault reading bad = rw (reading.fault ∙ bad reading.before reading.known)

or_none : (payload : Option (List ℕ)) → option_or payload None ≡ payload
or_none None = refl
or_none (Some bytes) = refl

-- where no field is left, this is the node
pub good_node : (text : List ℕ) (at : ℕ) (order : Order) (node : NodeText) → IsReading text at order node → fronts_at text at ≡ [] → node_of text ≡ Ok node
unfolding node_of
good_node text at order node reading ends =
    let fault : node_fault [] (fronts_at text 0) ≡ None = rw ends at reading.fault in
    let links : link_hashes (parts_in 2 (fronts_at text 0)) ≡ node.links = (rw ends at reading.links) ∙ append-nil node.links in
    let payload : first_of (parts_in 1 (fronts_at text 0)) ≡ node.payload = (rw ends at reading.payload) ∙ or_none node.payload in
    rw (fault, links, payload)

some_is_not_none : {A : Type 0} {x : A} → ◌≡◌ {A = Option A} (Some x) None → ⊥
some_is_not_none e = cc

pub none_before : (before : List ℕ) → node_key_fault before 1 2 ≡ None → has_data before ≡ false
none_before before allowed = (elim (has_data before) as (λ b. has_data before ≡ b → b ≡ false) [ true ↦ λ e. absurd (some_is_not_none (rw e at allowed)) | false ↦ λ e. refl ]) refl

no_payload : (payload : Option (List ℕ)) → is_some payload ≡ false → payload ≡ None
no_payload None none = refl
no_payload (Some bytes) none = absurd (true≢false none)

told_after : (text : List ℕ) (field : NodeField) (node : NodeText) (before : List ℕ) → is_some node.payload ≡ has_data before →
    is_some (with_field text field node).payload ≡ has_data (before ++ number_of_field field ∷ [])
told_after text (Data span) node before told = sym (list_any-append (λ earlier. earlier == 1) before (1 ∷ []) ∙ or-true (has_data before))
told_after text (Link span) node before told = told ∙ sym (list_any-append (λ earlier. earlier == 1) before (2 ∷ []) ∙ or-false (has_data before))

links_after : (text : List ℕ) (field : NodeField) (node : NodeText) (front : Front) (rest : List Placed) → Says text field front →
    node.links ++ link_hashes (cons_option (part_in 2 front) (parts_in 2 rest)) ≡ (with_field text field node).links ++ link_hashes (parts_in 2 rest)
links_after text (Data span) node front rest says = rw says.1
links_after text (Link span) node front rest (body, no_data, link, hash) = rw (link, hash) (sym (append_assoc node.links (span_bytes text span ∷ []) (link_hashes (parts_in 2 rest))))

payload_after : (text : List ℕ) (field : NodeField) (node : NodeText) (front : Front) (rest : List Placed) (before : List ℕ) → Says text field front →
    is_some node.payload ≡ has_data before → node_key_fault before (number_of_field field) 2 ≡ None →
    option_or node.payload (first_of (cons_option (part_in 1 front) (parts_in 1 rest))) ≡ option_or (with_field text field node).payload (first_of (parts_in 1 rest))
payload_after text (Data span) node front rest before says told allowed = rw (no_payload node.payload (told ∙ none_before before allowed), says.0)
payload_after text (Link span) node front rest before (body, no_data, link, hash) told allowed = rw no_data

-- one field more
pub next_node : (text : List ℕ) (at : ℕ) (order after : Order) (node : NodeText) (step : Step) → IsReading text at order node → StepAt text at order step →
    ((before : List ℕ) → IsAfter before order → node_key_fault before (number_of_field step.field) 2 ≡ None → IsAfter (before ++ number_of_field step.field ∷ []) after) →
    IsReading text step.next after (with_field text step.field node)
next_node text at order after node step reading stepped known =
    let before = reading.before in
    let front = Whole stepped.field (step.next - at) in
    let fault : node_fault [] (fronts_at text 0) ≡ node_fault (before ++ number_of_field step.field ∷ []) (fronts_at text step.next) =
    reading.fault ∙ rw (stepped.fronts, stepped.fine before reading.known, stepped.number) in
    let links : link_hashes (parts_in 2 (fronts_at text 0)) ≡ node.links ++ link_hashes (cons_option (part_in 2 front) (parts_in 2 (fronts_at text step.next))) = rw stepped.fronts at reading.links in
    let payload : first_of (parts_in 1 (fronts_at text 0)) ≡ option_or node.payload (first_of (cons_option (part_in 1 front) (parts_in 1 (fronts_at text step.next)))) = rw stepped.fronts at reading.payload in
    let allowed = stepped.allowed before reading.known in
    record {
      before = before ++ number_of_field step.field ∷ [];
      within = stepped.ends;
      known = known before reading.known allowed;
      told = told_after text step.field node before reading.told;
      fault = fault;
      links = links ∙ links_after text step.field node front (fronts_at text step.next) stepped.says;
      payload = payload ∙ payload_after text step.field node front (fronts_at text step.next) before stepped.says reading.told allowed;
    }
