-- A node by its bytes is the one that is read.
use Rattle.std.proofs.Common.{◌≡◌, ℕ, List, [], ◌∷◌, length, map, refl, ap, ◌∙◌, arith, Option, Some, None, Ok, inl, inr}
use Rattle.std.proofs.lemmas.List.{append-nil}
use Rattle.std.proofs.lemmas.List.Elements.{filter_map-append}
use Rattle.mc_base.specs.Wire.{Field, Fields, part_of, parts_of}
use Rattle.mc_base.specs.WireRead.{Placed, fields_in, fronts_from}
use Rattle.mc_base.specs.Node.{AreLinks, IsNode, IsOrdered, link_field, data_field}
use Rattle.mc_base.specs.NodeRead.{NodeFault, NodeText, node_fault, node_of, link_hashes, unless, first_of, parts_in}
use Rattle.mc_wire.proofs.FieldFacts.{fields_are_read, fields_found}
use Rattle.mc_dagpb.proofs.FrontFields.{parts_of_fields}
use Rattle.mc_dagpb.proofs.LinkHash.{link_is_read}
use Rattle.mc_dagpb.proofs.NodeLaw.{fine_fronts, is_fine}
use Rattle.mc_dagpb.proofs.NodeOrder.{OrderedFields, ordered_fields, fine_ordered}
use Rattle.mc_dagpb.proofs.StepFacts.{hash_of_link}

link_parts : (bodies : List (List ℕ)) → parts_of 2 (map link_field bodies) ≡ bodies
link_parts [] = refl
link_parts (body ∷ bodies) = ap (λ (rest : List (List ℕ)). body ∷ rest) (link_parts bodies)

no_data : (bodies : List (List ℕ)) → parts_of 1 (map link_field bodies) ≡ []
no_data [] = refl
no_data (body ∷ bodies) = no_data bodies

-- what ordered fields hold
ordered_links : (fields : List Field) (bodies : List (List ℕ)) (payload : Option (List ℕ)) → IsOrdered fields (map link_field bodies) payload → parts_of 2 fields ≡ bodies
ordered_links fields bodies None are = rw are (link_parts bodies)
ordered_links fields bodies (Some payload) (inl are) = rw are (link_parts bodies)
ordered_links fields bodies (Some payload) (inr are) = rw are (filter_map-append (part_of 2) (map link_field bodies) (data_field payload ∷ []) ∙ rw append-nil (link_parts bodies))

ordered_payload : (fields : List Field) (bodies : List (List ℕ)) (payload : Option (List ℕ)) → IsOrdered fields (map link_field bodies) payload → first_of (parts_of 1 fields) ≡ payload
ordered_payload fields bodies None are = rw (are, no_data bodies)
ordered_payload fields bodies (Some payload) (inl are) = rw are
ordered_payload fields bodies (Some payload) (inr are) = rw are (ap first_of (filter_map-append (part_of 1) (map link_field bodies) (data_field payload ∷ [])) ∙ rw (no_data bodies))

-- the Hash of each link
linked_hashes : (bodies hashes : List (List ℕ)) → AreLinks bodies hashes → link_hashes bodies ≡ hashes
linked_hashes [] [] linked = refl
linked_hashes [] (hash ∷ hashes) linked = absurd linked
linked_hashes (body ∷ bodies) [] linked = absurd linked
linked_hashes (body ∷ bodies) (hash ∷ hashes) (link, linked) = rw (hash_of_link 0 0 body hash (link_is_read 0 0 body hash link), linked_hashes bodies hashes linked)

-- what is said of fronts by their fields
said : (fronts : List Placed) (fields : List Field) (bodies hashes : List (List ℕ)) (payload : Option (List ℕ)) → fields_in fronts ≡ Some fields → IsOrdered fields (map link_field bodies) payload → AreLinks bodies hashes →
    (link_hashes (parts_in 2 fronts) ≡ hashes) × (first_of (parts_in 1 fronts) ≡ payload)
said fronts fields bodies hashes payload read ordered linked =
    (rw (parts_of_fields 2 fronts fields read, ordered_links fields bodies payload ordered) (linked_hashes bodies hashes linked), rw (parts_of_fields 1 fronts fields read) (ordered_payload fields bodies payload ordered))

-- a node is read as its links and its payload
pub node_is_read : (text : List ℕ) (links : List (List ℕ)) (payload : Option (List ℕ)) → IsNode text links payload → node_of text ≡ Ok (record { links = links; payload = payload })
unfolding node_of
node_is_read text links payload node =
    let fronts = fronts_from 0 text in
    let read = fields_are_read 0 text node.fields node.parts in
    let fine = is_fine [] fronts node.fields read (fine_ordered node.fields node.bodies links payload node.ordered node.linked) in
    let says = said fronts node.fields node.bodies links payload read node.ordered node.linked in
    rw (fine, says.0, says.1)

read_parts : (fault : Option NodeFault) (read said : NodeText) → unless fault (Ok read) ≡ Ok said → (fault ≡ None) × (said ≡ read)
read_parts None read said e = (refl, cc)
read_parts (Some fault) read said e = absurd (cc)

node_by : (text : List ℕ) (fields : List Field) (ordered : OrderedFields fields) (links : List (List ℕ)) (payload : Option (List ℕ)) → Fields text fields → links ≡ ordered.hashes → payload ≡ ordered.payload → IsNode text links payload
node_by text fields ordered links payload parts same_links same_payload =
    rw (same_links, same_payload) (record { fields = fields; bodies = ordered.bodies; parts = parts; ordered = ordered.ordered; linked = ordered.linked })

-- what is read as a node is one
pub node_told : (text : List ℕ) (links : List (List ℕ)) (payload : Option (List ℕ)) → node_of text ≡ Ok (record { links = links; payload = payload }) → IsNode text links payload
unfolding node_of
node_told text links payload e =
    let fronts = fronts_from 0 text in
    let parts = read_parts (node_fault [] fronts) (record { links = link_hashes (parts_in 2 fronts); payload = first_of (parts_in 1 fronts) }) (record { links = links; payload = payload }) e in
    let fine = fine_fronts [] fronts parts.0 in
    let ordered = ordered_fields fine.fields fine.fine in
    let says = said fronts fine.fields ordered.bodies ordered.hashes ordered.payload fine.read ordered.ordered ordered.linked in
    let same_links : links ≡ ordered.hashes = ap (λ (node : NodeText). node.links) parts.1 ∙ says.0 in
    let same_payload : payload ≡ ordered.payload = ap (λ (node : NodeText). node.payload) parts.1 ∙ says.1 in
    node_by text fine.fields ordered links payload (fields_found (length text) 0 text fine.fields (omega arith) fine.read) same_links same_payload
