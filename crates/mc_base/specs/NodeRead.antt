-- What a text says as a node, or its first fault: the fields are looked at from left to right, and a link's fields when
-- the link is met.
use Rattle.std.specs.Prelude.{ℕ, ◌+◌, ◌-◌, List, [], ◌∷◌, ◌++◌, length, drop, nat_le, ◌==◌, ◌&&◌, ◌||◌, not}
use Rattle.std.specs.Prelude.{if◌then◌else◌, Option, Some, None, Result, Ok, Err}
use Rattle.std.specs.List.{list_any, filter_map}
use Rattle.std.specs.Option.{option_or, option_map}
use Rattle.std.specs.Str.{is_utf8}
use Rattle.mc_base.specs.Wire.{Field, Content, Part, part_of, wire_type}
use Rattle.mc_base.specs.WireRead as wire
use Rattle.mc_base.specs.WireRead.{WireFault, Front, NoKey, NoContent, Whole, Placed, fronts_from}

pub data NodeFaultKind : Type 0 where
  Short : NodeFaultKind
  LongVarint : NodeFaultKind
  WireType : NodeFaultKind
  BadField : NodeFaultKind
  Order : NodeFaultKind
  NoHash : NodeFaultKind
  NameText : NodeFaultKind

-- a fault, and the offset in the node of the key of the innermost field at fault
pub record NodeFault : Type 0 where
  pub kind : NodeFaultKind
  pub at : ℕ

-- a fault of the wire format is one of a node
abbrev pub wire_kind : WireFault → NodeFaultKind
wire_kind wire.Short = Short
wire_kind wire.LongVarint = LongVarint
wire_kind wire.WireType = WireType
wire_kind wire.FieldZero = BadField

-- In a link stand Hash, Name and Tsize with their wire types, and each number is above the one before.
abbrev pub link_key_fault : ℕ → ℕ → ℕ → Option NodeFaultKind
link_key_fault before number wire =
    if not (number == 1 || (number == 2 || number == 3)) then Some BadField
    else (if not (wire == (if number == 3 then 0 else 2)) then Some WireType
    else (if nat_le number before then Some Order else None))

-- a Name is UTF-8
abbrev pub name_fault : ℕ → Content → Option NodeFaultKind
name_fault number (Part name) = if number == 2 && not (is_utf8 name) then Some NameText else None
name_fault number content = None

-- the fault of one field of a link, after the field with the number `before`, 0 for none
abbrev pub link_front_fault : ℕ → Front → Option NodeFaultKind
link_front_fault before (NoKey fault) = Some (wire_kind fault)
link_front_fault before (NoContent number wire fault) =
    option_or (link_key_fault before number wire) (Some (wire_kind fault))
link_front_fault before (Whole field len) =
    option_or (link_key_fault before field.number (wire_type field.content)) (name_fault field.number field.content)

abbrev pub number_of : Front → ℕ
number_of (NoKey fault) = 0
number_of (NoContent number wire fault) = number
number_of (Whole field len) = field.number

abbrev pub fault_at : ℕ → Option NodeFaultKind → Option NodeFault
fault_at at kind = option_map (λ kind. record { kind = kind; at = at }) kind

-- the first fault of the fields of a link
abbrev pub link_fault : ℕ → List Placed → Option NodeFault
link_fault before [] = None
link_fault before (placed ∷ rest) =
    option_or (fault_at placed.at (link_front_fault before placed.front)) (link_fault (number_of placed.front) rest)

-- the bytes of a front that is a field of this number
abbrev pub part_in : ℕ → Front → Option (List ℕ)
part_in number (Whole field len) = part_of number field
part_in number front = None

-- the bytes of the fronts that are fields of this number, in order
abbrev pub parts_in : ℕ → List Placed → List (List ℕ)
parts_in number fronts = filter_map (λ placed. part_in number placed.front) fronts

abbrev pub first_of : {A : Type 0} → List A → Option A
first_of [] = None
first_of (item ∷ items) = Some item

-- a link without a fault has a Hash; where it has none, the fault is at the link's key
abbrev pub hash_or : ℕ → Option (List ℕ) → Result (List ℕ) NodeFault
hash_or key (Some hash) = Ok hash
hash_or key None = Err (record { kind = NoHash; at = key })

abbrev pub unless : {A : Type 0} → Option NodeFault → Result A NodeFault → Result A NodeFault
unless None result = result
unless (Some fault) result = Err fault

-- The Hash of a link, or its first fault. The link's key and its body stand at these offsets of the node.
abbrev pub link_of : ℕ → ℕ → List ℕ → Result (List ℕ) NodeFault
link_of key from body =
    unless (link_fault 0 (fronts_from from body)) (hash_or key (first_of (parts_in 1 (fronts_from from body))))

-- In a node stand Data and links. After these numbers, a second Data may not stand, and no link after a Data that isn't
-- the first field.
abbrev pub node_key_fault : List ℕ → ℕ → ℕ → Option NodeFaultKind
node_key_fault before number wire =
    if not (number == 1 || number == 2) then Some BadField
    else (if not (wire == 2) then Some WireType
    else
    (if list_any (λ earlier. earlier == 1)
    (if number == 1 then before else drop 1 before) then Some Order else None))

abbrev pub fault_in : {A : Type 0} → Result A NodeFault → Option NodeFault
fault_in (Ok value) = None
fault_in (Err fault) = Some fault

abbrev pub part_fault : ℕ → ℕ → Content → Option NodeFault
part_fault at len (Part body) = fault_in (link_of at (at + len - length body) body)
part_fault at len content = None

-- a link's body ends where the link ends
abbrev pub body_fault : ℕ → ℕ → Field → Option NodeFault
body_fault at len field = if field.number == 2 then part_fault at len field.content else None

-- the fault of one field of a node, after fields with the numbers `before`
abbrev pub node_front_fault : List ℕ → ℕ → Front → Option NodeFault
node_front_fault before at (NoKey fault) = fault_at at (Some (wire_kind fault))
node_front_fault before at (NoContent number wire fault) =
    fault_at at (option_or (node_key_fault before number wire) (Some (wire_kind fault)))
node_front_fault before at (Whole field len) =
    option_or (fault_at at (node_key_fault before field.number (wire_type field.content))) (body_fault at len field)

-- the first fault of the fields of a node
abbrev pub node_fault : List ℕ → List Placed → Option NodeFault
node_fault before [] = None
node_fault before (placed ∷ rest) =
    option_or (node_front_fault before placed.at placed.front) (node_fault (before ++ number_of placed.front ∷ []) rest)

-- the Hash of each link
abbrev pub link_hashes : List (List ℕ) → List (List ℕ)
link_hashes bodies = filter_map (λ body. first_of (parts_in 1 (fronts_from 0 body))) bodies

-- what a node says: the Hash of each link, and the content of Data
pub record NodeText : Type 0 where
  pub links : List (List ℕ)
  pub payload : Option (List ℕ)

abbrev pub node_in : List Placed → Result NodeText NodeFault
node_in fronts =
    unless (node_fault [] fronts)
    (Ok (record { links = link_hashes (parts_in 2 fronts); payload = first_of (parts_in 1 fronts) }))

-- what a text says as a node, or its first fault
unfoldable pub node_of : List ℕ → Result NodeText NodeFault
node_of text = node_in (fronts_from 0 text)
