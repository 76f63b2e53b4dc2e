-- Nodes of a content-addressed graph (IPLD dag-pb specification), by this store's profile: a node has the fields Data
-- (1) and Links (2, each a PBLink), and a PBLink has Hash (1), Name (2) and Tsize (3).
use Rattle.std.specs.Prelude.{◌≡◌, ℕ, ◌<◌, List, [], ◌∷◌, ◌++◌, map, Bool, false, IsTrue, ◌==◌, ◌&&◌, ◌||◌, Option}
use Rattle.std.specs.Prelude.{Some, None, ⊤, ◌⊎◌}
use Rattle.std.specs.List.{list_all, flat_map}
use Rattle.std.specs.Str.{is_utf8}
use Rattle.mc_base.specs.Cid.{cid_prefix}
use Rattle.mc_base.specs.Wire.{Field, Fields, Content, Varint, Part, part_field_bytes}
use Rattle.mc_base.specs.declared.cid.Cid.{Cid}

-- a field of a link: a Hash, a Name in UTF-8, or a Tsize
abbrev pub is_link_content : ℕ → Content → Bool
is_link_content number (Part bytes) = number == 1 || (number == 2 && is_utf8 bytes)
is_link_content number (Varint value) = number == 3
is_link_content number content = false

-- each number is above the one before, and the first is above this one
abbrev pub Ascends : ℕ → List Field → Type 0
Ascends below [] = ⊤
Ascends below (field ∷ fields) = (below < field.number) × Ascends field.number fields

-- a link by its bytes: its fields in ascending order of their numbers, the first of them Hash
pub record IsLink (text hash : List ℕ) : Type 0 where
  pub fields : List Field
  pub others : List Field
  pub parts : Fields text fields
  pub hash_first : fields ≡ record { number = 1; content = Part hash } ∷ others
  pub ascending : Ascends 0 fields
  pub allowed : IsTrue (list_all (λ field. is_link_content field.number field.content) fields)

abbrev pub AreLinks : List (List ℕ) → List (List ℕ) → Type 0
AreLinks [] [] = ⊤
AreLinks (text ∷ texts) (hash ∷ hashes) = IsLink text hash × AreLinks texts hashes
AreLinks [] (hash ∷ hashes) = ⊥
AreLinks (text ∷ texts) [] = ⊥

abbrev pub link_field : List ℕ → Field
link_field text = record { number = 2; content = Part text }

abbrev pub data_field : List ℕ → Field
data_field payload = record { number = 1; content = Part payload }

-- the links, and Data, if it stands, before all of them or after all of them
abbrev pub IsOrdered : List Field → List Field → Option (List ℕ) → Type 0
IsOrdered fields links None = fields ≡ links
IsOrdered fields links (Some payload) =
    (fields ≡ data_field payload ∷ links) ⊎ (fields ≡ links ++ data_field payload ∷ [])

-- a node by its bytes: the Hash of each link, and the content of Data
pub record IsNode (text : List ℕ) (links : List (List ℕ)) (payload : Option (List ℕ)) : Type 0 where
  pub fields : List Field
  pub bodies : List (List ℕ)
  pub parts : Fields text fields
  pub ordered : IsOrdered fields (map link_field bodies) payload
  pub linked : AreLinks bodies links

-- a written link: its Hash, an empty Name, and a Tsize of 0
abbrev pub link_bytes : Cid → List ℕ
link_bytes cid = 0x12 ∷ 0x2a ∷ 0x0a ∷ 0x24 ∷ (cid_prefix ++ cid.0) ++ 0x12 ∷ 0x00 ∷ 0x18 ∷ 0x00 ∷ []

-- the written node: the links in this order, and then Data, also where it is empty
abbrev pub node_bytes : List Cid → List ℕ → List ℕ
node_bytes links payload = flat_map link_bytes links ++ part_field_bytes 1 payload
