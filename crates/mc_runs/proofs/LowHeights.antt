-- The height of each head is below 2^64, since priorities are read from varints.
use Rattle.std.proofs.Common.{◌≡◌, ℕ, zero, suc, ◌+◌, ◌*◌, ◌-◌, ◌/◌, ◌%◌, ◌^◌, ◌<◌, ◌≤◌, ◌==◌, Bool, true, false, not, List, [], ◌∷◌, ◌++◌, length, map, drop, take, Option, Some, None, Result, Ok, Err, refl, ◌∙◌, ap, arith}
use Rattle.std.specs.Prelude.{⊤, fold, filter, max, nat_le, if◌then◌else◌, unwrap_or}
use Rattle.std.specs.List.{AllByRecursion, cons_option}
use Rattle.std.specs.Result.{result_ok}
use Rattle.std.specs.Str.{bytes_eq}
use Rattle.std.specs.declared.cmp.Ordering.{Ordering}
use Rattle.std.specs.declared.cmp.Ordering.TheVariants.{Less, Equal, Greater}
use Rattle.mc_base.specs.Cid.{digest_of}
use Rattle.mc_base.specs.NodeRead.{NodeFault, NodeText, node_of}
use Rattle.mc_base.specs.Wire.{Content, Fixed32, Fixed64, IsVarint, Part, Varint, groups_value}
use Rattle.mc_base.specs.WireRead.{Front, FieldZero, NoContent, NoKey, Placed, WireFault, Whole, after_key, content_part, content_varint, front_bytes, front_content, front_field, front_keyed, front_of, front_varint, fronts_from, fronts_past, is_whole, len_of}
use Rattle.mc_base.specs.declared.cid.Cid.{Cid}
use Rattle.mc_wire.proofs.VarintFacts.{VarintAt, varint_read}
use Rattle.mc_model.specs.Ascending.{ascending, insert_in_order}
use Rattle.mc_model.specs.DeltaText.{content_varint as held_varint, DeltaFault, delta_fault, delta_in, delta_read, delta_unless, last_or, varint_in, varints_in}
use Rattle.mc_model.specs.Front.{Head, head_cmp, head_of, heads, is_linked}
use Rattle.mc_model.specs.Kept.{Kept, block_under, blocks_in, bytes_at, processed}
use Rattle.mc_model.specs.Made.{next_priority}
use Rattle.mc_model.specs.Offer.{Damage, block_max, block_of, block_of_node, block_with, data_of, delta_or_damage, empty_delta, links_from, offer}
use Rattle.mc_model.specs.declared.block.Block.{Block}
use Rattle.mc_model.specs.declared.block.Stored.{Stored}
use Rattle.mc_model.specs.declared.delta.Delta.{Delta}

-- a varint

weight : ℕ → List ℕ → ℕ
weight last [] = last + 1
weight last (byte ∷ first) = 128 * weight last first

groups_below : (first : List ℕ) (last : ℕ) → groups_value (first ++ last ∷ []) < weight last first
unfolding weight
groups_below [] last = omega arith
groups_below (byte ∷ first) last = omega (arith, groups_below first last)

weight_low : (first : List ℕ) (last : ℕ) → length first ≤ 9 → last < 128 → (length first ≡ 9 → last ≤ 1) → weight last first ≤ 2 ^ 64
unfolding weight
weight_low [] last few small tenth = omega (arith, small)
weight_low (a ∷ []) last few small tenth = omega (arith, small)
weight_low (a ∷ b ∷ []) last few small tenth = omega (arith, small)
weight_low (a ∷ b ∷ c ∷ []) last few small tenth = omega (arith, small)
weight_low (a ∷ b ∷ c ∷ d ∷ []) last few small tenth = omega (arith, small)
weight_low (a ∷ b ∷ c ∷ d ∷ e ∷ []) last few small tenth = omega (arith, small)
weight_low (a ∷ b ∷ c ∷ d ∷ e ∷ f ∷ []) last few small tenth = omega (arith, small)
weight_low (a ∷ b ∷ c ∷ d ∷ e ∷ f ∷ g ∷ []) last few small tenth = omega (arith, small)
weight_low (a ∷ b ∷ c ∷ d ∷ e ∷ f ∷ g ∷ h ∷ []) last few small tenth = omega (arith, small)
weight_low (a ∷ b ∷ c ∷ d ∷ e ∷ f ∷ g ∷ h ∷ i ∷ []) last few small tenth = omega (arith, tenth refl)
weight_low (a ∷ b ∷ c ∷ d ∷ e ∷ f ∷ g ∷ h ∷ i ∷ j ∷ more) last few small tenth = absurd (omega (arith, few))

varint_low : (bytes : List ℕ) (value : ℕ) → IsVarint bytes value → value < 2 ^ 64
varint_low bytes value is =
    let sum : value ≡ groups_value (is.first ++ is.last ∷ []) = is.sum ∙ ap groups_value is.parts in
    omega (arith, sum, groups_below is.first is.last, weight_low is.first is.last is.at_most_ten is.last_ends is.tenth_fits)

-- a field

abbrev IsLow : Content → Type 0
IsLow (Varint value) = value < 2 ^ 64
IsLow (Fixed64 bytes) = ⊤
IsLow (Part bytes) = ⊤
IsLow (Fixed32 bytes) = ⊤

abbrev ReadsLow : Result (Content × ℕ) WireFault → Type 0
ReadsLow (Ok read) = IsLow read.0
ReadsLow (Err fault) = ⊤

abbrev IsFrontLow : Front → Type 0
IsFrontLow (Whole field len) = IsLow field.content
IsFrontLow (NoKey fault) = ⊤
IsFrontLow (NoContent number wire fault) = ⊤

varint_reads : (text : List ℕ) → ReadsLow (content_varint (front_varint text))
varint_reads text = over (front_varint text) refl
  where
    over : (read : Result (ℕ × ℕ) WireFault) → front_varint text ≡ read → ReadsLow (content_varint read)
    over (Err fault) is = tt
    over (Ok (value, len)) is = let at : VarintAt text value len = varint_read text value len is in varint_low _ value at.varint

if_low : (b : Bool) (x y : Result (Content × ℕ) WireFault) → ReadsLow x → ReadsLow y → ReadsLow (if b then x else y)
if_low true x y p q = p
if_low false x y p q = q

bytes_read : (make : List ℕ → Content) (skip count : ℕ) (text : List ℕ) → ((bytes : List ℕ) → IsLow (make bytes)) → ReadsLow (front_bytes make skip count text)
bytes_read make skip count text low = if_low (nat_le count (length (drop skip text))) _ _ (low (take count (drop skip text))) tt

part_reads : (read : Result (ℕ × ℕ) WireFault) (text : List ℕ) → ReadsLow (content_part read text)
part_reads (Ok read) text = bytes_read Part read.1 read.0 text (λ bytes. tt)
part_reads (Err fault) text = tt

content_reads : (wire : ℕ) (text : List ℕ) → ReadsLow (front_content wire text)
content_reads wire text =
    if_low (wire == 0) _ _ (varint_reads text)
    (if_low (wire == 1) _ _ (bytes_read Fixed64 0 8 text (λ bytes. tt))
    (if_low (wire == 2) _ _ (part_reads (front_varint text) text)
    (if_low (wire == 5) _ _ (bytes_read Fixed32 0 4 text (λ bytes. tt)) tt)))

field_low : (number wire len : ℕ) (read : Result (Content × ℕ) WireFault) → ReadsLow read → IsFrontLow (front_field number wire len read)
field_low number wire len (Ok read) low = low
field_low number wire len (Err fault) low = tt

key_low : (number wire len : ℕ) (rest : List ℕ) → IsFrontLow (after_key number wire len rest)
key_low number wire len rest = elim (number == 0) as (λ b. IsFrontLow (if b then NoContent 0 wire FieldZero else front_field number wire len (front_content wire rest))) [
  | true ↦ tt
  | false ↦ field_low number wire len (front_content wire rest) (content_reads wire rest)
]

keyed_low : (read : Result (ℕ × ℕ) WireFault) (text : List ℕ) → IsFrontLow (front_keyed read text)
keyed_low (Ok key) text = key_low (key.0 / 8) (key.0 % 8) key.1 (drop key.1 text)
keyed_low (Err fault) text = tt

front_low : (text : List ℕ) → IsFrontLow (front_of text)
unfolding front_of
front_low text = keyed_low (front_varint text) text

abbrev AreFrontsLow : List Placed → Type 0
AreFrontsLow fronts = AllByRecursion (λ (placed : Placed). IsFrontLow placed.front) fronts

if_fronts : (b : Bool) (fronts : List Placed) → AreFrontsLow fronts → AreFrontsLow (if b then fronts else [])
if_fronts true fronts low = low
if_fronts false fronts low = tt

past_low : (skipped at : ℕ) (text : List ℕ) → AreFrontsLow (fronts_past skipped at text)
past_low skipped at [] = tt
past_low (suc skipped) at (byte ∷ bytes) = past_low skipped (at + 1) bytes
past_low zero at (byte ∷ bytes) = (front_low (byte ∷ bytes), if_fronts (is_whole (front_of (byte ∷ bytes))) (fronts_past (len_of (front_of (byte ∷ bytes)) - 1) (at + 1) bytes) (past_low (len_of (front_of (byte ∷ bytes)) - 1) (at + 1) bytes))

-- a delta

abbrev IsLowOption : Option ℕ → Type 0
IsLowOption None = ⊤
IsLowOption (Some value) = value < 2 ^ 64

value_low : (number : ℕ) (front : Front) → IsFrontLow front → IsLowOption (varint_in number front)
value_low number (NoKey fault) low = tt
value_low number (NoContent other wire fault) low = tt
value_low number (Whole field len) low = chosen (field.number == number) (held field.content low)
  where
    held : (content : Content) → IsLow content → IsLowOption (held_varint content)
    held (Varint value) low = low
    held (Fixed64 bytes) low = tt
    held (Part bytes) low = tt
    held (Fixed32 bytes) low = tt

    chosen : (b : Bool) → IsLowOption (held_varint field.content) → IsLowOption (if b then held_varint field.content else None)
    chosen true is = is
    chosen false is = tt

abbrev AreLow : List ℕ → Type 0
AreLow values = AllByRecursion (λ (n : ℕ). n < 2 ^ 64) values

values_onto : (value : Option ℕ) (values : List ℕ) → IsLowOption value → AreLow values → AreLow (cons_option value values)
values_onto None values first rest = rest
values_onto (Some value) values first rest = (first, rest)

values_low : (fronts : List Placed) → AreFrontsLow fronts → AreLow (varints_in 3 fronts)
values_low [] low = tt
values_low (placed ∷ fronts) low = values_onto (varint_in 3 placed.front) (varints_in 3 fronts) (value_low 3 placed.front low.0) (values_low fronts low.1)

last_low : (absent : ℕ) (values : List ℕ) → absent < 2 ^ 64 → AreLow values → last_or absent values < 2 ^ 64
last_low absent [] first low = first
last_low absent (value ∷ values) first low = last_low value values low.0 low.1

abbrev IsDeltaLow : Delta → Type 0
IsDeltaLow delta = delta.priority < 2 ^ 64

abbrev IsReadLow : {E : Type 0} → Result Delta E → Type 0
IsReadLow (Ok delta) = IsDeltaLow delta
IsReadLow (Err error) = ⊤

unless_low : (fault : Option DeltaFault) (text : List ℕ) → IsReadLow (delta_unless fault (delta_in (fronts_from 0 text)))
unfolding fronts_from
unless_low None text = last_low 0 (varints_in 3 (fronts_from 0 text)) (omega arith) (values_low (fronts_from 0 text) (past_low 0 0 text))
unless_low (Some fault) text = tt

delta_low : (text : List ℕ) → IsReadLow (delta_read text)
unfolding delta_read
delta_low text = unless_low (delta_fault text) text

damage_low : (read : Result Delta DeltaFault) → IsReadLow read → IsReadLow (delta_or_damage read)
damage_low (Ok delta) low = low
damage_low (Err fault) low = tt

data_low : (payload : Option (List ℕ)) → IsReadLow (data_of payload)
data_low None = omega arith
data_low (Some text) = damage_low (delta_read text) (delta_low text)

-- a block

abbrev IsBlockLow : Block → Type 0
IsBlockLow block = IsDeltaLow block.delta

abbrev IsOfferLow : Result Block Damage → Type 0
IsOfferLow (Ok block) = IsBlockLow block
IsOfferLow (Err damage) = ⊤

with_low : (cid : Cid) (links : Result (List Cid) Damage) (delta : Result Delta Damage) → IsReadLow delta → IsOfferLow (block_with cid links delta)
with_low cid (Err damage) delta low = tt
with_low cid (Ok links) (Err damage) low = tt
with_low cid (Ok links) (Ok delta) low = low

node_low : (cid : Cid) (node : Result NodeText NodeFault) → IsOfferLow (block_of_node cid node)
node_low cid (Err fault) = tt
node_low cid (Ok node) = with_low cid (links_from 0 node.links) (data_of node.payload) (data_low node.payload)

if_offer : (b : Bool) (damage : Damage) (read : Result Block Damage) → IsOfferLow read → IsOfferLow (if b then Err damage else read)
if_offer true damage read low = tt
if_offer false damage read low = low

offer_low : (cid : Cid) (bytes : List ℕ) → IsOfferLow (offer cid bytes)
unfolding offer
offer_low cid bytes = if_offer (not (nat_le (length bytes) block_max)) _ _ (if_offer (not (bytes_eq (digest_of bytes) cid.0)) _ _ (node_low cid (node_of bytes)))

block_low : (cid : Cid) (bytes : List ℕ) → IsBlockLow (block_of cid bytes)
block_low cid bytes = over (offer cid bytes) (offer_low cid bytes)
  where
    over : (read : Result Block Damage) → IsOfferLow read → IsBlockLow (unwrap_or (result_ok read) (record { cid = cid; links = []; delta = empty_delta }))
    over (Ok block) low = low
    over (Err damage) low = omega arith

under_low : (cid : Cid) (bytes : Option (List ℕ)) → IsBlockLow (block_under cid bytes)
under_low cid None = block_low cid []
under_low cid (Some bytes) = block_low cid bytes

blocks_low : (graph : List Stored) (cids : List Cid) → AllByRecursion IsBlockLow (blocks_in graph cids)
blocks_low graph [] = tt
blocks_low graph (cid ∷ cids) = (under_low cid (bytes_at graph cid), blocks_low graph cids)

-- the heads

abbrev IsHeadLow : Head → Type 0
IsHeadLow head = head.1 < 2 ^ 64

insert_low : (cmp : Head → Head → Ordering) (head : Head) (rows : List Head) → IsHeadLow head → AllByRecursion IsHeadLow rows → AllByRecursion IsHeadLow (insert_in_order cmp head rows)
insert_low cmp head [] low all = (low, tt)
insert_low cmp head (row ∷ rows) low all = put (cmp head row) (insert_low cmp head rows low all.1)
  where
    put : (order : Ordering) → AllByRecursion IsHeadLow (insert_in_order cmp head rows) → AllByRecursion IsHeadLow (elim order [ Less ↦ head ∷ row ∷ rows | Equal ↦ row ∷ rows | Greater ↦ row ∷ insert_in_order cmp head rows ])
    put Less rest = (low, all)
    put Equal rest = all
    put Greater rest = (all.0, rest)

heads_low : (others blocks : List Block) → AllByRecursion IsBlockLow blocks → AllByRecursion IsHeadLow (ascending head_cmp (map head_of (filter (λ (block : Block). not (is_linked others block.cid)) blocks)))
heads_low others [] all = tt
heads_low others (block ∷ blocks) all = taken (not (is_linked others block.cid)) (heads_low others blocks all.1)
  where
    taken : (b : Bool) → AllByRecursion IsHeadLow (ascending head_cmp (map head_of (filter (λ (block : Block). not (is_linked others block.cid)) blocks)))
        → AllByRecursion IsHeadLow (ascending head_cmp (map head_of (if b then block ∷ filter (λ (block : Block). not (is_linked others block.cid)) blocks else filter (λ (block : Block). not (is_linked others block.cid)) blocks)))
    taken true rest = insert_low head_cmp (head_of block) (ascending head_cmp (map head_of (filter (λ (block : Block). not (is_linked others block.cid)) blocks))) all.0 rest
    taken false rest = rest

greatest_low : (height : ℕ) (rows : List Head) → height < 2 ^ 64 → AllByRecursion IsHeadLow rows → fold (λ height (head : Head). max height head.1) height rows < 2 ^ 64
greatest_low height [] low all = low
greatest_low height (head ∷ rows) low all = greatest_low (max height head.1) rows (omega (arith, low, all.0)) all.1

-- the priority of the next block is at most 2^64
pub next_within : (kept : Kept) → next_priority (processed kept) ≤ 2 ^ 64
next_within kept =
    let low = greatest_low 0 (heads (processed kept)) (omega arith) (heads_low (processed kept) (processed kept) (blocks_low kept.graph kept.order)) in omega (arith, low)
