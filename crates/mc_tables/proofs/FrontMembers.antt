-- A table with the height of each head by its identifier has the heads.
use Rattle.std.proofs.Common.{◌≡◌, ℕ, Bool, true, false, not, cond, List, [], ◌∷◌, ◌||◌, ◌&&◌, Option, Some, None, sym, refl, ap, ◌∙◌, inl, inr, map}
use Rattle.std.specs.Prelude.{filter, unwrap_or}
use Rattle.std.specs.List.{list_any, find, AllByRecursion, IsDistinct}
use Rattle.std.specs.Map.{lookup}
use Rattle.std.specs.Option.{option_map}
use Rattle.std.proofs.lemmas.Bool.{or_cases, or_left, or_right, and_parts, and_from, not-true}
use Rattle.mc_base.specs.declared.cid.Cid.{Cid}
use Rattle.mc_base.proofs.Booleans.{same_truth}
use Rattle.mc_model.specs.declared.block.Block.{Block}
use Rattle.mc_model.specs.declared.block.Stored.{Stored}
use Rattle.mc_model.specs.Ascending.{Ascends}
use Rattle.mc_model.specs.Front.{same_cid, is_among, is_linked, Head, head_of, head_cmp, heads, head_at}
use Rattle.mc_model.specs.Kept.{Kept, block_in, blocks_in, processed}
use Rattle.mc_model.specs.SameMembers.{SameMembers}
use Rattle.mc_model.proofs.Ascending.{ascends_is}
use Rattle.mc_model.proofs.Blocks.{block_in_cid}
use Rattle.mc_model.proofs.Counts.{cid_is, cid_itself}
use Rattle.mc_model.proofs.Members.{list_any-map, list_any-filter}
use Rattle.mc_model.proofs.Heads.{head_tied}
use Rattle.mc_keep.specs.HeadOrder.{head_total}

abbrev cids : List Head → List Cid
cids entries = map (λ (head : Head). head.0) entries

-- what is looked up is an entry
found_any : (test : Head → Bool) (c : Cid) (height : ℕ) (entries : List Head) → lookup (same_cid c) entries ≡ Some height → test (c, height) ≡ true → list_any test entries ≡ true
found_any test c height [] e t = absurd (let f : None ≡ Some height = e in cc)
found_any test c height (x ∷ entries) e t =
    elim (same_cid c x.0) as (λ s. same_cid c x.0 ≡ s → cond s (Some x.1) (lookup (same_cid c) entries) ≡ Some height → (test x || list_any test entries) ≡ true) [
      | true ↦ λ s h.
          let first : c ≡ x.0 = cid_is c x.0 s in
          let second : x.1 ≡ height = ap (λ z. unwrap_or z 0) h in
          or_left (test x) (list_any test entries) (ap (λ (z : Cid). test (z, x.1)) (sym first) ∙ ap (λ z. test (c, z)) second ∙ t)
      | false ↦ λ s h. or_right (test x) (list_any test entries) (found_any test c height entries h t)
    ] refl e

absent : (x : Cid) (entries : List Head) → AllByRecursion (λ y. same_cid x y ≡ false) (cids entries) → lookup (same_cid x) entries ≡ None
absent x [] all = refl
absent x (y ∷ entries) all = ap (λ (s : Bool). cond s (Some y.1) (lookup (same_cid x) entries)) all.0 ∙ absent x entries all.1

-- an entry that passes a test, and what is looked up is its height
record Looked (test : Head → Bool) (entries : List Head) : Type 0 where
  head : Head
  found : lookup (same_cid head.0) entries ≡ Some head.1
  passes : test head ≡ true

any_looked : (test : Head → Bool) (entries : List Head) → IsDistinct same_cid (cids entries) → list_any test entries ≡ true → Looked test entries
unfolding IsDistinct
any_looked test [] distinct e = absurd (let f : false ≡ true = e in cc)
any_looked test (x ∷ entries) distinct e = elim (or_cases (test x) (list_any test entries) e) [
  | inl t ↦ record { head = x; found = ap (λ (s : Bool). cond s (Some x.1) (lookup (same_cid x.0) entries)) (cid_itself x.0); passes = t }
  | inr t ↦
      let rest = any_looked test entries distinct.1 t in
      record {
        head = rest.head;
        found = elim (same_cid rest.head.0 x.0) as (λ s. same_cid rest.head.0 x.0 ≡ s → cond s (Some x.1) (lookup (same_cid rest.head.0) entries) ≡ Some rest.head.1) [
          | true ↦ λ s. absurd (
              let gone : lookup (same_cid rest.head.0) entries ≡ None = ap (λ (z : Cid). lookup (same_cid z) entries) (cid_is rest.head.0 x.0 s) ∙ absent x.0 entries distinct.0 in
              let no : Some rest.head.1 ≡ None = sym rest.found ∙ gone in
              cc)
          | false ↦ λ s. rest.found
        ] refl;
        passes = rest.passes;
      }
]

-- whether a block is a head of all that passes a test
abbrev is_head : List Block → (Head → Bool) → Block → Bool
is_head all test block = not (is_linked all block.cid) && test (head_of block)

abbrev height_in : List Block → Cid → Option ℕ
height_in blocks c = option_map (λ (block : Block). block.delta.priority) (find (λ (block : Block). same_cid c block.cid) blocks)

block_any : (all : List Block) (test : Head → Bool) (c : Cid) (height : ℕ) (blocks : List Block) → not (is_linked all c) ≡ true → test (c, height) ≡ true
    → height_in blocks c ≡ Some height → list_any (is_head all test) blocks ≡ true
block_any all test c height [] free t e = absurd (let f : None ≡ Some height = e in cc)
block_any all test c height (b ∷ blocks) free t e =
    elim (same_cid c b.cid) as (λ s. same_cid c b.cid ≡ s → option_map (λ (block : Block). block.delta.priority) (cond s (Some b) (find (λ (block : Block). same_cid c block.cid) blocks)) ≡ Some height
    → (is_head all test b || list_any (is_head all test) blocks) ≡ true) [
      | true ↦ λ s h.
          let first : c ≡ b.cid = cid_is c b.cid s in
          let second : b.delta.priority ≡ height = ap (λ z. unwrap_or z 0) h in
          or_left (is_head all test b) (list_any (is_head all test) blocks)
          (and_from (not (is_linked all b.cid)) (test (head_of b)) (ap (λ (z : Cid). not (is_linked all z)) (sym first) ∙ free)
          (ap (λ (z : Cid). test (z, b.delta.priority)) (sym first) ∙ ap (λ z. test (c, z)) second ∙ t))
      | false ↦ λ s h. or_right (is_head all test b) (list_any (is_head all test) blocks) (block_any all test c height blocks free t h)
    ] refl e

-- a block that passes a test, by its identifier
record Stands (graph : List Stored) (order : List Cid) (test : Block → Bool) : Type 0 where
  cid : Cid
  within : is_among order cid ≡ true
  passes : test (block_in graph cid) ≡ true

any_stands : (graph : List Stored) (order : List Cid) (test : Block → Bool) → list_any test (blocks_in graph order) ≡ true → Stands graph order test
any_stands graph [] test e = absurd (let f : false ≡ true = e in cc)
any_stands graph (x ∷ order) test e = elim (or_cases (test (block_in graph x)) (list_any test (blocks_in graph order)) e) [
  | inl t ↦ record { cid = x; within = or_left (same_cid x x) (is_among order x) (cid_itself x); passes = t }
  | inr t ↦ let rest = any_stands graph order test t in record { cid = rest.cid; within = or_right (same_cid rest.cid x) (is_among order rest.cid) rest.within; passes = rest.passes }
]

-- the first block with the identifier is the one that is stored under it
height_is : (graph : List Stored) (order : List Cid) (c : Cid) → is_among order c ≡ true → height_in (blocks_in graph order) c ≡ Some (block_in graph c).delta.priority
height_is graph [] c e = absurd (let f : false ≡ true = e in cc)
height_is graph (x ∷ order) c e =
    ap (λ (z : Cid). option_map (λ (block : Block). block.delta.priority) (cond (same_cid c z) (Some (block_in graph x)) (find (λ (block : Block). same_cid c block.cid) (blocks_in graph order)))) (block_in_cid graph x)
    ∙ elim (same_cid c x) as (λ s. same_cid c x ≡ s → (s || is_among order c) ≡ true
    → option_map (λ (block : Block). block.delta.priority) (cond s (Some (block_in graph x)) (find (λ (block : Block). same_cid c block.cid) (blocks_in graph order))) ≡ Some (block_in graph c).delta.priority) [
      | true ↦ λ s h. ap (λ (z : Cid). Some (block_in graph z).delta.priority) (sym (cid_is c x s))
      | false ↦ λ s h. height_is graph order c h
    ] refl e

-- the blocks that no block links to, as heads
abbrev pub open_heads : List Block → List Head
open_heads blocks = map head_of (filter (λ (block : Block). not (is_linked blocks block.cid)) blocks)

module _ (kept : Kept) (entries : List Head) (distinct : IsDistinct same_cid (cids entries)) (heights : (c : Cid) → lookup (same_cid c) entries ≡ head_at (processed kept) c) where
  entry_is_head : (test : Head → Bool) → list_any test entries ≡ true → list_any (is_head (processed kept) test) (processed kept) ≡ true
  entry_is_head test e =
      let looked = any_looked test entries distinct e in
      elim (is_linked (processed kept) looked.head.0) as (λ s. is_linked (processed kept) looked.head.0 ≡ s → cond s None (height_in (processed kept) looked.head.0) ≡ Some looked.head.1
      → list_any (is_head (processed kept) test) (processed kept) ≡ true) [
        | true ↦ λ s h. absurd (let f : None ≡ Some looked.head.1 = h in cc)
        | false ↦ λ s h. block_any (processed kept) test looked.head.0 looked.head.1 (processed kept) (ap not s) looked.passes h
      ] refl (sym (heights looked.head.0) ∙ looked.found)

  head_is_entry : (test : Head → Bool) → list_any (is_head (processed kept) test) (processed kept) ≡ true → list_any test entries ≡ true
  head_is_entry test e =
      let stands = any_stands kept.graph kept.order (is_head (processed kept) test) e in
      let named : (block_in kept.graph stands.cid).cid ≡ stands.cid = block_in_cid kept.graph stands.cid in
      let height : ℕ = (block_in kept.graph stands.cid).delta.priority in
      let parts = and_parts (not (is_linked (processed kept) (block_in kept.graph stands.cid).cid)) (test (head_of (block_in kept.graph stands.cid))) stands.passes in
      let free : is_linked (processed kept) stands.cid ≡ false = not-true (is_linked (processed kept) stands.cid) (ap (λ (z : Cid). not (is_linked (processed kept) z)) (sym named) ∙ parts.0) in
      found_any test stands.cid height entries
      (heights stands.cid ∙ ap (λ (s : Bool). cond s None (height_in (processed kept) stands.cid)) free ∙ height_is kept.graph kept.order stands.cid stands.within)
      (ap (λ (z : Cid). test (z, height)) (sym named) ∙ parts.1)

  -- the entries are the heads
  pub front_members : SameMembers entries (open_heads (processed kept))
  front_members = record {
    same = λ test.
        same_truth (list_any test entries) (list_any (is_head (processed kept) test) (processed kept)) (entry_is_head test) (head_is_entry test)
        ∙ sym (list_any-map test head_of (filter (λ (block : Block). not (is_linked (processed kept) block.cid)) (processed kept))
        ∙ list_any-filter (λ (block : Block). test (head_of block)) (λ (block : Block). not (is_linked (processed kept) block.cid)) (processed kept));
  }

  -- and in order they are the list of heads
  pub front_heads : (rows : List Head) → Ascends head_cmp rows entries → rows ≡ heads (processed kept)
  front_heads rows ascends =
      ascends_is head_cmp head_total head_tied rows (open_heads (processed kept))
      (record { sorted = ascends.sorted; members = record { same = λ test. ascends.members.same test ∙ front_members.same test } })
