-- The last rows of the blocks, of rows that ascend by the block and then by the value.
use Rattle.std.proofs.Common.{◌≡◌, ℕ, Bool, true, false, cond, ◌&&◌, List, [], ◌∷◌, ◌++◌, ◌⊎◌, inl, inr, sym, refl, ap, ◌∙◌, subst}
use Rattle.std.specs.Prelude.{nat_eq, reverse}
use Rattle.std.proofs.lemmas.Bool.{and_parts, eqb-true, eq-eqb}
use Rattle.std.proofs.lemmas.List.{reverse-append}
use Rattle.std.specs.List.{dedup_from, AllByRecursion}
use Rattle.std.specs.List.Sorted.{IsStrictlySortedBy}
use Rattle.std.specs.Str.{bytes_eq}
use Rattle.std.specs.Cmp.Lexicographic.{slice_cmp}
use Rattle.std.specs.Ordering.{nat_cmp, ordering_then, ordering_reverse, is_gt}
use Rattle.std.specs.declared.cmp.Ordering.{Ordering}
use Rattle.std.specs.declared.cmp.Ordering.TheVariants.{Less, Equal, Greater}
use Rattle.std.specs.FinMap.{nat_cmp-IsAntisymmetric}
use Rattle.std.proofs.lemmas.Cmp.{nat_list_cmp_total, tied_itself}
use Rattle.std.proofs.lemmas.Map.Lookups.{exact_bytes}
use Rattle.mc_base.proofs.Cids.{cid_same}
use Rattle.mc_base.proofs.Orders.{then_equal}
use Rattle.mc_base.specs.declared.cid.Cid.{Cid}
use Rattle.mc_model.specs.Front.{same_cid}
use Rattle.mc_model.proofs.Counts.{cid_is, cid_itself}
use Rattle.mc_keep.specs.declared.rows.ElementRow.{ElementRow}
use Rattle.mc_keep.specs.ElementOrder.{block_cmp, block_total, element_cmp, element_total}
use Rattle.mc_write.specs.Rows.{same_block}
use Rattle.mc_write.proofs.Membership.{In}

-- each of the list is below the row
abbrev pub Under : ElementRow → List ElementRow → Type 0
Under row rows = AllByRecursion (λ other. element_cmp other row ≡ Less) rows

abbrev pub Over : ElementRow → List ElementRow → Type 0
Over row rows = AllByRecursion (λ other. element_cmp row other ≡ Less) rows

-- each row is above those after it
abbrev pub Descends : List ElementRow → Type 0
Descends [] = AllByRecursion (λ (other : ElementRow). element_cmp other other ≡ Less) []
Descends (row ∷ rows) = Under row rows × Descends rows

all_snoc : {X : Type 0} (P : X → Type 0) (xs : List X) (x : X) → AllByRecursion P xs → P x → AllByRecursion P (xs ++ x ∷ [])
all_snoc P [] x all p = (p, all)
all_snoc P (y ∷ xs) x all p = (all.0, all_snoc P xs x all.1 p)

snoc_descends : (rows : List ElementRow) (row : ElementRow) → Descends rows → Over row rows → Descends (rows ++ row ∷ [])
snoc_descends [] row d o = (d, d)
snoc_descends (first ∷ rows) row d o = (all_snoc (λ other. element_cmp other first ≡ Less) rows row d.0 o.0, snoc_descends rows row d.1 o.1)

pub reverse_cons : (row : ElementRow) (rows : List ElementRow) → reverse (row ∷ rows) ≡ reverse rows ++ row ∷ []
reverse_cons row rows = reverse-append (row ∷ []) rows

reverse_all : (P : ElementRow → Type 0) (rows : List ElementRow) → AllByRecursion P rows → AllByRecursion P (reverse rows)
reverse_all P [] all = all
reverse_all P (row ∷ rows) all = subst (AllByRecursion P) (sym (reverse_cons row rows)) (all_snoc P (reverse rows) row (reverse_all P rows all.1) all.0)

pub reverse_descends : (rows : List ElementRow) → IsStrictlySortedBy element_cmp rows → Descends (reverse rows)
unfolding IsStrictlySortedBy
reverse_descends [] s = s
reverse_descends (row ∷ rows) s =
    subst Descends (sym (reverse_cons row rows)) (snoc_descends (reverse rows) row (reverse_descends rows s.1) (reverse_all (λ other. element_cmp row other ≡ Less) rows s.0))

under_in : (row other : ElementRow) (rows : List ElementRow) → Under row rows → In other rows → element_cmp other row ≡ Less
under_in row other [] u i = absurd i
under_in row other (first ∷ rows) u (inl same) = subst (λ z. element_cmp z row ≡ Less) (sym same) u.0
under_in row other (first ∷ rows) u (inr i) = under_in row other rows u.1 i

-- the row itself, or one below it
abbrev pub UpTo : ElementRow → ElementRow → Type 0
UpTo other row = (other ≡ row) ⊎ (element_cmp other row ≡ Less)

first_part : (c v k : Ordering) → ordering_then (ordering_then c v) k ≡ Less → (c ≡ Less) ⊎ (c ≡ Equal)
first_part Less v k e = inl refl
first_part Equal v k e = inr refl
first_part Greater v k e = absurd (let f : Greater ≡ Less = e in cc)

second_part : (v k : Ordering) → ordering_then (ordering_then Equal v) k ≡ Less → is_gt v ≡ false
second_part Less k e = refl
second_part Equal k e = refl
second_part Greater k e = absurd (let f : Greater ≡ Less = e in cc)

-- rows of one block have its priority and its identifier
pub block_is : (a b : ElementRow) → a.priority ≡ b.priority → a.cid ≡ b.cid → same_block a b ≡ true
block_is a b p c =
    ap (λ (n : ℕ). nat_eq a.priority n && same_cid a.cid b.cid) (sym p) ∙ ap (λ (t : Bool). t && same_cid a.cid b.cid) (eq-eqb a.priority a.priority refl)
    ∙ subst (λ (z : Cid). same_cid a.cid z ≡ true) c (cid_itself a.cid)

pub block_of : (a b : ElementRow) → same_block a b ≡ true → (a.priority ≡ b.priority) × (a.cid ≡ b.cid)
block_of a b e =
    let both = and_parts (nat_eq a.priority b.priority) (same_cid a.cid b.cid) e in
    (eqb-true a.priority b.priority both.0, cid_is a.cid b.cid both.1)

same_itself : (row : ElementRow) → same_block row row ≡ true
same_itself row = block_is row row refl refl

less_digest : (a b : ElementRow) → element_cmp a b ≡ Less → (block_cmp a b ≡ Less) ⊎ (block_cmp a b ≡ Equal)
less_digest a b e = first_part (block_cmp a b) (slice_cmp nat_cmp a.value b.value) (slice_cmp nat_cmp a.key b.key) e

not_less : (o p : Ordering) → o ≡ ordering_reverse p → o ≡ Less → (p ≡ Less) ⊎ (p ≡ Equal) → true ≡ false
not_less o p e l (inl f) = absurd (let g : Less ≡ Greater = sym l ∙ e ∙ ap ordering_reverse f in cc)
not_less o p e l (inr f) = absurd (let g : Less ≡ Equal = sym l ∙ e ∙ ap ordering_reverse f in cc)

digests_same : (a b : ElementRow) → block_cmp a b ≡ Equal → same_block a b ≡ true
digests_same a b e =
    let both = then_equal (nat_cmp a.priority b.priority) (slice_cmp nat_cmp a.cid.0 b.cid.0) e in
    block_is a b (nat_cmp-IsAntisymmetric a.priority b.priority both.0) (cid_same a.cid b.cid (exact_bytes a.cid.0 b.cid.0 both.1))

-- how a block compares with that of a row
abbrev at_block : ℕ → Cid → ElementRow → Ordering
at_block priority cid row = ordering_then (nat_cmp priority row.priority) (slice_cmp nat_cmp cid.0 row.cid.0)

-- a row between two of one block is of that block
between : (first middle last : ElementRow) → element_cmp middle first ≡ Less → UpTo last middle → same_block last first ≡ true → same_block middle first ≡ true
between first middle last below (inl same) e = subst (λ z. same_block z first ≡ true) same e
between first middle last below (inr less) e = elim (less_digest middle first below) [
  | inr tied ↦ digests_same middle first tied
  | inl lower ↦
      let both = block_of last first e in
      let at_cid : (at_block last.priority first.cid middle ≡ Less) ⊎ (at_block last.priority first.cid middle ≡ Equal) =
      subst (λ (c : Cid). (at_block last.priority c middle ≡ Less) ⊎ (at_block last.priority c middle ≡ Equal)) both.1 (less_digest last middle less) in
      let back : (block_cmp first middle ≡ Less) ⊎ (block_cmp first middle ≡ Equal) =
      subst (λ (p : ℕ). (at_block p first.cid middle ≡ Less) ⊎ (at_block p first.cid middle ≡ Equal)) both.0 at_cid in
      absurd (let f : true ≡ false = not_less (block_cmp middle first) (block_cmp first middle) (block_total.antisymm middle first) lower back in cc)
]

pub in_dedup : (row kept : ElementRow) (rows : List ElementRow) → In row (dedup_from same_block kept rows) → In row (kept ∷ rows)
in_dedup row kept [] i = i
in_dedup row kept (next ∷ rows) i = elim (same_block next kept) as (λ t. In row (cond t (dedup_from same_block kept rows) (kept ∷ dedup_from same_block next rows)) → In row (kept ∷ next ∷ rows)) [
  | true ↦ λ j. elim (in_dedup row kept rows j) [ inl same ↦ inl same | inr k ↦ inr (inr k) ]
  | false ↦ λ j. elim j [ inl same ↦ inl same | inr k ↦ inr (in_dedup row next rows k) ]
] i

same_turned : (a b : ElementRow) → same_block a b ≡ true → same_block b a ≡ true
same_turned a b e = let both = block_of a b e in block_is b a (sym both.0) (sym both.1)

same_then : (a b c : ElementRow) → same_block a b ≡ true → same_block b c ≡ true → same_block a c ≡ true
same_then a b c e f =
    let first = block_of a b e in
    let next = block_of b c f in
    block_is a c (first.0 ∙ next.0) (first.1 ∙ next.1)

up_then : (a b c : ElementRow) → element_cmp a b ≡ Less → UpTo b c → UpTo a c
up_then a b c e (inl same) = inr (subst (λ z. element_cmp a z ≡ Less) same e)
up_then a b c e (inr f) = inr (element_total.trans a b c e f)

up_of : (row first : ElementRow) (rows : List ElementRow) → Under first rows → In row (first ∷ rows) → UpTo row first
up_of row first rows u (inl same) = inl same
up_of row first rows u (inr i) = inr (under_in first row rows u i)

-- no row of its block is above a row that is kept
pub last_of_block : (row other kept : ElementRow) (rows : List ElementRow) → Under kept rows → Descends rows → In row (dedup_from same_block kept rows) → In other (kept ∷ rows) → same_block row other ≡ true → UpTo other row
last_of_block row other kept [] u d (inl same) (inl same') e = inl (same' ∙ sym same)
last_of_block row other kept [] u d (inl same) (inr j) e = absurd j
last_of_block row other kept [] u d (inr i) j e = absurd i
last_of_block row other kept (next ∷ rows) u d i j e = (elim (same_block next kept) as (λ t. same_block next kept ≡ t → In row (cond t (dedup_from same_block kept rows) (kept ∷ dedup_from same_block next rows)) → UpTo other row) [
  | true ↦ λ s k. elim j [
    | inl is_kept ↦ last_of_block row other kept rows u.1 d.1 k (inl is_kept) e
    | inr later ↦ elim later [
      | inr deep ↦ last_of_block row other kept rows u.1 d.1 k (inr deep) e
      | inl is_next ↦
          let to_kept : same_block row kept ≡ true = same_then row other kept e (subst (λ z. same_block z kept ≡ true) (sym is_next) s) in
          up_then other kept row (subst (λ z. element_cmp z kept ≡ Less) (sym is_next) u.0) (last_of_block row kept kept rows u.1 d.1 k (inl refl) to_kept)
    ]
  ]
  | false ↦ λ s k. elim k [
    | inl is_kept ↦ subst (UpTo other) (sym is_kept) (up_of other kept (next ∷ rows) u j)
    | inr later ↦ elim j [
      | inr deep ↦ last_of_block row other next rows d.0 d.1 later deep e
      | inl other_kept ↦
          let low : UpTo row next = up_of row next rows d.0 (in_dedup row next rows later) in
          let same : same_block next kept ≡ true = between kept next row u.0 low (subst (λ z. same_block row z ≡ true) other_kept e) in
          absurd (let f : true ≡ false = sym same ∙ s in cc)
    ]
  ]
]) refl i

-- each block has a row that is kept
pub has_last : (row kept : ElementRow) (rows : List ElementRow) → In row (kept ∷ rows) → (last : ElementRow) × In last (dedup_from same_block kept rows) × (same_block last row ≡ true)
has_last row kept [] (inl same) = (kept, inl refl, subst (λ z. same_block kept z ≡ true) (sym same) (same_itself kept))
has_last row kept [] (inr i) = absurd i
has_last row kept (next ∷ rows) i = (elim (same_block next kept) as (λ t. same_block next kept ≡ t → (last : ElementRow) × In last (cond t (dedup_from same_block kept rows) (kept ∷ dedup_from same_block next rows)) × (same_block last row ≡ true)) [
  | true ↦ λ s. elim i [
    | inl is_kept ↦ has_last row kept rows (inl is_kept)
    | inr later ↦ elim later [
      | inr deep ↦ has_last row kept rows (inr deep)
      | inl is_next ↦ let found = has_last kept kept rows (inl refl) in
          (found.0, found.1, same_then found.0 kept row found.2 (same_turned row kept (subst (λ z. same_block z kept ≡ true) (sym is_next) s)))
    ]
  ]
  | false ↦ λ s. elim i [
    | inl is_kept ↦ (kept, inl refl, subst (λ z. same_block kept z ≡ true) (sym is_kept) (same_itself kept))
    | inr later ↦ let found = has_last row next rows later in (found.0, inr found.1, found.2)
  ]
]) refl

-- of two rows of one block the lower one has no greater value
pub value_up_to : (other row : ElementRow) → UpTo other row → same_block row other ≡ true → is_gt (slice_cmp nat_cmp other.value row.value) ≡ false
value_up_to other row (inl same) e = ap (λ (z : ElementRow). is_gt (slice_cmp nat_cmp z.value row.value)) same ∙ ap is_gt (tied_itself nat_list_cmp_total row.value)
value_up_to other row (inr less) e =
    let both = block_of row other e in
    let tied : block_cmp other row ≡ Equal =
    ap (λ (p : ℕ). ordering_then (nat_cmp other.priority p) (slice_cmp nat_cmp other.cid.0 row.cid.0)) both.0
    ∙ ap (λ (c : Cid). ordering_then (nat_cmp other.priority other.priority) (slice_cmp nat_cmp other.cid.0 c.0)) both.1
    ∙ tied_itself block_total other in
    second_part (slice_cmp nat_cmp other.value row.value) (slice_cmp nat_cmp other.key row.key)
    (ap (λ o. ordering_then (ordering_then o (slice_cmp nat_cmp other.value row.value)) (slice_cmp nat_cmp other.key row.key)) (sym tied) ∙ less)
