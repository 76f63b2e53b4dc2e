-- One cut after another.
use Rattle.std.proofs.Common.{◌≡◌, ◌≢◌, ◌⊎◌, inl, inr, ℕ, suc, ◌+◌, ◌-◌, ◌*◌, ◌^◌, ◌<◌, ◌≤◌, true, false, List, [], ◌∷◌, ◌++◌, length, map, take, drop, refl, ap, sym, ◌∙◌, subst, arith, length-append, append_assoc}
use Rattle.std.specs.Prelude.{nat_le}
use Rattle.std.proofs.lemmas.List.{append-nil, take_all, take-append-drop, take-map, drop-map, length-map, length-take-le, length-drop}
use Rattle.std.proofs.lemmas.Bool.{leb-true, leb-false, and_from, and_parts}
use Rattle.mc_base.specs.declared.cid.Cid.{Cid}
use Rattle.mc_model.specs.declared.delta.Delta.{Delta}
use Rattle.mc_model.specs.declared.delta.Element.{Element}
use Rattle.mc_model.specs.declared.delta.Tomb.{Tomb}
use Rattle.mc_model.specs.Cuts.{Pair, pair_tomb, tombs_delta, tombs_size, IsFull, IsCut, IsCuts, IsTooLarge}
use Rattle.mc_model.specs.DeltaText.{priority_bytes}
use Rattle.mc_model.specs.Made.{made_cid}
use Rattle.mc_model.specs.Offer.{block_max}
use Rattle.mc_write.specs.declared.error.WriteError.{WriteError}
use Rattle.mc_write.specs.declared.error.WriteError.TheVariants.{BlockTooLarge, PriorityFull, Failed, Memory}
use Rattle.mc_write.specs.Cutting.{IsNext, NextRefused, CutsRefused}
use Rattle.mc_write.specs.declared.pair.Pair.{Pair as Own}
use Rattle.mc_write.specs.Lengths.{capped, links_length, block_length, tomb_length, IsRoom, IsTombLen}
use Rattle.mc_write.specs.Pairs.{seen, all_seen, has_digest, have_digests}
use Rattle.mc_write.proofs.LengthFacts.{size_is, one_fits, made_link}

digests_apart : (xs ys : List Pair) → have_digests (xs ++ ys) ≡ true → (have_digests xs ≡ true) × (have_digests ys ≡ true)
digests_apart [] ys e = (refl, e)
digests_apart (x ∷ xs) ys e =
    let parts = and_parts (has_digest x.cid) (have_digests (xs ++ ys)) e in
    let more = digests_apart xs ys parts.1 in
    (and_from (has_digest x.cid) (have_digests xs) parts.0 more.0, more.1)

-- one cut

full_is : (links : List Cid) (priority : ℕ) (key : List ℕ) (taken rest : List Pair) → 1 ≤ length key → have_digests (taken ++ rest) ≡ true
    → (rest ≢ [] → block_max < block_length (links_length links) (length (priority_bytes priority) + (length taken + 1) * tomb_length (length key))) → IsFull links priority key taken rest
full_is links priority key taken [] some digests full = tt
full_is links priority key taken (next ∷ rest) some digests full =
    let front : have_digests (taken ++ next ∷ []) ≡ true = (digests_apart (taken ++ next ∷ []) rest (rw append_assoc digests)).0 in
    let size = size_is links priority key (taken ++ next ∷ []) some front in
    let count : length (taken ++ next ∷ []) ≡ length taken + 1 = length-append taken (next ∷ []) in
    let large = full (λ e. absurd (cc)) in
    rw (size, count) large

-- the first pairs of a cut, by how many a block has room for
pub cut_is : (links : List Cid) (priority : ℕ) (key : List ℕ) (taken rest : List Pair) (len base tomb most : ℕ) (delta : Delta) → 1 ≤ length key → have_digests (taken ++ rest) ≡ true
    → len ≡ capped (links_length links) → base ≡ length (priority_bytes priority) → tomb ≡ tomb_length (length key) → most ≡ length taken + length rest
    → IsRoom len base tomb most (length taken) → 0 < length taken → delta ≡ tombs_delta key taken priority → IsCut links priority key taken rest delta
cut_is links priority key taken rest len base tomb most delta some digests len_is base_is tomb_is most_is room any made =
    let count : ℕ = length taken in
    let fits : block_length len (length (priority_bytes priority) + count * tomb_length (length key)) ≤ block_max = rw (← base_is, ← tomb_is) (room.fits any) in
    let whole : len ≡ links_length links = omega (arith, len_is, fits) in
    record {
      some = λ e. omega (arith, any, ap length e);
      made = made;
      fits = rw (made, size_is links priority key taken some (digests_apart taken rest digests).0, ← whole) fits;
      full = full_is links priority key taken rest some digests (λ more.
          rw (← whole, ← base_is, ← tomb_is) (room.full (omega (arith, most_is, not_empty rest more))));
    }
  where
    not_empty : (xs : List Pair) → xs ≢ [] → 0 < length xs
    not_empty [] e = absurd (e refl)
    not_empty (x ∷ xs) e = omega arith

-- no room for the first
pub too_large : (links : List Cid) (priority : ℕ) (key : List ℕ) (pairs : List Pair) (len base tomb most size : ℕ) → 1 ≤ length key → have_digests pairs ≡ true → priority < 2 ^ 64 → 0 < length pairs
    → len ≡ capped (links_length links) → base ≡ length (priority_bytes priority) → tomb ≡ tomb_length (length key) → most ≡ length pairs
    → IsRoom len base tomb most 0 → size ≡ capped (block_length len (base + tomb)) → IsTooLarge links priority key pairs size
too_large links priority key [] len base tomb most size some digests left any len_is base_is tomb_is most_is room size_here = absurd (omega (arith, any))
too_large links priority key (pair ∷ pairs) len base tomb most size some digests left any len_is base_is tomb_is most_is room size_here =
    let parts = and_parts (has_digest pair.cid) (have_digests pairs) digests in
    let one = size_is links priority key (pair ∷ []) some (rw parts.0 refl) in
    let delta : base + tomb ≡ length (priority_bytes priority) + 1 * tomb_length (length key) = omega (arith, base_is, tomb_is) in
    let same : base + (0 + 1) * tomb ≡ base + tomb = omega arith in
    let large : block_max < block_length len (base + tomb) = rw same at room.full (omega (arith, most_is, any)) in
    let exact : tombs_size links priority key (pair ∷ []) ≡ block_length (links_length links) (base + tomb) = one ∙ ap (block_length (links_length links)) (sym delta) in
    (left, omega (arith, exact, large, len_is), omega (arith, exact, size_here, len_is))

-- cuts of whatever is left

pub cuts_exist : (links : List Cid) (priority : ℕ) (key : List ℕ) (taken rest : List Pair) → 1 ≤ length key → length key ≤ 1024 → have_digests rest ≡ true → taken ≢ []
    → tombs_size links priority key taken ≤ block_max → priority + length rest < 2 ^ 69 → (deltas : List Delta) × IsCuts links priority key (taken ++ rest) deltas × (deltas ≢ [])
cuts_exist links priority key taken [] some short digests any fits below =
    let delta : Delta = tombs_delta key taken priority in
    (delta ∷ [], (taken, [], refl, record { some = any; made = refl; fits = fits; full = tt }, refl), λ e. absurd (cc))
cuts_exist links priority key taken (next ∷ rest) some short digests any fits below =
    let parts = and_parts (has_digest next.cid) (have_digests rest) digests in
    (elim (nat_le (tombs_size links priority key (taken ++ next ∷ [])) block_max) as (λ b. nat_le (tombs_size links priority key (taken ++ next ∷ [])) block_max ≡ b
    → (deltas : List Delta) × IsCuts links priority key (taken ++ next ∷ rest) deltas × (deltas ≢ [])) [
      | true ↦ λ e.
          let more = cuts_exist links priority key (taken ++ next ∷ []) rest some short parts.1 (not_snoc taken next) (leb-true _ block_max e) (omega (arith, below)) in
          (more.0, subst (λ (pairs : List Pair). IsCuts links priority key pairs more.0) (append_assoc taken (next ∷ []) rest) more.1, more.2)
      | false ↦ λ e.
          let delta : Delta = tombs_delta key taken priority in
          let fits_one = one_fits (made_cid links delta ∷ []) (priority + 1) key next (made_link links delta) (omega (arith, below)) some short parts.0 in
          let more = cuts_exist (made_cid links delta ∷ []) (priority + 1) key (next ∷ []) rest some short parts.1 (λ n. absurd (cc)) fits_one (omega (arith, below)) in
          (delta ∷ more.0, (taken, next ∷ rest, refl, record { some = any; made = refl; fits = fits; full = leb-false _ block_max e }, more.1), λ n. absurd (cc))
    ]) refl
  where
    not_snoc : (xs : List Pair) (x : Pair) → xs ++ x ∷ [] ≢ []
    not_snoc [] x e = absurd (cc)
    not_snoc (y ∷ xs) x e = absurd (cc)

abbrev made_delta : List Element → List Tomb → ℕ → Delta
made_delta elements tombstones priority = record { elements = elements; tombstones = tombstones; priority = priority }

-- the next delta
pub next_is : (links : List Cid) (priority : ℕ) (key : List ℕ) (own : List Own) (len base tomb count : ℕ) (elements : List Element) (tombstones : List Tomb) → have_digests (all_seen own) ≡ true → priority < 2 ^ 64
    → len ≡ capped (links_length links) → base ≡ length (priority_bytes priority) → IsTombLen key tomb → IsRoom len base tomb (length own) count → count ≢ 0 → elements ≡ [] → tombstones ≡ map (pair_tomb key) (all_seen (take count own))
    → IsNext links priority key (all_seen own) (record { elements = elements; tombstones = tombstones; priority = priority })
next_is links priority key own len base tomb count elements tombstones digests left len_is base_is tomb_is room any no_elements made =
    let pairs : List Pair = all_seen own in
    let seen_first : map (pair_tomb key) (all_seen (take count own)) ≡ map (pair_tomb key) (take count pairs) = ap (map (pair_tomb key)) (sym (take-map seen count own)) in
    let size : length (take count pairs) ≡ count = length-take-le count pairs (omega (arith, room.within, length-map own seen)) in
    let number : length tombstones ≡ count = ap length (made ∙ seen_first) ∙ length-map (take count pairs) (pair_tomb key) ∙ size in
    let rest : length (drop count pairs) ≡ length pairs - count = length-drop count pairs in
    let delta_is : made_delta elements tombstones priority ≡ tombs_delta key (take count pairs) priority = λ i. record { elements = no_elements i; tombstones = (made ∙ seen_first) i; priority = priority } in
    record {
      left = left;
      cut = subst (λ (n : ℕ). IsCut links priority key (take n pairs) (drop n pairs) (made_delta elements tombstones priority)) (sym number)
          (cut_is links priority key (take count pairs) (drop count pairs) len base tomb (length own) (made_delta elements tombstones priority) tomb_is.some
          (ap have_digests (take-append-drop count pairs) ∙ digests) len_is base_is tomb_is.len (omega (arith, size, rest, room.within, length-map own seen))
          (subst (IsRoom len base tomb (length own)) (sym size) room) (omega (arith, size, any)) delta_is);
    }

pub none_fits : (links : List Cid) (priority : ℕ) (key : List ℕ) (own : List Own) (len base tomb count size : ℕ) → have_digests (all_seen own) ≡ true → 0 < length own → priority < 2 ^ 64
    → len ≡ capped (links_length links) → base ≡ length (priority_bytes priority) → IsTombLen key tomb → IsRoom len base tomb (length own) count → count ≡ 0 → size ≡ capped (block_length len (base + tomb))
    → IsTooLarge links priority key (all_seen own) size
none_fits links priority key own len base tomb count size digests any left len_is base_is tomb_is room none size_is =
    too_large links priority key (all_seen own) len base tomb (length own) size tomb_is.some digests left (omega (arith, any, length-map own seen)) len_is base_is tomb_is.len (sym (length-map own seen))
    (subst (IsRoom len base tomb (length own)) none room) size_is

-- the deltas that were made, and how the cuts go on from there
pub record IsCutting (heads : List Cid) (first : ℕ) (key : List ℕ) (pairs : List Pair) (len now : ℕ) (rest : List Pair) (deltas : List Delta) : Type 0 where
  pub links : List Cid
  pub len_is : len ≡ capped (links_length links)
  pub counted : now ≡ first + length deltas
  pub so_far : (later : List Delta) → IsCuts links now key rest later → IsCuts heads first key pairs (deltas ++ later)
  pub stage : ((deltas ≡ []) × (links ≡ heads) × (rest ≡ pairs)) ⊎ (links_length links ≡ 44)

pub cutting_starts : (heads : List Cid) (first : ℕ) (key : List ℕ) (pairs : List Pair) (len : ℕ) → len ≡ capped (links_length heads) → IsCutting heads first key pairs len first pairs []
cutting_starts heads first key pairs len len_is = record { links = heads; len_is = len_is; counted = omega arith; so_far = λ later cuts. cuts; stage = inl (refl, refl, refl) }

pub cutting_goes_on : (heads : List Cid) (first : ℕ) (key : List ℕ) (pairs : List Pair) (len now : ℕ) (rest : List Pair) (deltas : List Delta) (delta : Delta) (next : ℕ) (left : List Pair) (now_deltas : List Delta)
    → (cutting : IsCutting heads first key pairs len now rest deltas) → IsNext cutting.links now key rest delta → next ≡ now + 1 → left ≡ drop (length delta.tombstones) rest → now_deltas ≡ deltas ++ delta ∷ []
    → IsCutting heads first key pairs 44 next left now_deltas
cutting_goes_on heads first key pairs len now rest deltas delta next left now_deltas cutting is_next next_is left_is deltas_are =
    let link : List Cid = made_cid cutting.links delta ∷ [] in
    let one : links_length link ≡ 44 = made_link cutting.links delta in
    let count : ℕ = length delta.tombstones in
    rw (next_is, left_is, deltas_are) (record {
      links = link;
      len_is = omega (arith, one);
      counted = omega (arith, cutting.counted, length-append deltas (delta ∷ []));
      so_far = λ later cuts. subst (IsCuts heads first key pairs) (sym (append_assoc deltas (delta ∷ []) later))
          (cutting.so_far (delta ∷ later) (take count rest, drop count rest, sym (take-append-drop count rest), is_next.cut, cuts));
      stage = inr one;
    })

pub cutting_ends : (heads : List Cid) (first : ℕ) (key : List ℕ) (pairs : List Pair) (len now : ℕ) (rest : List Pair) (deltas : List Delta) → IsCutting heads first key pairs len now rest deltas → rest ≡ [] → IsCuts heads first key pairs deltas
cutting_ends heads first key pairs len now rest deltas cutting done = subst (IsCuts heads first key pairs) (append-nil deltas) (cutting.so_far [] done)

some_deltas : (xs ys : List Delta) → ys ≢ [] → length xs < length (xs ++ ys)
some_deltas xs [] e = absurd (e refl)
some_deltas xs (y ∷ ys) e = omega (arith, length-append xs (y ∷ ys))

pub cutting_refused : (heads : List Cid) (first : ℕ) (key : List ℕ) (pairs : List Pair) (len now : ℕ) (rest : List Pair) (deltas : List Delta) (error : WriteError) → (cutting : IsCutting heads first key pairs len now rest deltas)
    → 1 ≤ length key → length key ≤ 1024 → have_digests rest ≡ true → rest ≢ [] → NextRefused cutting.links now key rest error → CutsRefused heads first key pairs error
cutting_refused heads first key pairs len now [] deltas error cutting some short digests any refused = absurd (any refl)
cutting_refused heads first key pairs len now (pair ∷ rest) deltas (BlockTooLarge size) cutting some short digests any refused = elim cutting.stage [
  | inl at ↦
      let same : now ≡ first = omega (arith, cutting.counted, ap length at.0) in
      subst (λ (ps : List Pair). IsTooLarge heads first key ps size) at.2 (subst (λ (n : ℕ). IsTooLarge heads n key (pair ∷ rest) size) same (subst (λ (ls : List Cid). IsTooLarge ls now key (pair ∷ rest) size) at.1 refused))
  | inr one ↦
      let parts = and_parts (has_digest pair.cid) (have_digests rest) digests in
      let fits = one_fits cutting.links now key pair one (omega (arith, refused.0)) some short parts.0 in
      absurd (omega (arith, fits, refused.1))
]
cutting_refused heads first key pairs len now (pair ∷ rest) deltas PriorityFull cutting some short digests any refused = elim cutting.stage [
  | inl at ↦ inl (λ e. any (at.2 ∙ e), omega (arith, cutting.counted, ap length at.0, refused.0))
  | inr one ↦
      let parts = and_parts (has_digest pair.cid) (have_digests rest) digests in
      let fits = one_fits cutting.links now key pair one (omega (arith, refused.0)) some short parts.0 in
      let more = cuts_exist cutting.links now key (pair ∷ []) rest some short parts.1 (λ n. absurd (cc)) fits (omega (arith, refused.0, refused.1)) in
      inr (deltas ++ more.0, cutting.so_far more.0 more.1, omega (arith, cutting.counted, refused.0, some_deltas deltas more.0 more.2))
]
cutting_refused heads first key pairs len now (pair ∷ rest) deltas Failed cutting some short digests any refused = tt
cutting_refused heads first key pairs len now (pair ∷ rest) deltas Memory cutting some short digests any refused = tt

-- the digests of what is left
pub digests_left : (taken : ℕ) (pairs left : List Pair) → have_digests pairs ≡ true → left ≡ drop taken pairs → have_digests left ≡ true
digests_left taken pairs left digests left_is = ap have_digests left_is ∙ (digests_apart (take taken pairs) (drop taken pairs) (ap have_digests (take-append-drop taken pairs) ∙ digests)).1

pub none_seen : (own : List Own) → length own ≡ 0 → all_seen own ≡ []
none_seen [] e = refl
none_seen (pair ∷ own) e = absurd (omega arith)

pub some_seen : (own : List Own) → 0 < length own → all_seen own ≢ []
some_seen [] any e = absurd (omega arith)
some_seen (pair ∷ own) any e = absurd (let f : suc (length (all_seen own)) ≡ 0 = ap length e in omega arith)

pub rest_seen : (taken : ℕ) (own : List Own) → all_seen (take (length own - taken) (drop taken own)) ≡ drop taken (all_seen own)
rest_seen taken own = ap all_seen (take_all (length own - taken) (drop taken own) (omega (arith, length-drop taken own))) ∙ sym (drop-map seen taken own)
