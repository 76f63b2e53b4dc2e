-- What further blocks do to the live elements of a key.
use Rattle.std.proofs.Common.{◌≡◌, ℕ, Bool, true, false, cond, List, [], ◌∷◌, ◌++◌, ◌||◌, refl, ap, ◌∙◌}
use Rattle.std.specs.Prelude.{fold}
use Rattle.std.specs.List.{list_any}
use Rattle.std.proofs.lemmas.List.Folds.{list_any-append}
use Rattle.std.proofs.lemmas.List.Concat.{flat_map-append}
use Rattle.mc_model.specs.declared.block.Block.{Block}
use Rattle.mc_model.specs.Id.{id_text}
use Rattle.mc_model.specs.Rank.{greater, greatest}
use Rattle.mc_model.specs.Live.{has_tomb, is_hidden, ranked_in, live_among, live, value_row, is_tomb}
use Rattle.mc_model.proofs.Greatest.{greatest-append}

pub has_tomb-append : (blocks more : List Block) (key id : List ℕ) → has_tomb (blocks ++ more) key id ≡ (has_tomb blocks key id || has_tomb more key id)
has_tomb-append blocks more key id = list_any-append (λ block. list_any (is_tomb key id) block.delta.tombstones) blocks more

pub live_among-append : (all blocks more : List Block) (key : List ℕ) → live_among all key (blocks ++ more) ≡ live_among all key blocks ++ live_among all key more
live_among-append all blocks more key = flat_map-append (λ block. cond (is_hidden all key block) [] (ranked_in key block)) blocks more

-- what is hidden alike lives alike
pub live_among_alike : (all all' blocks : List Block) (key : List ℕ) → ((id : List ℕ) → has_tomb all key id ≡ has_tomb all' key id) → live_among all key blocks ≡ live_among all' key blocks
live_among_alike all all' [] key same = refl
live_among_alike all all' (b ∷ blocks) key same =
    ap (λ t. cond t [] (ranked_in key b) ++ live_among all key blocks) (same (id_text b.cid.0))
    ∙ ap (λ rest. cond (is_hidden all' key b) [] (ranked_in key b) ++ rest) (live_among_alike all all' blocks key same)

or_false : (a b : Bool) → b ≡ false → (a || b) ≡ a
or_false true b e = refl
or_false false b e = e

-- without a new tombstone of the key, what lived still lives
pub live-append_no_tomb : (blocks more : List Block) (key : List ℕ) → ((id : List ℕ) → has_tomb more key id ≡ false)
    → live (blocks ++ more) key ≡ live blocks key ++ live_among (blocks ++ more) key more
live-append_no_tomb blocks more key none =
    live_among-append (blocks ++ more) blocks more key
    ∙ ap (λ front. front ++ live_among (blocks ++ more) key more)
    (live_among_alike (blocks ++ more) blocks blocks key (λ id. has_tomb-append blocks more key id ∙ or_false _ _ (none id)))

-- and the value row is the greatest of the old one and the new elements
pub value_row-append_no_tomb : (blocks more : List Block) (key : List ℕ) → ((id : List ℕ) → has_tomb more key id ≡ false)
    → value_row (blocks ++ more) key ≡ fold greater (value_row blocks key) (live_among (blocks ++ more) key more)
value_row-append_no_tomb blocks more key none =
    ap greatest (live-append_no_tomb blocks more key none) ∙ greatest-append (live blocks key) (live_among (blocks ++ more) key more)

-- with new tombstones the old elements are looked at again
pub value_row-append : (blocks more : List Block) (key : List ℕ)
    → value_row (blocks ++ more) key ≡ fold greater (greatest (live_among (blocks ++ more) key blocks)) (live_among (blocks ++ more) key more)
value_row-append blocks more key =
    ap greatest (live_among-append (blocks ++ more) blocks more key) ∙ greatest-append (live_among (blocks ++ more) key blocks) (live_among (blocks ++ more) key more)

-- where the new blocks hide nothing more of the key, the value row is the greatest of the old one and the new elements
pub value_row-append_alike : (blocks more : List Block) (key : List ℕ) → ((id : List ℕ) → has_tomb (blocks ++ more) key id ≡ has_tomb blocks key id)
    → value_row (blocks ++ more) key ≡ fold greater (value_row blocks key) (live_among (blocks ++ more) key more)
value_row-append_alike blocks more key alike =
    value_row-append blocks more key
    ∙ ap (λ old. fold greater (greatest old) (live_among (blocks ++ more) key more)) (live_among_alike (blocks ++ more) blocks blocks key alike)
