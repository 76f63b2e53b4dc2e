-- What is gathered, with one more block; and the rows that are taken, with one more.
use Rattle.std.proofs.Common.{◌≡◌, Bool, true, false, cond, List, [], ◌∷◌, ◌++◌, map, length, ◌||◌, sym, refl, ap, ◌∙◌, subst}
use Rattle.std.specs.Prelude.{fold, filter, if◌then◌else◌, ◌≢◌}
use Rattle.std.specs.List.{flat_map}
use Rattle.std.specs.Str.{bytes_eq}
use Rattle.std.proofs.Math.Bool.{or-false}
use Rattle.std.proofs.lemmas.List.{append-nil, map-append}
use Rattle.std.proofs.lemmas.List.Concat.{flat_map-append}
use Rattle.std.proofs.lemmas.List.Elements.{filter-append}
use Rattle.std.proofs.lemmas.List.Folds.{list_any-append}
use Rattle.std.proofs.lemmas.Slice.Eq.{bytes_eq-Decides}
use Rattle.indexmap.specs.IndexSet.{insert_key}
use Rattle.mc_base.specs.declared.cid.Cid.{Cid}
use Rattle.mc_model.specs.declared.block.Block.{Block}
use Rattle.mc_model.specs.Front.{same_cid, is_among}
use Rattle.mc_model.specs.Offer.{block_of}
use Rattle.mc_model.proofs.Counts.{same_cid-symm}
use Rattle.mc_model.proofs.Greatest.{fold-append}
use Rattle.mc_raw.specs.declared.raw.Row.{Row}
use Rattle.mc_raw.specs.Raw.{has_row, is_row_of}
use Rattle.mc_raw.specs.RowTables.{element_line, tomb_line}
use Rattle.mc_audit.specs.declared.blocks.Blocks.{Blocks}
use Rattle.mc_audit.specs.declared.found.Found.{Found}
use Rattle.mc_audit.specs.Checks.{AreCids, AreTaken, block_in_row, marked_blocks}
use Rattle.mc_audit.specs.Found.{Gathers, with_links}
use Rattle.mc_audit.specs.Rows.{head_row_of, cid_in}
use Rattle.mc_audit.proofs.FrontFacts.{insert_any}

flat_more : {A B : Type 0} (f : A → List B) (xs : List A) (x : A) → flat_map f (xs ++ x ∷ []) ≡ flat_map f xs ++ f x
flat_more f xs x = flat_map-append f xs (x ∷ []) ∙ ap (λ z. flat_map f xs ++ z) (append-nil (f x))

pub gathered_more : (blocks : List Block) (block : Block) (old new : Found)
    → new.elements.items ≡ old.elements.items ++ map (element_line block) block.delta.elements
    → new.tombs.items ≡ old.tombs.items ++ map tomb_line block.delta.tombstones
    → new.heads.items ≡ old.heads.items ++ head_row_of block ∷ []
    → new.links.keys ≡ fold (insert_key same_cid) old.links.keys block.links
    → Gathers blocks old → Gathers (blocks ++ block ∷ []) new
gathered_more blocks block old new elements tombs heads links before = record {
  elements = elements ∙ ap (λ z. z ++ map (element_line block) block.delta.elements) before.elements ∙ sym (flat_more (λ (b : Block). map (element_line b) b.delta.elements) blocks block);
  tombs = tombs ∙ ap (λ z. z ++ map tomb_line block.delta.tombstones) before.tombs ∙ sym (flat_more (λ (b : Block). map tomb_line b.delta.tombstones) blocks block);
  heads = heads ∙ ap (λ z. z ++ head_row_of block ∷ []) before.heads ∙ sym (map-append head_row_of blocks (block ∷ []));
  links = links ∙ ap (λ z. fold (insert_key same_cid) z block.links) before.links ∙ sym (fold-append with_links [] blocks (block ∷ []));
}

-- the row of a block is taken
pub taken_more : (marked : List Cid) (rows : List Row) (row : Row) (block : Block) (old new : Blocks)
    → block ≡ block_of (cid_in row) row.b → block.cid ≡ cid_in row
    → new.stored.keys ≡ insert_key same_cid old.stored.keys block.cid
    → ((before : List Block) → Gathers before old.found → Gathers (if is_among marked block.cid then before ++ block ∷ [] else before) new.found)
    → AreTaken marked rows old → AreTaken marked (rows ++ row ∷ []) new
taken_more marked rows row block old new is named stored found before = record {
  stored = λ cid.
      ap (λ z. is_among z cid) stored ∙ insert_any (same_cid cid) old.stored.keys block.cid
      ∙ ap (λ (c : Cid). is_among old.stored.keys cid || same_cid cid c) named
      ∙ ap (λ t. t || same_cid cid (cid_in row)) (before.stored cid)
      ∙ ap (λ t. has_row rows cid || t) (same_cid-symm cid (cid_in row) ∙ sym (or-false (is_row_of cid row)))
      ∙ sym (list_any-append (is_row_of cid) rows (row ∷ []));
  gathers =
      subst (λ (z : List Block). Gathers z new.found)
      (ap (λ (c : Cid). if is_among marked c then marked_blocks marked rows ++ block ∷ [] else marked_blocks marked rows) named
      ∙ ap (λ (b : Block). if is_among marked (cid_in row) then marked_blocks marked rows ++ b ∷ [] else marked_blocks marked rows) is
      ∙ more (is_among marked (cid_in row))
      ∙ sym (map-append block_in_row (filter (λ (r : Row). is_among marked (cid_in r)) rows) (filter (λ (r : Row). is_among marked (cid_in r)) (row ∷ [])))
      ∙ ap (map block_in_row) (sym (filter-append (λ (r : Row). is_among marked (cid_in r)) rows (row ∷ []))))
      (found (marked_blocks marked rows) before.gathers);
}
  where
    more : (t : Bool) → (if t then marked_blocks marked rows ++ block_in_row row ∷ [] else marked_blocks marked rows) ≡ marked_blocks marked rows ++ map block_in_row (cond t (row ∷ []) [])
    more true = refl
    more false = sym (append-nil (marked_blocks marked rows))

-- identifiers of rows, with one more

pub cids_more : (keys : List Cid) (rows : List Row) (row : Row) → AreCids keys rows → AreCids (insert_key same_cid keys (cid_in row)) (rows ++ row ∷ [])
cids_more keys rows row are cid digest =
    insert_any (same_cid cid) keys (cid_in row)
    ∙ ap (λ t. t || same_cid cid (cid_in row)) (are cid digest)
    ∙ ap (λ t. has_row rows cid || t) (same_cid-symm cid (cid_in row) ∙ sym (or-false (is_row_of cid row)))
    ∙ sym (list_any-append (is_row_of cid) rows (row ∷ []))

pub cids_other : (keys : List Cid) (rows : List Row) (row : Row) → length row.a ≢ 32 → AreCids keys rows → AreCids keys (rows ++ row ∷ [])
cids_other keys rows row other are cid digest =
    are cid digest
    ∙ sym (or-false (has_row rows cid))
    ∙ ap (λ t. has_row rows cid || t) (sym (ap (λ t. t || false) (unlike (bytes_eq row.a cid.0) (bytes_eq-Decides row.a cid.0).0)))
    ∙ sym (list_any-append (is_row_of cid) rows (row ∷ []))
  where
    unlike : (t : Bool) → (t ≡ true → row.a ≡ cid.0) → t ≡ false
    unlike true same = absurd (other (ap length (same refl) ∙ digest))
    unlike false same = refl
