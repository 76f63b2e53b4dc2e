-- Changes that only store, changes of the mark alone and changes that only process fit.
use Rattle.std.proofs.Common.{◌≡◌, Bool, true, false, List, [], ◌++◌, map, Option, unwrap_or, sym, refl, ap, subst, ◌∙◌}
use Rattle.std.specs.Prelude.{None}
use Rattle.std.specs.List.{list_any, list_all}
use Rattle.std.proofs.lemmas.List.{append-nil}
use Rattle.std.proofs.Math.Bool.{or-false}
use Rattle.mc_base.specs.declared.cid.Cid.{Cid}
use Rattle.mc_model.specs.declared.block.Block.{Block}
use Rattle.mc_model.specs.declared.block.Stored.{Stored}
use Rattle.mc_model.specs.Ascending.{is_once}
use Rattle.mc_model.specs.Front.{same_cid, is_among, is_linked, head_at}
use Rattle.mc_model.specs.Kept.{Kept, IsKept, processed, blocks_in, is_stored, cids_of}
use Rattle.mc_model.specs.Live.{has_tomb, value_row}
use Rattle.mc_model.specs.Who.{who}
use Rattle.mc_model.specs.declared.layout.Layout.{Layout}
use Rattle.mc_model.specs.Offer.{is_good}
use Rattle.mc_keep.specs.declared.changes.Changes.{Changes}
use Rattle.mc_keep.specs.Changes.{changed, newly_processed, no_changes}
use Rattle.mc_keep.specs.New.{AreNew}
use Rattle.mc_keep.specs.Tables.{StoreFits, RowsFit, FrontFits, ChangesFit, MigrateFits}
use Rattle.mc_keep.proofs.Processed.{processed_after}

abbrev storing : List Stored → Changes
storing blocks = record no_changes { store = blocks }

abbrev marking : Option Bool → Changes
marking mark = record no_changes { mark = mark }

abbrev storing_marking : List Stored → Option Bool → Changes
storing_marking blocks mark = record no_changes { store = blocks; mark = mark }

-- nothing is processed, and no row changes

no_rows : (blocks : List Block) (stored : List Stored) (mark : Option Bool) → RowsFit blocks [] (storing_marking stored mark)
no_rows blocks stored mark = record {
  elements = record { same = λ test. refl };
  elements_once = refl;
  tombs = λ key id. ap (λ b. has_tomb b key id) (append-nil blocks) ∙ sym (or-false (has_tomb blocks key id));
  tombs_new = refl;
  tombs_once = refl;
  values = λ key. ap (λ b. value_row b key) (append-nil blocks);
  values_once = refl;
  winners = λ key. ap (λ b. who b key) (append-nil blocks);
  winners_once = refl;
  winners_with = refl;
}

no_front : (blocks : List Block) (stored : List Stored) (mark : Option Bool) → FrontFits blocks [] (storing_marking stored mark)
no_front blocks stored mark = record {
  links = λ cid. ap (λ b. is_linked b cid) (append-nil blocks) ∙ sym (or-false (is_linked blocks cid));
  links_new = refl;
  links_once = refl;
  heads = λ cid. ap (λ b. head_at b cid) (append-nil blocks);
  heads_once = refl;
}

stores_or_marks : (kept : Kept) (stored : List Stored) (mark : Option Bool) → StoreFits kept (storing_marking stored mark) → ChangesFit kept (storing_marking stored mark)
stores_or_marks kept stored mark fits =
    record { store = fits; marks = record { stored = refl; new = refl; once = refl }; rows = no_rows (processed kept) stored mark; ordinary = (refl, refl); front = no_front (processed kept) stored mark }

pub store_fits : (kept : Kept) (stored : List Stored) → StoreFits kept (storing stored) → ChangesFit kept (storing stored)
store_fits kept stored fits = stores_or_marks kept stored None fits

pub mark_fits : (kept : Kept) (mark : Option Bool) → ChangesFit kept (marking mark)
mark_fits kept mark = stores_or_marks kept [] mark (record { good = refl; new = refl; once = refl })

pub marked_after : (kept : Kept) (mark : Option Bool) → changed kept (marking mark) ≡ record { graph = kept.graph; order = kept.order; mark = unwrap_or mark kept.mark }
marked_after kept mark = λ i. record { graph = append-nil kept.graph i; order = append-nil kept.order i; mark = unwrap_or mark kept.mark }

pub mark_processes_nothing : (kept : Kept) (mark : Option Bool) → IsKept kept → processed (changed kept (marking mark)) ≡ processed kept
mark_processes_nothing kept mark sound = processed_after kept (marking mark) sound ∙ append-nil (processed kept)

pub stored_after : (kept : Kept) (stored : List Stored) → changed kept (storing stored) ≡ record { graph = kept.graph ++ stored; order = kept.order; mark = kept.mark }
stored_after kept stored = λ i. record { graph = kept.graph ++ stored; order = append-nil kept.order i; mark = kept.mark }

pub store_processes_nothing : (kept : Kept) (stored : List Stored) → IsKept kept → processed (changed kept (storing stored)) ≡ processed kept
store_processes_nothing kept stored sound = processed_after kept (storing stored) sound ∙ append-nil (processed kept)

abbrev cid_in : Block → Cid
cid_in block = block.cid

pub process_fits : (kept : Kept) (blocks : List Block) (changes : Changes) → changes.store ≡ [] → changes.marks ≡ map cid_in blocks → AreNew kept blocks
    → list_all (is_stored kept.graph) (map cid_in blocks) ≡ true → blocks_in kept.graph (map cid_in blocks) ≡ blocks
    → RowsFit (processed kept) blocks changes → FrontFits (processed kept) blocks changes → (changes.two ≡ false) × (changes.upto ≡ None) → ChangesFit kept changes
process_fits kept blocks changes none marks new stored are rows front ordinary = record {
  store = record {
    good = ap (λ store. list_all (λ (s : Stored). is_good s.cid s.bytes) store) none;
    new = ap (λ store. list_any (λ (s : Stored). is_stored kept.graph s.cid) store) none;
    once = ap (λ store. is_once same_cid (cids_of store)) none;
  };
  marks = record {
    stored = ap (λ graph. list_all (is_stored graph) changes.marks) same ∙ ap (λ cids. list_all (is_stored kept.graph) cids) marks ∙ stored;
    new = ap (λ cids. list_any (is_among kept.order) cids) marks ∙ new.1;
    once = ap (λ cids. is_once same_cid cids) marks ∙ new.0;
  };
  rows = subst (λ b. RowsFit (processed kept) b changes) (sym newly) rows;
  ordinary = ordinary;
  front = subst (λ b. FrontFits (processed kept) b changes) (sym newly) front;
}
  where
    same : kept.graph ++ changes.store ≡ kept.graph
    same = ap (λ store. kept.graph ++ store) none ∙ append-nil kept.graph

    newly : newly_processed kept changes ≡ blocks
    newly = ap (λ graph. blocks_in graph changes.marks) same ∙ ap (λ cids. blocks_in kept.graph cids) marks ∙ are

-- a migration changes the layout and the winner rows alone
pub migration_keeps : (layout : Layout) (kept : Kept) (changes : Changes) → MigrateFits layout kept changes → changed kept changes ≡ kept
migration_keeps layout kept changes fits =
    ap (changed kept) fits.only ∙ (λ i. record { graph = append-nil kept.graph i; order = append-nil kept.order i; mark = kept.mark })
