-- A commit of blocks, and one of a migration.
use Rattle.std.proofs.Common.{◌≡◌, ℕ, Bool, true, false, not, cond, List, ◌++◌, Some, None, refl, sym, ap, ◌∙◌, subst}
use Rattle.std.specs.List.{list_all, list_any}
use Rattle.std.specs.declared.hash.BuildHasher as build
use Rattle.std.specs.declared.hash.Hasher as hash
use Rattle.std.proofs.lemmas.List.{append-nil}
use Rattle.std.proofs.lemmas.Bool.{and_from}
use Rattle.std.proofs.Math.Bool.{or-false}
use Rattle.mc_base.specs.declared.cid.Cid.{Cid}
use Rattle.mc_model.specs.declared.block.Block.{Block}
use Rattle.mc_model.specs.declared.layout.Layout.{Layout}
use Rattle.mc_model.specs.declared.layout.Layout.TheVariants.{One, Two}
use Rattle.mc_model.specs.declared.block.Stored.{Stored}
use Rattle.mc_model.specs.Ascending.{is_once}
use Rattle.mc_model.specs.Front.{is_among, is_linked, head_at, same_cid}
use Rattle.mc_model.specs.Kept.{Kept, IsKept, cids_of, is_stored, processed}
use Rattle.mc_model.specs.Layouts.{covers, winner_in}
use Rattle.mc_model.specs.Live.{has_tomb, value_row}
use Rattle.mc_model.specs.Who.{who}
use Rattle.mc_keep.specs.declared.changes.Changes.{Changes}
use Rattle.mc_keep.specs.Changes.{changed, laid, laid_to, newly_processed, no_changes, winners_after}
use Rattle.mc_keep.specs.Tables.{ChangesFit, MigrateFits}
use Rattle.mc_tables.specs.declared.tables.Tables.{Tables}
use Rattle.mc_tables.specs.Fits.{kept_in, Applied, ChangesMeet, Fits, HasWinners, TableFits}
use Rattle.mc_graph.specs.Front.{are_fresh}
use Rattle.mc_keep.specs.declared.rows.ElementRow.{ElementRow}
use Rattle.mc_tables.specs.Winners.{has_value_of}
use Rattle.mc_tables.proofs.BroughtFacts.{are_brought, are_met, rows_stored}
use Rattle.mc_tables.proofs.FitAfter.{fits_after, winners_after_commit}
use Rattle.mc_tables.proofs.WinnerFacts.{no_value_change}

-- what the tables but those of winners need

pub of_blocks : (kept : Kept) (changes : Changes) → ChangesFit kept changes → TableFits kept changes
of_blocks kept changes fit = record {
  rows = record { elements = fit.rows.elements; tombs = fit.rows.tombs; values = fit.rows.values; values_once = fit.rows.values_once };
  front = fit.front;
}

abbrev laying : Changes → Changes
laying changes = record no_changes { winners = changes.winners; upto = changes.upto; two = changes.two }

plain : (kept : Kept) (changes : Changes) → TableFits kept (laying changes)
plain kept changes = record {
  rows = record {
    elements = record { same = λ test. refl };
    tombs = λ key id. ap (λ b. has_tomb b key id) (append-nil (processed kept)) ∙ sym (or-false (has_tomb (processed kept) key id));
    values = λ key. ap (λ b. value_row b key) (append-nil (processed kept));
    values_once = refl;
  };
  front = record {
    links = λ cid. ap (λ b. is_linked b cid) (append-nil (processed kept)) ∙ sym (or-false (is_linked (processed kept) cid));
    links_new = refl;
    links_once = refl;
    heads = λ cid. ap (λ b. head_at b cid) (append-nil (processed kept));
    heads_once = refl;
  };
}

pub of_migration : (layout : Layout) (kept : Kept) (changes : Changes) → MigrateFits layout kept changes → TableFits kept changes
of_migration layout kept changes fit = subst (TableFits kept) (sym fit.only) (plain kept changes)

nothing_more : (layout : Layout) (kept : Kept) (changes : Changes) → MigrateFits layout kept changes → processed kept ++ newly_processed kept changes ≡ processed kept
nothing_more layout kept changes fit = ap (λ (c : Changes). processed kept ++ newly_processed kept c) fit.only ∙ append-nil (processed kept)

-- a winner row that is there is that of the block that gives the value
row_is_who : (layout : Layout) (blocks : List Block) (key : List ℕ) (cid : Cid) → winner_in layout blocks key ≡ Some cid → who blocks key ≡ Some cid
row_is_who layout blocks key cid e = by (covers layout key) refl
  where
    by : (b : Bool) → covers layout key ≡ b → who blocks key ≡ Some cid
    by true c = sym (ap (λ b. cond b (who blocks key) None) c) ∙ e
    by false c = absurd (let f : None ≡ Some cid = sym (ap (λ b. cond b (who blocks key) None) c) ∙ e in cc)

laid_same : (layout : Layout) → laid_to false None layout ≡ layout
laid_same (One upto) = refl
laid_same Two = refl

module _ {S X : Type 0} {g : build.Ghosts S X} {h : hash.Ghosts X} (old : Tables S X g h) (changes : Changes) (fits : Fits old) where
  abbrev kept : Kept
  kept = kept_in old

  pub meet_blocks : ChangesFit kept changes → ChangesMeet old changes
  meet_blocks fit = record {
    new = fit.store.new;
    once = fit.store.once;
    stored = fit.marks.stored;
    fresh = and_from (not (list_any (is_among kept.order) changes.marks)) (is_once same_cid changes.marks) (ap not fit.marks.new) fit.marks.once;
    covered = fits.covered;
    elements = rows_stored kept changes fit;
    brought = are_brought old changes fits (of_blocks kept changes fit);
    met = are_met old changes fits (of_blocks kept changes fit) (who (processed kept)) fit.rows.winners_once (λ key cid won. fit.rows.winners key ∙ won);
    there = fits.there;
  }

  pub meet_migration : MigrateFits old.layout kept changes → ChangesMeet old changes
  meet_migration fit = record {
    new = ap (λ (c : Changes). list_any (λ (stored : Stored). is_stored kept.graph stored.cid) c.store) fit.only;
    once = ap (λ (c : Changes). is_once same_cid (cids_of c.store)) fit.only;
    stored = ap (λ (c : Changes). list_all (is_stored (kept.graph ++ c.store)) c.marks) fit.only;
    fresh = ap (λ (c : Changes). are_fresh kept.order c.marks) fit.only;
    covered = fits.covered;
    elements = ap (λ (c : Changes). list_all (λ (row : ElementRow). is_stored (kept.graph ++ c.store) row.cid) c.elements) fit.only;
    brought = are_brought old changes fits (of_migration old.layout kept changes fit);
    met = are_met old changes fits (of_migration old.layout kept changes fit) (winner_in old.layout (processed kept)) fit.winners_once
        (λ key cid won. ap (λ z. who z key) (nothing_more old.layout kept changes fit) ∙ row_is_who (laid old.layout changes) (processed kept) key cid (fit.winners key ∙ won));
    there = fits.there;
  }

  module _ (new : Tables S X g h) (applied : Applied old new changes) where
    pub after_blocks : (fit : ChangesFit kept changes) → IsKept (changed kept changes) → processed (changed kept changes) ≡ processed kept ++ newly_processed kept changes → HasWinners old → Fits new × HasWinners new
    after_blocks fit sound same held = (
      fits_after old new changes fits applied (of_blocks kept changes fit) sound same,
      winners_after_commit old new changes fits applied (of_blocks kept changes fit) sound same held won (λ key none. no_value_change changes.values changes.winners key fit.rows.winners_with none),
    )
      where
        same_layout : new.layout ≡ old.layout
        same_layout = applied.layout ∙ ap (λ two. laid_to two changes.upto old.layout) fit.ordinary.0 ∙ ap (λ upto. laid_to false upto old.layout) fit.ordinary.1 ∙ laid_same old.layout

        won : (key : List ℕ) → covers new.layout key ≡ true → winner_in new.layout (processed kept ++ newly_processed kept changes) key ≡ winners_after key (winner_in old.layout (processed kept) key) changes.winners
        won key there =
            ap (λ b. cond b (who (processed kept ++ newly_processed kept changes) key) None) there
            ∙ fit.rows.winners key
            ∙ ap (λ b. winners_after key (cond b (who (processed kept) key) None) changes.winners) (sym (ap (λ (y : Layout). covers y key) (sym same_layout) ∙ there))

    pub after_migration : (fit : MigrateFits old.layout kept changes) → changed kept changes ≡ kept → HasWinners old → Fits new × HasWinners new
    after_migration fit same held = (
      fits_after old new changes fits applied (of_migration old.layout kept changes fit) sound still,
      winners_after_commit old new changes fits applied (of_migration old.layout kept changes fit) sound still held won (λ key none. ap (λ (c : Changes). has_value_of c.values key) fit.only),
    )
      where
        sound : IsKept (changed kept changes)
        sound = subst IsKept (sym same) fits.kept

        still : processed (changed kept changes) ≡ processed kept ++ newly_processed kept changes
        still = ap processed same ∙ sym (nothing_more old.layout kept changes fit)

        won : (key : List ℕ) → covers new.layout key ≡ true → winner_in new.layout (processed kept ++ newly_processed kept changes) key ≡ winners_after key (winner_in old.layout (processed kept) key) changes.winners
        won key there =
            ap (λ z. winner_in new.layout z key) (nothing_more old.layout kept changes fit)
            ∙ ap (λ (y : Layout). winner_in y (processed kept) key) applied.layout
            ∙ fit.winners key
