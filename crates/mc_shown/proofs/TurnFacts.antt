-- What a seat of a node does that learns first and then takes the turn.
use Rattle.std.proofs.Common.{◌≡◌, List, sym, subst}
use Rattle.mc_turn.specs.declared.view.View.{View}
use Rattle.mc_turn.specs.Lists.{Begins, longer_of}
use Rattle.mc_turn.specs.Views.{learned_view}
use Rattle.mc_turn.proofs.Lists.{begins_trans}
use Rattle.mc_node.specs.Views.{Turned}

module _ {E : Type 0} where
  learned : (before after : View E) (seen : List E) (P : List E → List E → Type 0) → Begins before.seen (longer_of before.seen seen) → Turned (learned_view before seen) after P → Turned before after P
  learned before after seen P begins t = record {
    taken = t.taken;
    known = record {
      seen = begins_trans before.seen (longer_of before.seen seen) t.taken begins t.known.seen;
      idle = t.known.idle;
      known = record { below = t.known.known.below; once = t.known.known.once; grown = t.known.known.grown; early = t.known.known.early; whole = t.known.known.whole };
    };
    extends = t.extends;
    mine = t.mine;
    parts_same = t.parts_same;
    base_same = t.base_same;
    fits = t.fits;
  }

  pub turned_learned : (before mid after end : View E) (seen : List E) (P : List E → List E → Type 0) → mid ≡ learned_view before seen → Begins before.seen mid.seen → end ≡ after → Turned mid after P → Turned before end P
  turned_learned before mid after end seen P is begins same t =
      subst (λ (v : View E). Turned before v P) (sym same) (learned before after seen P (subst (λ (v : View E). Begins before.seen v.seen) is begins) (subst (λ (v : View E). Turned v after P) is t))

  pub turned_begins : (before after : View E) (P : List E → List E → Type 0) → Turned before after P → Begins before.seen after.seen
  turned_begins before after P t = begins_trans before.seen t.taken after.seen t.known.seen t.extends

  -- another word for what was done
  pub turned_more : (before after : View E) (P Q : List E → List E → Type 0) → ((old new : List E) → P old new → Q old new) → Turned before after P → Turned before after Q
  turned_more before after P Q more t = record { taken = t.taken; known = t.known; extends = t.extends; mine = t.mine; parts_same = t.parts_same; base_same = t.base_same; fits = more t.taken after.seen t.fits }
