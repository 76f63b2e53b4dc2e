-- Once all winner rows are there they stay so over every commit.
use Rattle.std.proofs.Common.{◌≡◌, ◌∙◌, ap, true, false, inl, inr, Option, Some, None}
use Rattle.std.specs.Prelude.{Bool}
use Rattle.mc_model.specs.declared.layout.Layout.{Layout}
use Rattle.mc_model.specs.declared.layout.Layout.TheVariants.{Two}
use Rattle.mc_keep.specs.declared.changes.Changes.{Changes}
use Rattle.mc_keep.specs.Causes.{CommitFails}
use Rattle.mc_keep.specs.Changes.{laid}

pub laid_two : (old new : Layout) (changes : Changes) → old ≡ Two → new ≡ laid old changes → new ≡ Two
laid_two old new changes two is = is ∙ ap (λ (y : Layout). laid y changes) two

-- also over one that failed
pub laid_two_or_not : (fires : Option Bool) (rose : Type 0) (old new : Layout) (changes : Changes) → old ≡ Two
    → CommitFails fires rose old (laid old changes) new → new ≡ Two
laid_two_or_not None rose old new changes two (_, inl same) = same ∙ two
laid_two_or_not None rose old new changes two (_, inr done) = laid_two old new changes two done
laid_two_or_not (Some false) rose old new changes two same = same ∙ two
laid_two_or_not (Some true) rose old new changes two (inl done) = laid_two old new changes two done
laid_two_or_not (Some true) rose old new changes two (inr (_, same)) = same ∙ two
