-- What a replica's commits ask of its keeper, and what a migration refuses.
use Rattle.std.proofs.Common.{◌≡◌, ◌∙◌, sym, ap, inl, Bool, true, false, Option, Some, None}
use Rattle.std.specs.Prelude.{IfSome}
use Rattle.mc_model.specs.Kept.{Kept}
use Rattle.mc_model.specs.declared.layout.Layout.{Layout}
use Rattle.mc_keep.specs.Tables.{ChangesFit, Meets}
use Rattle.mc_keep.specs.declared.changes.Changes.{Changes}
use Rattle.mc_keep.specs.declared.error.KeepError.{KeepError}
use Rattle.mc_keep.specs.declared.error.KeepError.TheVariants.{Failed, Memory}

-- a commit that takes blocks up is one of those that a keeper takes
pub meets : (told : Option Kept) (layout : Layout) (changes : Changes) → IfSome told (λ kept. ChangesFit kept changes) → IfSome told (λ kept. Meets layout kept changes)
meets None layout changes fits = tt
meets (Some kept) layout changes fits = inl fits

abbrev wants_memory : KeepError → Bool
wants_memory Failed = false
wants_memory Memory = true

-- no error is both
pub one_error : {P : Type 0} (error : KeepError) → error ≡ Memory → error ≡ Failed → P
one_error error memory failed = absurd (let no : true ≡ false = sym (ap wants_memory memory) ∙ ap wants_memory failed in cc)
