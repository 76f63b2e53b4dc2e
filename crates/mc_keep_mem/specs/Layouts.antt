-- The layout that a keeper in memory has at first.
use Rattle.std.specs.Prelude.{Bool, true, false, None}
use Rattle.mc_model.specs.declared.layout.Layout.{Layout}
use Rattle.mc_model.specs.declared.layout.Layout.TheVariants.{One, Two}

-- all winner rows, or none of them where it is made as an old one
abbrev pub first_layout : Bool → Layout
first_layout false = Two
first_layout true = One None
