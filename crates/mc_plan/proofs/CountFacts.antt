-- The numbers that a replica keeps, after a commit.
use Rattle.std.proofs.Common.{◌≡◌, ◌<◌, ◌≤◌, ℕ, ◌+◌, ◌-◌, ◌^◌, Bool, true, false, ◌&&◌, min, List, ◌++◌, length, Option, Some, None, refl, sym, ◌∙◌, ap, subst, arith}
use Rattle.std.specs.Prelude.{IfSome, unwrap_or, nat_eq}
use Rattle.std.proofs.lemmas.Bool.{and_parts, eqb-true, eq-eqb}
use Rattle.std.proofs.lemmas.List.{length-append}
use Rattle.mc_base.specs.Told.{Told}
use Rattle.mc_model.specs.Front.{gaps}
use Rattle.mc_model.specs.Kept.{Kept, processed, processed as blocks_now}
use Rattle.mc_keep.specs.declared.changes.Changes.{Changes}
use Rattle.mc_keep.specs.declared.rows.Summary.{Summary}
use Rattle.mc_keep.specs.Changes.{changed}
use Rattle.mc_keep.specs.Tables.{IsSmall, IsSummary}
use Rattle.mc_plan.specs.declared.counting.Numbers.{Numbers}
use Rattle.mc_plan.specs.Counted.{capped, is_mark, is_count, is_counted}
use Rattle.mc_plan.specs.Counted.{IsAfter}

-- what the test says
pub record Counts (kept : Kept) (numbers : Numbers) : Type 0 where
  pub processed : numbers.processed ≡ capped (length kept.order)
  pub stored : numbers.stored ≡ capped (length kept.graph)
  pub gaps_are : numbers.gaps ≡ length (gaps (blocks_now kept))
  pub mark : is_mark numbers.mark kept.mark ≡ true

pub count_says : (kept : Kept) (numbers : Numbers) → is_count kept numbers ≡ true → Counts kept numbers
count_says kept numbers e =
    let first = and_parts _ _ e in
    let second = and_parts _ _ first.1 in
    let third = and_parts _ _ second.1 in
    record { processed = eqb-true _ _ first.0; stored = eqb-true _ _ second.0; gaps_are = eqb-true _ _ third.0; mark = third.1 }

all_three : (a b c d : Bool) → a ≡ true → b ≡ true → c ≡ true → d ≡ true → (a && (b && (c && d))) ≡ true
all_three a b c d e f g h = ap (λ t. t && (b && (c && d))) e ∙ ap (λ t. t && (c && d)) f ∙ ap (λ t. t && d) g ∙ h

pub says_count : (kept : Kept) (numbers : Numbers) → Counts kept numbers → is_count kept numbers ≡ true
says_count kept numbers c = all_three _ _ _ _ (eq-eqb _ _ c.processed) (eq-eqb _ _ c.stored) (eq-eqb _ _ c.gaps_are) c.mark

mark_itself : (mark : Bool) → is_mark mark mark ≡ true
mark_itself true = refl
mark_itself false = refl

mark_after : (mark : Option Bool) (old kept : Bool) → is_mark old kept ≡ true → is_mark (unwrap_or mark old) (unwrap_or mark kept) ≡ true
mark_after None old kept e = e
mark_after (Some mark) old kept e = mark_itself mark

capped_more : (n m k : ℕ) → n ≡ capped m → capped (n + k) ≡ capped (m + k)
capped_more n m k e = omega (arith, e)

-- after these changes, which leave so many gaps
pub counts_after : (kept : Kept) (changes : Changes) (left : ℕ) (numbers new : Numbers) → Counts kept numbers → IsAfter numbers changes left new → left ≡ length (gaps (processed (changed kept changes))) → Counts (changed kept changes) new
counts_after kept changes left numbers new c after e = record {
  processed = after.processed ∙ capped_more numbers.processed (length kept.order) (length changes.marks) c.processed ∙ ap capped (sym (length-append kept.order changes.marks));
  stored = after.stored ∙ capped_more numbers.stored (length kept.graph) (length changes.store) c.stored ∙ ap capped (sym (length-append kept.graph changes.store));
  gaps_are = after.gaps_left ∙ e;
  mark = ap (λ m. is_mark m (unwrap_or changes.mark kept.mark)) after.mark ∙ mark_after changes.mark numbers.mark kept.mark c.mark;
}

-- the same of what is told
pub counted_after : (told told_new : Option Kept) (stop : Bool) (changes : Changes) (left : ℕ) (numbers new : Numbers) → stop ≡ false → is_counted stop told numbers ≡ true → (told ≡ None → told_new ≡ None)
    → Told told told_new (λ kept now. now ≡ changed kept changes) → IsAfter numbers changes left new → IfSome told (λ kept. is_count kept numbers ≡ true → left ≡ length (gaps (processed (changed kept changes)))) → is_counted stop told_new new ≡ true
counted_after told told_new stop changes left numbers new up counted silent becomes after e =
    subst (λ b. is_counted b told_new new ≡ true) (sym up) (over told told_new (subst (λ b. is_counted b told numbers ≡ true) up counted) silent becomes e)
  where
    over : (told told_new : Option Kept) → is_counted false told numbers ≡ true → (told ≡ None → told_new ≡ None) → Told told told_new (λ kept now. now ≡ changed kept changes)
        → IfSome told (λ kept. is_count kept numbers ≡ true → left ≡ length (gaps (processed (changed kept changes)))) → is_counted false told_new new ≡ true
    over None told_new counted silent becomes e = ap (λ t. is_counted false t new) (silent refl)
    over (Some kept) None counted silent becomes e = refl
    over (Some kept) (Some now) counted silent becomes e =
        subst (λ k. is_count k new ≡ true) (sym becomes) (says_count (changed kept changes) new (counts_after kept changes left numbers new (count_says kept numbers counted) after (e counted)))

-- blocks that are stored leave the gaps
pub gaps_stay : (told : Option Kept) (changes : Changes) (numbers : Numbers) → ((kept : Kept) → told ≡ Some kept → processed (changed kept changes) ≡ processed kept)
    → IfSome told (λ kept. is_count kept numbers ≡ true → numbers.gaps ≡ length (gaps (processed (changed kept changes))))
gaps_stay None changes numbers same = tt
gaps_stay (Some kept) changes numbers same = λ e. (count_says kept numbers e).gaps_are ∙ ap (λ b. length (gaps b)) (sym (same kept refl))

-- a block that is processed leaves as many as were planned
pub gaps_planned : {P : Kept → Type 0} (told : Option Kept) (changes : Changes) (numbers : Numbers) (left : ℕ) → IfSome told P → ((kept : Kept) → P kept → left ≡ length (gaps (processed (changed kept changes))))
    → IfSome told (λ kept. is_count kept numbers ≡ true → left ≡ length (gaps (processed (changed kept changes))))
gaps_planned None changes numbers left p f = tt
gaps_planned (Some kept) changes numbers left p f = λ e. f kept p

-- those of a replica that is opened
pub counted_open : (told told_new : Option Kept) (summary : Summary) (numbers : Numbers) → told_new ≡ told → IfSome told (λ kept. IsSummary kept summary) → IsSmall summary
    → (numbers.processed ≡ summary.processed) × (numbers.stored ≡ summary.stored) × (numbers.gaps ≡ summary.gaps) × (numbers.mark ≡ summary.mark) → is_counted false told_new numbers ≡ true
counted_open told told_new summary numbers same is small are = subst (λ t. is_counted false t numbers ≡ true) (sym same) (over told is)
  where
    over : (told : Option Kept) → IfSome told (λ kept. IsSummary kept summary) → is_counted false told numbers ≡ true
    over None is = refl
    over (Some kept) is = says_count kept numbers (record {
      processed = omega (arith, are.0, is.0, small.0);
      stored = omega (arith, are.1, is.1, small.1);
      gaps_are = are.2 ∙ is.2;
      mark = ap (λ m. is_mark m kept.mark) (are.3 ∙ is.3) ∙ mark_itself kept.mark;
    })
