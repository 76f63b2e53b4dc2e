-- What became of keys, and what a face is brought up with.
use Rattle.std.proofs.Common.{◌≡◌, ℕ, ◌<◌, ◌+◌, length, take, drop, get_or, Bool, true, false, ◌||◌, List, [], ◌∷◌, ◌++◌, map, Option, Some, None, sym, refl, ap, take-append-drop, ◌∙◌, subst}
use Rattle.std.specs.Prelude.{IfSome, is_some}
use Rattle.std.specs.List.{list_any}
use Rattle.std.specs.Str.{bytes_eq}
use Rattle.std.proofs.lemmas.List.{map_more}
use denote.Ref.{Bor}
use Rattle.mc_model.proofs.Members.{list_any-map}
use Rattle.mc_model.specs.declared.block.Block.{Block}
use Rattle.mc_model.specs.Kept.{Kept, processed}
use Rattle.mc_model.specs.Live.{value}
use Rattle.mc_face.specs.declared.change.Change.{Change}
use Rattle.mc_face.specs.Exact.{AreValues, Covers, is_changed, is_named}
use Rattle.mc_face.specs.Lists.{Starts}
use Rattle.mc_news.specs.Keys.{has_key, keys_of, texts_of}

values_push : (blocks : List Block) (changes : List Change) (change : Change) → AreValues blocks changes → change.value ≡ value blocks change.key → AreValues blocks (changes ++ change ∷ [])
values_push blocks [] change all is = (is, tt)
values_push blocks (first ∷ changes) change all is = (all.0, values_push blocks changes change all.1 is)

pub values_none : (told : Option Kept) (changes : List Change) → changes ≡ [] → IfSome told (λ kept. AreValues (processed kept) changes)
values_none None changes none = tt
values_none (Some kept) changes none = subst (AreValues (processed kept)) (sym none) tt

pub values_more : (told told_mid : Option Kept) (changes new : List Change) (change : Change) (key : List ℕ) → told_mid ≡ told → new ≡ changes ++ change ∷ [] → change.key ≡ key → IfSome told (λ kept. AreValues (processed kept) changes)
    → IfSome told_mid (λ kept. change.value ≡ value (processed kept) key) → IfSome told (λ kept. AreValues (processed kept) new)
values_more told told_mid changes new change key same pushed named all is = over told all (subst (λ t. IfSome t (λ kept. change.value ≡ value (processed kept) key)) same is)
  where
    over : (told : Option Kept) → IfSome told (λ kept. AreValues (processed kept) changes) → IfSome told (λ kept. change.value ≡ value (processed kept) key) → IfSome told (λ kept. AreValues (processed kept) new)
    over None all is = tt
    over (Some kept) all is = subst (AreValues (processed kept)) (sym pushed) (values_push (processed kept) changes change all (is ∙ ap (value (processed kept)) (sym named)))

pub keys_more : (changes new : List Change) (change : Change) (keys : List (Bor (List ℕ))) (i : ℕ) (key : Bor (List ℕ)) → i < length keys → change.key ≡ (get_or keys i key).now → new ≡ changes ++ change ∷ [] → keys_of changes ≡ texts_of (take i keys)
    → keys_of new ≡ texts_of (take (i + 1) keys)
keys_more changes new change keys i key within named pushed before =
    ap keys_of pushed
    ∙ append changes
    ∙ ap (λ (z : List (List ℕ)). z ++ change.key ∷ []) before
    ∙ ap (λ k. texts_of (take i keys) ++ k ∷ []) named
    ∙ sym (map_more (λ (text : Bor (List ℕ)). text.now) keys i key within)
  where
    append : (changes : List Change) → keys_of (changes ++ change ∷ []) ≡ keys_of changes ++ change.key ∷ []
    append [] = refl
    append (first ∷ changes) = ap (λ (z : List (List ℕ)). first.key ∷ z) (append changes)

-- each key that the blocks name is changed
pub keys_cover : (blocks : List Block) (keys borrowed : List (Bor (List ℕ))) (changes : List Change) → borrowed ≡ keys → ((key : List ℕ) → has_key (texts_of keys) key ≡ is_named blocks key) → keys_of changes ≡ texts_of borrowed
    → Covers blocks changes
keys_cover blocks keys borrowed changes lent named all key there =
    sym (list_any-map (λ (k : List ℕ). bytes_eq k key) (λ (change : Change). change.key) changes)
    ∙ ap (λ (z : List (List ℕ)). has_key z key) (all ∙ ap texts_of lent)
    ∙ named key
    ∙ there

-- the list with the blocks past it is the whole
rest_of : (list blocks : List Block) (kept : Kept) (from : ℕ) → from ≡ length list → Starts (processed kept) list → blocks ≡ drop from (processed kept) → list ++ blocks ≡ processed kept
rest_of list blocks kept from count starts rest =
    ap (λ (z : List Block). list ++ z) (rest ∙ ap (λ n. drop n (processed kept)) count)
    ∙ ap (λ (z : List Block). z ++ drop (length list) (processed kept)) (sym starts)
    ∙ take-append-drop (length list) (processed kept)

-- each change is right where the face is exact
pub values_right : (exact : Bool) (told told_first told_mid : Option Kept) (list blocks : List Block) (changes : List Change) (from : ℕ) → told_first ≡ told → told_mid ≡ told → from ≡ length list → (exact ≡ true → is_some told ≡ true)
    → IfSome told (λ kept. Starts (processed kept) list) → IfSome told_first (λ kept. blocks ≡ drop from (processed kept)) → IfSome told_mid (λ kept. AreValues (processed kept) changes) → exact ≡ true → AreValues (list ++ blocks) changes
values_right exact told told_first told_mid list blocks changes from early same count tells starts rest right is =
    over told (tells is) starts (subst (λ t. IfSome t (λ kept. blocks ≡ drop from (processed kept))) early rest) (subst (λ t. IfSome t (λ kept. AreValues (processed kept) changes)) same right)
  where
    over : (told : Option Kept) → is_some told ≡ true → IfSome told (λ kept. Starts (processed kept) list) → IfSome told (λ kept. blocks ≡ drop from (processed kept)) → IfSome told (λ kept. AreValues (processed kept) changes) → AreValues (list ++ blocks) changes
    over None some starts rest right = absurd (let no : false ≡ true = some in cc)
    over (Some kept) some starts rest right = subst (λ (z : List Block). AreValues z changes) (sym (rest_of list blocks kept from count starts rest)) right

-- and the face then has the whole list
pub whole_list : (told told_first : Option Kept) (list blocks new : List Block) (from : ℕ) → told_first ≡ told → from ≡ length list → IfSome told (λ kept. Starts (processed kept) list) → IfSome told_first (λ kept. blocks ≡ drop from (processed kept)) → new ≡ list ++ blocks
    → IfSome told (λ kept. new ≡ processed kept)
whole_list told told_first list blocks new from early count starts rest added = over told starts (subst (λ t. IfSome t (λ kept. blocks ≡ drop from (processed kept))) early rest)
  where
    over : (told : Option Kept) → IfSome told (λ kept. Starts (processed kept) list) → IfSome told (λ kept. blocks ≡ drop from (processed kept)) → IfSome told (λ kept. new ≡ processed kept)
    over None starts rest = tt
    over (Some kept) starts rest = added ∙ rest_of list blocks kept from count starts rest

pub covers_slice : (blocks slice : List Block) (changes : List Change) → slice ≡ blocks → Covers slice changes → Covers blocks changes
covers_slice blocks slice changes same covers = subst (λ (bs : List Block). Covers bs changes) same covers
