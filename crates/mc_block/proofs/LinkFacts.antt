-- Links one after another.
use Rattle.std.proofs.Common.{◌≡◌, ℕ, ◌+◌, ◌<◌, ◌≤◌, Bor, List, [], ◌∷◌, ◌++◌, length, take, drop, map, get_or, refl, ap, sym, ◌∙◌, arith, Option, Some, None, Ok, Err}
use Rattle.std.proofs.lemmas.List.{take_more, drop_more, take_all, take-append-drop, get_or-map, length-map}
use Rattle.std.specs.Bool.{⊤}
use Rattle.mc_base.specs.declared.cid.Cid.{Cid}
use Rattle.mc_model.specs.Offer.{BadLink, links_from, cid_of_bytes}

-- each link is the identifier at its place
abbrev pub Named : List (List ℕ) → List Cid → Type 0
Named [] [] = ⊤
Named (link ∷ links) (cid ∷ cids) = (cid_of_bytes link ≡ Some cid) × Named links cids
Named [] (cid ∷ cids) = ⊥
Named (link ∷ links) [] = ⊥

pub named_more : (links : List (List ℕ)) (cids : List Cid) (link : List ℕ) (cid : Cid) → Named links cids → cid_of_bytes link ≡ Some cid → Named (links ++ link ∷ []) (cids ++ cid ∷ [])
named_more [] [] link cid named is = (is, tt)
named_more (first ∷ links) (head ∷ cids) link cid named is = (named.0, named_more links cids link cid named.1 is)
named_more [] (head ∷ cids) link cid named is = absurd named
named_more (first ∷ links) [] link cid named is = absurd named

pub links_named : (index : ℕ) (links : List (List ℕ)) (cids : List Cid) → Named links cids → links_from index links ≡ Ok cids
links_named index [] [] named = refl
links_named index (link ∷ links) (cid ∷ cids) named = rw (named.0, links_named (index + 1) links cids named.1)
links_named index [] (cid ∷ cids) named = absurd named
links_named index (link ∷ links) [] named = absurd named

pub link_bad : (at index : ℕ) (links : List (List ℕ)) (cids : List Cid) (link : List ℕ) (rest : List (List ℕ)) → at ≡ index + length cids → Named links cids → cid_of_bytes link ≡ None →
    links_from index (links ++ link ∷ rest) ≡ Err (BadLink at)
link_bad at index [] [] link rest place named bad = let same : index ≡ at = omega (arith, place) in rw (bad, same)
link_bad at index (first ∷ links) (cid ∷ cids) link rest place named bad = rw (named.0, link_bad at (index + 1) links cids link rest (omega (arith, place)) named.1 bad)
link_bad at index [] (cid ∷ cids) link rest place named bad = absurd named
link_bad at index (first ∷ links) [] link rest place named bad = absurd named

-- the item at this index
abbrev pub IsAt : {X : Type 0} → List X → ℕ → X → Type 0
IsAt items index item = (index < length items) × (item ≡ get_or items index item)

named_next : (links : List (List ℕ)) (index : ℕ) (cids : List Cid) (link : List ℕ) (cid : Cid) → Named (take index links) cids → IsAt links index link → cid_of_bytes link ≡ Some cid →
    Named (take (index + 1) links) (cids ++ cid ∷ [])
named_next links index cids link cid named at is =
    let more : take (index + 1) links ≡ take index links ++ link ∷ [] = take_more links index link at.0 ∙ ap (λ (last : List ℕ). take index links ++ last ∷ []) (sym at.1) in
    rw more (named_more (take index links) cids link cid named is)

named_all : (links : List (List ℕ)) (index : ℕ) (cids : List Cid) → Named (take index links) cids → length links ≤ index → links_from 0 links ≡ Ok cids
named_all links index cids named all = links_named 0 links cids (rw (take_all index links all) at named)

link_stops : (links : List (List ℕ)) (index len : ℕ) (cids : List Cid) (link : List ℕ) → Named (take index links) cids → IsAt links index link → cid_of_bytes link ≡ None → len ≡ length cids →
    links_from 0 links ≡ Err (BadLink len)
link_stops links index len cids link named at bad is =
    let tail : drop index links ≡ link ∷ drop (index + 1) links = drop_more links index link at.0 ∙ ap (λ (first : List ℕ). first ∷ drop (index + 1) links) (sym at.1) in
    let whole : take index links ++ link ∷ drop (index + 1) links ≡ links = ap (λ (rest : List (List ℕ)). take index links ++ rest) (sym tail) ∙ take-append-drop index links in
    ap (links_from 0) (sym whole) ∙ link_bad len 0 (take index links) cids link (drop (index + 1) links) (omega (arith, is)) named bad

-- what borrowed links hold
abbrev pub text_of : Bor (List ℕ) → List ℕ
text_of link = link.now

abbrev pub texts : List (Bor (List ℕ)) → List (List ℕ)
texts links = map text_of links

text_at : (links : List (Bor (List ℕ))) (index : ℕ) (default : Bor (List ℕ)) → index < length links → IsAt (texts links) index (get_or links index default).now
text_at links index default within =
    (rw (length-map links text_of) within, sym (get_or-map text_of links index default (get_or links index default).now within))

pub text_next : (links : List (Bor (List ℕ))) (index : ℕ) (cids : List Cid) (default : Bor (List ℕ)) (cid : Cid) (read : Option Cid) → Named (take index (texts links)) cids → index < length links →
    read ≡ cid_of_bytes (get_or links index default).now → read ≡ Some cid → Named (take (index + 1) (texts links)) (cids ++ cid ∷ [])
text_next links index cids default cid read named within told is = named_next (texts links) index cids (get_or links index default).now cid named (text_at links index default within) (sym told ∙ is)

pub texts_all : (links : List (Bor (List ℕ))) (index : ℕ) (cids : List Cid) → Named (take index (texts links)) cids → length links ≤ index → links_from 0 (texts links) ≡ Ok cids
texts_all links index cids named all = named_all (texts links) index cids named (rw (length-map links text_of) all)

pub text_stops : (links : List (Bor (List ℕ))) (index len : ℕ) (cids : List Cid) (default : Bor (List ℕ)) (read : Option Cid) → Named (take index (texts links)) cids → index < length links →
    read ≡ cid_of_bytes (get_or links index default).now → read ≡ None → len ≡ length cids → links_from 0 (texts links) ≡ Err (BadLink len)
text_stops links index len cids default read named within told is place = link_stops (texts links) index len cids (get_or links index default).now named (text_at links index default within) (sym told ∙ is) place
