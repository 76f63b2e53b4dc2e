-- The five lists as rings through their ends.
use Rattle.std.specs.Prelude.{ℕ, ◌≡◌, ◌+◌, ◌-◌, ◌^◌, ◌<◌, List, [], ◌∷◌, ◌++◌, length, Option, Some, None}
use Rattle.mc_list.specs.Rings.{upd, Apart, Agree, Path, walk}
use Rattle.mc_list.specs.declared.node.Link.{Link}
use denote.RawPtr.{Ptr}
use Rattle.mc_list.specs.Web.{Shape, Reaches, ends, loose, spare_list, link_to, place_of}

abbrev pub or_zero : Option ℕ → ℕ
or_zero None = 0
or_zero (Some n) = n

module _ {T : Type 0} where
  abbrev pub linked_to : Shape T → ℕ → Option (Link T)
  linked_to s i = Some (link_to s.at i)

  -- these numbers are the ring of the list l
  pub record RingOk (s : Shape T) (l : ℕ) (ps : List ℕ) : Type 0 where
    pub path : Path (linked_to s) s.next s.prev (ends + l) ps (ends + l)
    pub apart : Apart ((ends + l) ∷ ps)
    pub class : Agree s.list (λ i. Some l) ((ends + l) ∷ ps)
    pub count : s.counts l ≡ Some (length ps)

  -- the numbers of a list
  abbrev pub ring : Shape T → ℕ → List ℕ
  ring s l = walk (λ i. place_of (s.next i)) (or_zero (s.counts l)) (ends + l)

  abbrev pub Ringed : Shape T → Type 0
  Ringed s = (l : ℕ) → l < 5 → RingOk s l (ring s l)

  -- the number leaves its list
  abbrev pub unlinked : Shape T → ℕ → ℕ → Shape T
  unlinked s x k = record s {
    next = upd s.next (place_of (s.prev x)) (s.next x);
    prev = upd s.prev (place_of (s.next x)) (s.prev x);
    list = upd s.list x (Some loose);
    counts = upd s.counts k (Some (or_zero (s.counts k) - 1));
  }

  -- the number comes to the end of a list
  abbrev pub appended : Shape T → ℕ → ℕ → Shape T
  appended s x k = record s {
    next = upd (upd s.next (place_of (s.prev (ends + k))) (linked_to s x)) x (linked_to s (ends + k));
    prev = upd (upd s.prev x (s.prev (ends + k))) (ends + k) (linked_to s x);
    list = upd s.list x (Some k);
    counts = upd s.counts k (Some (or_zero (s.counts k) + 1));
  }

  -- the number leaves the list k and comes to the end of another, or of the same
  abbrev pub moved : Shape T → ℕ → ℕ → ℕ → Shape T
  moved s x k to = appended (unlinked s x k) x to

  -- a node more, which lies at p and is in no list
  abbrev pub grown : Shape T → Ptr → Shape T
  grown s p = let n = length s.table in record s {
    pointers = s.pointers ++ p ∷ [];
    at = upd s.at n p;
    table = s.table ++ record { at = p; place = n } ∷ [];
    next = upd s.next n (linked_to s (ends + spare_list));
    prev = upd s.prev n (linked_to s (ends + spare_list));
    list = upd s.list n (Some loose);
    item = upd s.item n None;
  }

  -- the link's node is in a list that has one, and its neighbours are reached
  pub record CanUnlink (s : Shape T) (link : Link T) : Type 0 where
    pub reaches : Reaches s link
    pub node : link.place < ends
    pub before : (b : Link T) → s.prev link.place ≡ Some b → Reaches s b
    pub after : (b : Link T) → s.next link.place ≡ Some b → Reaches s b
    pub count : (k : ℕ) → s.list link.place ≡ Some k → (n : ℕ) × (s.counts k ≡ Some n) × (0 < n)

  -- the link's node may come to the end of the list, whose last one is reached
  pub record CanAppend (s : Shape T) (link : Link T) (k : ℕ) : Type 0 where
    pub reaches : Reaches s link
    pub node : link.place < ends
    pub few : k < 5
    pub last : (b : Link T) → s.prev (ends + k) ≡ Some b → Reaches s b
    pub count : (n : ℕ) × (s.counts k ≡ Some n) × (n < 2 ^ 63)

  -- the link's node is in the list k, and may come to the end of another
  pub record CanMove (s : Shape T) (link : Link T) (k to : ℕ) : Type 0 where
    pub within : s.list link.place ≡ Some k
    pub leaves : CanUnlink s link
    pub comes : CanAppend (unlinked s link.place k) link to
