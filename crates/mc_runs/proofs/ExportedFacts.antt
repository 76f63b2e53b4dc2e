-- What is kept as a file, and what a replica that held and wanted nothing has of that file once it is taken in.
use Rattle.std.proofs.Common.{◌≡◌, ℕ, Bool, true, false, true≢false, cond, ◌&&◌, ◌||◌, List, [], ◌∷◌, ◌++◌, fold, length, map, Option, Some, None, Ok, refl, sym, ◌∙◌, ap, subst}
use Rattle.std.specs.Prelude.{◌==◌, find, is_some}
use Rattle.std.specs.List.{list_all}
use Rattle.std.specs.Option.{option_map}
use Rattle.std.specs.Str.{bytes_eq}
use Rattle.std.proofs.lemmas.Bool.{and_parts, or_right}
use Rattle.std.proofs.lemmas.Slice.Eq.{bytes_eq-Decides}
use Rattle.mc_base.specs.Cid.{digest_of}
use Rattle.mc_base.specs.declared.cid.Cid.{Cid}
use Rattle.mc_base.proofs.Digest.{digest_length}
use Rattle.mc_car.specs.Car.{IsCar, has_digest, is_named}
use Rattle.mc_car.specs.CarRead.{car_of}
use Rattle.mc_car.specs.declared.car.Car.{Car}
use Rattle.mc_core.specs.Events.{ReplicaState, all_happen}
use Rattle.mc_drain.specs.Finds.{first_bytes}
use Rattle.mc_files.specs.Files.{IsExport, section_of, sections_in, sections_of, stored_of}
use Rattle.mc_group.specs.Storing.{unstored, with_new}
use Rattle.mc_inbox.specs.Groups.{store_events}
use Rattle.mc_keep.specs.declared.fuse.Fuse.{Fuse}
use Rattle.mc_model.specs.declared.block.Stored.{Stored}
use Rattle.mc_model.specs.Draining.{bytes_in}
use Rattle.mc_model.specs.Events.{Hear}
use Rattle.mc_model.specs.Found.{Good, found_as, found_in, is_found, offers_from}
use Rattle.mc_model.specs.Front.{is_processed, same_cid}
use Rattle.mc_model.specs.Graph.{Vertex, has, links_in}
use Rattle.mc_model.specs.Kept.{IsKept, Kept, bytes_at, cids_of, is_stored, nothing_kept, processed}
use Rattle.mc_model.specs.Made.{head_cids}
use Rattle.mc_model.specs.State.{Running, State, durable_of, vertex_of, vertices}
use Rattle.mc_model.specs.Wanted.{Queue, bad_cids, hear_all, wanted}
use Rattle.mc_model.proofs.Blocks.{is_processed_has}
use Rattle.mc_model.proofs.Bridge.{own_found}
use Rattle.mc_model.proofs.Counts.{all_has, cid_is, cid_itself, has-append, has_all}
use Rattle.mc_model.proofs.Heads.{heads_cid}

-- what is kept as a file

-- the bytes of a processed block, which are found good, with the links that it has
pub record HasGood (kept : Kept) (c : Cid) : Type 0 where
  pub bytes : List ℕ
  pub stored : bytes_at kept.graph c ≡ Some bytes
  pub named : bytes_eq (digest_of bytes) c.0 ≡ true
  pub found : found_as c (Some bytes) ≡ Good (links_in (vertices kept.graph) c)

abbrev pub CarsLaw : Type 0
CarsLaw = (text : List ℕ) (car : Car) → IsCar text car → car_of text ≡ Ok car

module _ (kept : Kept) (sound : IsKept kept) where
  pub has_good : (c : Cid) → has c kept.order ≡ true → HasGood kept c
  has_good c is =
      let some = all_has (is_stored kept.graph) kept.order sound.stored c is in
      over (bytes_at kept.graph c) refl some (own_found kept sound c [] some)
    where
      over : (bytes : Option (List ℕ)) → bytes_at kept.graph c ≡ bytes → is_some bytes ≡ true → found_in (offers_from bytes []) c ≡ Good (links_in (vertices kept.graph) c) → HasGood kept c
      over None stored some found = absurd (true≢false (sym some))
      over (Some bytes) stored some found = by (bytes_eq (digest_of bytes) c.0) refl found
        where
          by : (b : Bool) → bytes_eq (digest_of bytes) c.0 ≡ b → found_as c (cond b (Some bytes) None) ≡ Good (links_in (vertices kept.graph) c) → HasGood kept c
          by true named found = record { bytes = bytes; stored = stored; named = named; found = found }
          by false named found = absurd (true≢false (sym (ap is_found found)))

  head_has_digest : (c : Cid) → has c (head_cids (processed kept)) ≡ true → has_digest c ≡ true
  head_has_digest c is =
      let parts = and_parts (is_processed (processed kept) c) _ (sym (heads_cid (processed kept) c) ∙ is) in
      let good = has_good c (sym (is_processed_has kept.graph kept.order c) ∙ parts.0) in
      ap (λ (n : ℕ). n == 32) (subst (λ (z : List ℕ). length z ≡ 32) ((bytes_eq-Decides (digest_of good.bytes) c.0).0 good.named) (digest_length good.bytes))

  sections_named : (cids : List Cid) → ((c : Cid) → has c cids ≡ true → has c kept.order ≡ true) → list_all is_named (sections_in kept.graph cids) ≡ true
  sections_named [] within = refl
  sections_named (x ∷ cids) within =
      let good = has_good x (within x (ap (λ b. b || has x cids) (cid_itself x))) in
      ap (λ (o : Option (List ℕ)). list_all is_named (section_of x o ++ sections_in kept.graph cids)) good.stored
      ∙ ap (λ b. b && list_all is_named (sections_in kept.graph cids)) good.named ∙ sections_named cids (λ c is. within c (or_right (same_cid c x) (has c cids) is))

  pub file_is : CarsLaw → (text : List ℕ) → IsExport kept (Ok text) → car_of text ≡ Ok (record { roots = head_cids (processed kept); sections = sections_of kept })
  file_is read text spelled =
      read text (record { roots = head_cids (processed kept); sections = sections_of kept })
      (record { spelled = spelled; digests = has_all has_digest (head_cids (processed kept)) head_has_digest; named = sections_named kept.order (λ c is. is) })

  -- the file has the bytes of each processed block, and no other
  file_bytes : (cids : List Cid) → ((c : Cid) → has c cids ≡ true → has c kept.order ≡ true) → (c : Cid) → bytes_at (map stored_of (sections_in kept.graph cids)) c ≡ cond (has c cids) (bytes_at kept.graph c) None
  file_bytes [] within c = refl
  file_bytes (x ∷ cids) within c =
      let good = has_good x (within x (ap (λ b. b || has x cids) (cid_itself x))) in
      ap (λ (o : Option (List ℕ)). bytes_at (map stored_of (section_of x o ++ sections_in kept.graph cids)) c) good.stored
      ∙ by good.bytes good.stored (file_bytes cids (λ c is. within c (or_right (same_cid c x) (has c cids) is)) c) (same_cid c x) refl
    where
      rest : List Stored
      rest = map stored_of (sections_in kept.graph cids)

      by : (bytes : List ℕ) → bytes_at kept.graph x ≡ Some bytes → bytes_at rest c ≡ cond (has c cids) (bytes_at kept.graph c) None → (b : Bool) → same_cid c x ≡ b
          → option_map (λ (stored : Stored). stored.bytes) (cond b (Some (record { cid = x; bytes = bytes })) (find (λ (stored : Stored). same_cid c stored.cid) rest)) ≡ cond (b || has c cids) (bytes_at kept.graph c) None
      by bytes stored again true same = sym (ap (bytes_at kept.graph) (cid_is c x same) ∙ stored)
      by bytes stored again false same = again

-- blocks that are stored where none was

first_none : (o : Option (List ℕ)) → o ≡ first_bytes o None
first_none None = refl
first_none (Some bytes) = refl

first_first : (a b c : Option (List ℕ)) → first_bytes (first_bytes a b) c ≡ first_bytes a (first_bytes b c)
first_first None b c = refl
first_first (Some bytes) b c = refl

first_some : (a b c : Option (List ℕ)) → is_some a ≡ true → first_bytes a b ≡ first_bytes a c
first_some None b c some = absurd (true≢false (sym some))
first_some (Some bytes) b c some = refl

bytes_append : (new more : List Stored) (c : Cid) → bytes_at (new ++ more) c ≡ first_bytes (bytes_at new c) (bytes_at more c)
bytes_append [] more c = refl
bytes_append (s ∷ new) more c = by (bytes_append new more c) (same_cid c s.cid)
  where
    by : bytes_at (new ++ more) c ≡ first_bytes (bytes_at new c) (bytes_at more c) → (b : Bool)
        → option_map (λ (stored : Stored). stored.bytes) (cond b (Some s) (find (λ (stored : Stored). same_cid c stored.cid) (new ++ more)))
        ≡ first_bytes (option_map (λ (stored : Stored). stored.bytes) (cond b (Some s) (find (λ (stored : Stored). same_cid c stored.cid) new))) (bytes_at more c)
    by again true = refl
    by again false = again

has_stored : (new : List Stored) (c : Cid) → has c (cids_of new) ≡ is_some (bytes_at new c)
has_stored [] c = refl
has_stored (s ∷ new) c = by (has_stored new c) (same_cid c s.cid)
  where
    by : has c (cids_of new) ≡ is_some (bytes_at new c) → (b : Bool) → (b || has c (cids_of new)) ≡ is_some (option_map (λ (stored : Stored). stored.bytes) (cond b (Some s) (find (λ (stored : Stored). same_cid c stored.cid) new)))
    by again true = refl
    by again false = again

-- one more changes nothing where one with its identifier is among them
with_one : (new : List Stored) (item : Stored) (c : Cid) → bytes_at (with_new [] new item) c ≡ first_bytes (bytes_at new c) (bytes_at (item ∷ []) c)
with_one new item c = by (has item.cid (cids_of new)) refl
  where
    known : (b : Bool) → has item.cid (cids_of new) ≡ true → same_cid c item.cid ≡ b → bytes_at new c ≡ first_bytes (bytes_at new c) (option_map (λ (stored : Stored). stored.bytes) (cond b (Some item) None))
    known true is same = first_none (bytes_at new c) ∙ first_some (bytes_at new c) None (Some item.bytes) (sym (has_stored new c) ∙ ap (λ (z : Cid). has z (cids_of new)) (cid_is c item.cid same) ∙ is)
    known false is same = first_none (bytes_at new c)

    by : (b : Bool) → has item.cid (cids_of new) ≡ b → bytes_at (cond (b || false) new (new ++ item ∷ [])) c ≡ first_bytes (bytes_at new c) (bytes_at (item ∷ []) c)
    by true is = known (same_cid c item.cid) is refl
    by false none = bytes_append new (item ∷ []) c

unstored_from : (new items : List Stored) (c : Cid) → bytes_at (fold (with_new []) new items) c ≡ first_bytes (bytes_at new c) (bytes_at items c)
unstored_from new [] c = first_none (bytes_at new c)
unstored_from new (item ∷ items) c =
    unstored_from (with_new [] new item) items c ∙ ap (λ (o : Option (List ℕ)). first_bytes o (bytes_at items c)) (with_one new item c)
    ∙ first_first (bytes_at new c) (bytes_at (item ∷ []) c) (bytes_at items c) ∙ ap (first_bytes (bytes_at new c)) (sym (bytes_append (item ∷ []) items c))

bytes_of_vertices : (items : List Stored) (c : Cid) → bytes_in (vertices items) c ≡ bytes_at items c
bytes_of_vertices [] c = refl
bytes_of_vertices (s ∷ items) c = by (bytes_of_vertices items c) (same_cid c s.cid)
  where
    by : bytes_in (vertices items) c ≡ bytes_at items c → (b : Bool) → option_map (λ (vertex : Vertex). vertex.bytes) (cond b (Some (vertex_of s)) (find (λ (vertex : Vertex). same_cid c vertex.cid) (vertices items)))
        ≡ option_map (λ (stored : Stored). stored.bytes) (cond b (Some s) (find (λ (stored : Stored). same_cid c stored.cid) items))
    by again true = refl
    by again false = again

-- what is stored of the file of what is kept
pub stored_bytes : (kept : Kept) → IsKept kept → (c : Cid) → bytes_in (vertices (unstored [] (map stored_of (sections_of kept)))) c ≡ cond (has c kept.order) (bytes_at kept.graph c) None
stored_bytes kept sound c =
    bytes_of_vertices (unstored [] (map stored_of (sections_of kept))) c ∙ unstored_from [] (map stored_of (sections_of kept)) c ∙ file_bytes kept sound kept.order (λ c is. is) c

-- the state of a replica that held nothing

abbrev pub bare_state : Option Running → Option Fuse → ReplicaState
bare_state run fuse = record { state = record { durable = durable_of nothing_kept; run = run }; fuse = fuse }

abbrev pub taken_state : Running → List Stored → List Cid → State
taken_state run items roots = record {
  durable = record { graph = vertices (unstored [] items); order = []; mark = false };
  run = Some (record run { queue = hear_all [] run.queue roots });
}

pub takes : (run : Running) (fuse : Option Fuse) (items : List Stored) (roots : List Cid) → (all_happen (bare_state (Some run) fuse) (store_events (unstored [] items) ++ Hear roots ∷ [])).state ≡ taken_state run items roots
takes run fuse items roots = over (unstored [] items)
  where
    over : (new : List Stored) → (all_happen (bare_state (Some run) fuse) (store_events new ++ Hear roots ∷ [])).state ≡ record {
      durable = record { graph = vertices new; order = []; mark = false };
      run = Some (record run { queue = hear_all [] run.queue roots });
    }
    over [] = refl
    over (item ∷ new) = refl

-- what is heard where nothing was wanted

waits : List Cid → Queue
waits waiting = record { waiting = waiting; flight = []; missing = []; bad = [] }

one_more : (a b c : Bool) → ((a || (b || false)) || c) ≡ (a || (b || c))
one_more true b c = refl
one_more false true c = refl
one_more false false c = refl

or_none : (a : Bool) → (a || false) ≡ a
or_none true = refl
or_none false = refl

hears : (waiting cids : List Cid) (c : Cid) → has c (wanted (hear_all [] (waits waiting) cids)) ≡ (has c waiting || has c cids)
unfolding waits
hears waiting [] c = has-append c waiting []
hears waiting (x ∷ cids) c = by (hears waiting cids c) (hears (waiting ++ x ∷ []) cids c) (has x (waiting ++ [])) refl
  where
    known : (b : Bool) → same_cid c x ≡ b → has x (waiting ++ []) ≡ true → (has c waiting || has c cids) ≡ (has c waiting || (b || has c cids))
    known true same is =
        let there : has c waiting ≡ true = ap (λ (z : Cid). has z waiting) (cid_is c x same) ∙ sym (or_none (has x waiting)) ∙ sym (has-append x waiting []) ∙ is in
        ap (λ b. b || has c cids) there ∙ sym (ap (λ b. b || true) there)
    known false same is = refl

    by : has c (wanted (hear_all [] (waits waiting) cids)) ≡ (has c waiting || has c cids) → has c (wanted (hear_all [] (waits (waiting ++ x ∷ [])) cids)) ≡ (has c (waiting ++ x ∷ []) || has c cids) → (b : Bool) → has x (waiting ++ []) ≡ b
        → has c (wanted (hear_all [] (cond b (waits waiting) (waits (waiting ++ x ∷ []))) cids)) ≡ (has c waiting || (same_cid c x || has c cids))
    by again more true is = again ∙ known (same_cid c x) refl is
    by again more false none = more ∙ ap (λ b. b || has c cids) (has-append c waiting (x ∷ [])) ∙ one_more (has c waiting) (same_cid c x) (has c cids)

first_there : List Cid → Bool
first_there [] = false
first_there (c ∷ cids) = true

none_wanted : (q : Queue) → wanted q ≡ [] → q ≡ waits []
unfolding first_there waits
none_wanted q none = over q.waiting q.flight q.missing q.bad none
  where
    over : (waiting flight missing : List Cid) (bad : List (Cid × ℕ)) → waiting ++ (flight ++ (missing ++ bad_cids bad)) ≡ [] → ◌≡◌ {A = Queue} (record { waiting = waiting; flight = flight; missing = missing; bad = bad }) (waits [])
    over [] [] [] [] none = refl
    over (c ∷ waiting) flight missing bad none = absurd (true≢false (ap first_there none))
    over [] (c ∷ flight) missing bad none = absurd (true≢false (ap first_there none))
    over [] [] (c ∷ missing) bad none = absurd (true≢false (ap first_there none))
    over [] [] [] (b ∷ bad) none = absurd (true≢false (ap first_there none))

pub hears_all : (q : Queue) (cids : List Cid) (c : Cid) → wanted q ≡ [] → has c (wanted (hear_all [] q cids)) ≡ has c cids
hears_all q cids c none = ap (λ (r : Queue). has c (wanted (hear_all [] r cids))) (none_wanted q none) ∙ hears [] cids c
