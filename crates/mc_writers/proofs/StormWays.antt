-- How far one write of a writer came.
use Rattle.std.proofs.Common.{◌≡◌, ◌≤◌, ◌+◌, ℕ, Bool, true, false, [], ◌∷◌, ◌++◌, refl, sym, arith, append-nil, eq-eqb}
use Rattle.std.proofs.lemmas.Bool.{false≢true}
use Rattle.mc_storm.specs.Interleavings.{StormCall, Write, is_by}
use Rattle.mc_writers.specs.Tooks.{Took, places_if, width}
use Rattle.mc_writers.specs.Writers.{WriteGoes}

-- a writer's own call
of_itself : (writer : ℕ) (gets : Bool) (write : Write) → is_by writer (record { writer = writer; gets = gets; write = write }) ≡ true
of_itself writer gets write = eq-eqb writer writer refl

module _ (writer number lo hi : ℕ) (Good Bad : Took StormCall → Type 0) (low : lo ≤ hi) where
  write_of : Bool → Bool → Write
  write_of made same = record { number = number; made = made; same = same }

  -- nothing was called
  pub goes_nothing : WriteGoes writer number lo hi false false false [] Good Bad
  goes_nothing = record {
    tooks = [];
    fails = [];
    of_one = tt;
    fails_of = tt;
    rising = tt;
    ends = tt;
    write = record { number = number; made = false; same = false };
    numbered = refl;
    part = (record { writer = writer; gets = false; write = record { number = number; made = false; same = false } } ∷ record { writer = writer; gets = true; write = record { number = number; made = false; same = false } } ∷ [], refl);
    whole = λ e. absurd (false≢true e);
    unfailed = λ e. refl;
    made_is = λ e. refl;
    same_is = λ e. refl;
    places_are = refl;
    good = tt;
    bad = tt;
    low = low;
  }

  -- the put failed
  pub goes_failed : (at : ℕ) → Bad (record { call = record { writer = writer; gets = false; write = record { number = number; made = false; same = false } }; at = at; adds = true })
      → WriteGoes writer number lo hi false false false (at ∷ []) Good Bad
  goes_failed at bad = record {
    tooks = [];
    fails = record { call = record { writer = writer; gets = false; write = record { number = number; made = false; same = false } }; at = at; adds = true } ∷ [];
    of_one = tt;
    fails_of = (of_itself writer false (record { number = number; made = false; same = false }), tt);
    rising = tt;
    ends = tt;
    write = record { number = number; made = false; same = false };
    numbered = refl;
    part = (record { writer = writer; gets = true; write = record { number = number; made = false; same = false } } ∷ [], refl);
    whole = λ e. absurd (false≢true e);
    unfailed = λ e. absurd (false≢true e);
    made_is = λ e. absurd (false≢true e);
    same_is = λ e. absurd (false≢true e);
    places_are = refl;
    good = tt;
    bad = (bad, tt);
    low = low;
  }

  -- the put was made or refused, and nothing came of the get
  pub goes_half : (made : Bool) (at : ℕ) → lo ≤ at → at + width made ≤ hi → Good (record { call = record { writer = writer; gets = false; write = record { number = number; made = made; same = false } }; at = at; adds = made })
      → WriteGoes writer number lo hi false false false (places_if made at []) Good Bad
  goes_half made at l h good = record {
    tooks = record { call = record { writer = writer; gets = false; write = record { number = number; made = made; same = false } }; at = at; adds = made } ∷ [];
    fails = [];
    of_one = (of_itself writer false (record { number = number; made = made; same = false }), tt);
    fails_of = tt;
    rising = (l, omega (arith, h), tt);
    ends = (h, tt);
    write = record { number = number; made = made; same = false };
    numbered = refl;
    part = (record { writer = writer; gets = true; write = record { number = number; made = made; same = false } } ∷ [], refl);
    whole = λ e. absurd (false≢true e);
    unfailed = λ e. refl;
    made_is = λ e. absurd (false≢true e);
    same_is = λ e. absurd (false≢true e);
    places_are = sym (append-nil (places_if made at []));
    good = (good, tt);
    bad = tt;
    low = low;
  }

  -- and the get failed
  pub goes_broken : (made : Bool) (at place : ℕ) → lo ≤ at → at + width made ≤ hi → Good (record { call = record { writer = writer; gets = false; write = record { number = number; made = made; same = false } }; at = at; adds = made })
      → Bad (record { call = record { writer = writer; gets = true; write = record { number = number; made = made; same = false } }; at = place; adds = true })
      → WriteGoes writer number lo hi false false false (places_if made at [] ++ place ∷ []) Good Bad
  goes_broken made at place l h good bad = record {
    tooks = record { call = record { writer = writer; gets = false; write = record { number = number; made = made; same = false } }; at = at; adds = made } ∷ [];
    fails = record { call = record { writer = writer; gets = true; write = record { number = number; made = made; same = false } }; at = place; adds = true } ∷ [];
    of_one = (of_itself writer false (record { number = number; made = made; same = false }), tt);
    fails_of = (of_itself writer true (record { number = number; made = made; same = false }), tt);
    rising = (l, omega (arith, h), tt);
    ends = (h, tt);
    write = record { number = number; made = made; same = false };
    numbered = refl;
    part = ([], refl);
    whole = λ e. absurd (false≢true e);
    unfailed = λ e. absurd (false≢true e);
    made_is = λ e. absurd (false≢true e);
    same_is = λ e. absurd (false≢true e);
    places_are = refl;
    good = (good, tt);
    bad = (bad, tt);
    low = low;
  }

  -- both were made
  pub goes_whole : (made same : Bool) (at place : ℕ) → lo ≤ at → at + width made ≤ place → place + 0 ≤ hi
      → Good (record { call = record { writer = writer; gets = false; write = record { number = number; made = made; same = same } }; at = at; adds = made })
      → Good (record { call = record { writer = writer; gets = true; write = record { number = number; made = made; same = same } }; at = place; adds = false })
      → WriteGoes writer number lo hi true made same (places_if made at []) Good Bad
  goes_whole made same at place l m h put get = record {
    tooks = record { call = record { writer = writer; gets = false; write = record { number = number; made = made; same = same } }; at = at; adds = made }
        ∷ record { call = record { writer = writer; gets = true; write = record { number = number; made = made; same = same } }; at = place; adds = false } ∷ [];
    fails = [];
    of_one = (of_itself writer false (record { number = number; made = made; same = same }), (of_itself writer true (record { number = number; made = made; same = same }), tt));
    fails_of = tt;
    rising = (l, omega (arith, m, h), (m, omega (arith, h), tt));
    ends = (omega (arith, m, h), (h, tt));
    write = record { number = number; made = made; same = same };
    numbered = refl;
    part = ([], refl);
    whole = λ e. refl;
    unfailed = λ e. refl;
    made_is = λ e. refl;
    same_is = λ e. refl;
    places_are = sym (append-nil (places_if made at []));
    good = (put, (get, tt));
    bad = tt;
    low = low;
  }
