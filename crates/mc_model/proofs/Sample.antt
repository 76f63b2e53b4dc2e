-- One run in which each event comes, computed, with the states after its parts written by hand.
use Rattle.std.proofs.Common.{◌≡◌, true, false, [], ◌∷◌, Some, None, refl}
use Rattle.std.specs.Prelude.{if◌then◌else◌}
use Rattle.mc_base.specs.declared.cid.Cid.{Cid}
use Rattle.mc_model.specs.Events.{Store, Process, Hear, Want, GiveBack, Missing, Bad, Requeue, WalkBegin, WalkVisit, WalkEnd, Batch, Stop, Open, after, is_commit, failed}
use Rattle.mc_model.specs.Drain.{is_way, is_in_order}
use Rattle.mc_model.specs.Found.{Offers, Nothing, Good}
use Rattle.mc_model.specs.Front.{same_cid}
use Rattle.mc_model.specs.Graph.{Vertex, heads_in, gaps_in, is_path}
use Rattle.mc_model.specs.State.{State, OpenBatch, nothing_durable}
use Rattle.mc_model.specs.Wanted.{no_queue}

abbrev one : Cid
one = record { 0 = 1 ∷ [] }

abbrev two : Cid
two = record { 0 = 2 ∷ [] }

abbrev three : Cid
three = record { 0 = 3 ∷ [] }

-- three links to two, and two, twice, to one
abbrev first : Vertex
first = record { cid = one; bytes = 10 ∷ []; links = [] }

abbrev second : Vertex
second = record { cid = two; bytes = 20 ∷ []; links = one ∷ one ∷ [] }

abbrev third : Vertex
third = record { cid = three; bytes = 30 ∷ []; links = two ∷ [] }

abbrev empty : State
empty = record { durable = nothing_durable; run = None }

-- open: whole is true; a message names the block three twice, which counts once; it starts
abbrev started : State
started = record {
  durable = nothing_durable;
  run = Some (record { queue = record { waiting = []; flight = three ∷ []; missing = []; bad = [] }; walk = None; batch = None; whole = true });
}

pub opens_and_wants : after empty (Open ∷ Hear (three ∷ three ∷ []) ∷ Want ∷ []) ≡ started
opens_and_wants = refl

-- given back, missing, heard again, bad, requeued: it waits each time in the end
abbrev waits : State
waits = record {
  durable = nothing_durable;
  run = Some (record { queue = record { waiting = three ∷ []; flight = []; missing = []; bad = [] }; walk = None; batch = None; whole = true });
}

pub gives_back : after started (GiveBack three ∷ []) ≡ waits
gives_back = refl

pub is_missing : after started (Missing three ∷ [])
    ≡ record { durable = nothing_durable; run = Some (record { queue = record { waiting = []; flight = []; missing = three ∷ []; bad = [] }; walk = None; batch = None; whole = true }) }
is_missing = refl

pub hears_missing : after started (Missing three ∷ Hear (three ∷ []) ∷ []) ≡ waits
hears_missing = refl

pub is_bad : after started (Bad three 4 ∷ [])
    ≡ record { durable = nothing_durable; run = Some (record { queue = record { waiting = []; flight = []; missing = []; bad = (three, 4) ∷ [] }; walk = None; batch = None; whole = true }) }
is_bad = refl

pub requeues : after started (Bad three 4 ∷ Requeue ∷ []) ≡ waits
requeues = refl

-- three is stored and processed: its link is wanted, and the mark is set by the same event
abbrev gapped : State
gapped = record {
  durable = record { graph = third ∷ []; order = three ∷ []; mark = true };
  run = Some (record { queue = record { waiting = two ∷ []; flight = []; missing = []; bad = [] }; walk = None; batch = None; whole = true });
}

pub stores_and_processes : after started (Store (third ∷ []) ∷ Process (three ∷ []) ∷ []) ≡ gapped
stores_and_processes = refl

-- a stop forgets what is wanted; after an opening with a set mark whole is false
abbrev reopened : State
reopened = record { durable = record { graph = third ∷ []; order = three ∷ []; mark = true }; run = Some (record { queue = no_queue; walk = None; batch = None; whole = false }) }

pub stops_and_opens : after gapped (Stop ∷ Open ∷ []) ≡ reopened
stops_and_opens = refl

-- a walk visits position 0; two and one are processed while it runs; at its end whole is true and the mark clear
abbrev walks : State
walks = record {
  durable = record { graph = third ∷ []; order = three ∷ []; mark = true };
  run = Some (record { queue = record { waiting = two ∷ []; flight = []; missing = []; bad = [] }; walk = Some (1, 1); batch = None; whole = false });
}

pub visits : after reopened (WalkBegin ∷ WalkVisit ∷ []) ≡ walks
visits = refl

pub ends_open : after walks (WalkEnd ∷ []) ≡ gapped
ends_open = refl

abbrev clean : State
clean = record {
  durable = record { graph = third ∷ second ∷ first ∷ []; order = three ∷ two ∷ one ∷ []; mark = false };
  run = Some (record { queue = no_queue; walk = None; batch = None; whole = true });
}

pub ends_clean : after walks (Store (second ∷ first ∷ []) ∷ Process (two ∷ []) ∷ Want ∷ Process (one ∷ []) ∷ WalkEnd ∷ []) ≡ clean
ends_clean = refl

-- a group of two, of which one links to the other, wants nothing that it processes itself
pub processes_group : after gapped (Store (second ∷ first ∷ []) ∷ Process (two ∷ one ∷ []) ∷ []) ≡ clean
processes_group = refl

-- a walk's end is a commit only where the mark changes
pub end_commits : is_commit clean.durable WalkEnd ≡ false
end_commits = refl

pub end_commits_not : is_commit (record { graph = third ∷ []; order = three ∷ []; mark = true }) WalkEnd ≡ false
end_commits_not = refl

pub end_commits_clear : is_commit (record { graph = first ∷ []; order = one ∷ []; mark = true }) WalkEnd ≡ true
end_commits_clear = refl

-- a commit that failed, wholly or not at all
pub fails_wholly : after started (failed true (Store (third ∷ []))) ≡ record { durable = record { graph = third ∷ []; order = []; mark = false }; run = None }
fails_wholly = refl

pub fails_not_at_all : after started (failed false (Store (third ∷ []))) ≡ empty
fails_not_at_all = refl

-- a batch
abbrev batch : OpenBatch
batch = record { elements = []; pairs = (107 ∷ [], one) ∷ [] }

pub batches : after clean (Batch (Some batch) ∷ [])
    ≡ record { durable = clean.durable; run = Some (record { queue = no_queue; walk = None; batch = Some batch; whole = true }) }
batches = refl

-- a drain of the block three: two is its link, and is there; one is not

abbrev offered : Offers
offered c = if same_cid c three then Good (two ∷ []) else (if same_cid c two then Good (one ∷ one ∷ []) else Nothing)

pub drains : after waits (Want ∷ Store (third ∷ []) ∷ Process (three ∷ []) ∷ Want ∷ Store (second ∷ []) ∷ Process (two ∷ []) ∷ Want ∷ Missing one ∷ [])
    ≡ record {
      durable = record { graph = third ∷ second ∷ []; order = three ∷ two ∷ []; mark = true };
      run = Some (record { queue = record { waiting = []; flight = []; missing = one ∷ []; bad = [] }; walk = None; batch = None; whole = true });
    }
drains = refl

pub adds_linked : is_way offered [] (three ∷ []) (three ∷ []) two ≡ true
adds_linked = refl

pub adds_no_missing : is_way offered [] (three ∷ []) (two ∷ three ∷ []) one ≡ false
adds_no_missing = refl

pub adds_in_order : is_in_order offered (three ∷ []) [] (three ∷ two ∷ []) ≡ true
adds_in_order = refl

pub adds_not_before : is_in_order offered (three ∷ []) [] (two ∷ three ∷ []) ≡ false
adds_not_before = refl

-- two is no head where three is processed; one is a gap, to which two links; and three reaches one over two
pub has_head : heads_in (third ∷ second ∷ []) (two ∷ three ∷ []) ≡ three ∷ []
has_head = refl

pub has_gaps : gaps_in (third ∷ second ∷ []) (two ∷ three ∷ []) ≡ one ∷ one ∷ []
has_gaps = refl

pub reaches : is_path (third ∷ second ∷ first ∷ []) (three ∷ []) (two ∷ three ∷ []) one ≡ true
reaches = refl
