-- `stopped` is answered exactly where a replica that a command works on doesn't run.
use Rattle.std.proofs.Common.{◌≡◌, ℕ, Bool, true, false, true≢false, List, [], ◌∷◌, length, Option, Some, None, Result, Ok, Err, refl, sym, ◌∙◌, ap, subst, inl, inr, nat_lt}
use Rattle.std.specs.Prelude.{◌||◌, ◌↔◌, cond, is_some, slice_get, if◌then◌else◌}
use Rattle.std.specs.Option.{option_map, option_or}
use Rattle.std.proofs.lemmas.Bool.{ltb-true, or_left}
use Rattle.mc_key.specs.KeyRule.{key_fault}
use Rattle.mc_key.specs.declared.fault.KeyFault.{KeyFault}
use Rattle.mc_model.specs.State.{OpenBatch, Running}
use Rattle.mc_core.specs.Exact.{seen_of, stop_front}
use Rattle.mc_core.specs.Refusals.{value_max}
use Rattle.mc_core.specs.declared.CoreError.{CoreError}
use Rattle.mc_core.specs.declared.CoreError.TheVariants as core
use Rattle.mc_script.specs.declared.command.Command.{Command}
use Rattle.mc_script.specs.declared.command.Command.TheVariants.{Put, Del, Begin, BatchPut, BatchDel, Commit}
use Rattle.mc_script.specs.declared.command.Command.TheVariants.{Hear, Same as SameOf}
use Rattle.mc_script.specs.declared.reply.Reply.{Reply}
use Rattle.mc_script.specs.declared.reply.Reply.TheVariants.{Stopped}
use Rattle.mc_seats.specs.declared.error.ActError.{ActError}
use Rattle.mc_seats.specs.declared.entry.LineEntry.{LineEntry}
use Rattle.mc_seats.specs.Asks.{among_by, is_named, is_there}
use Rattle.mc_seats.specs.Doing.{Act, At, Compares, Doing, Tends, doing}
use Rattle.mc_seats.specs.Effects.{IsReply, asks_by, batch_in, call_front, front_by, refused_by, seen_by, stop_reply}
use Rattle.mc_runs.specs.Promises.{asks_running, has_stopped, running_by, some_stopped}
use Rattle.mc_seats.specs.Step.{Refuses, Row, Step, asked_by, either_reply, is_fault, refuses_by}
use Rattle.mc_seats.specs.Tending.{Either, Rests, Rule, Runs, is_runs, rule_reply}
use Rattle.mc_seats.specs.Words.{has_some}
use Rattle.mc_seats.specs.Worlds.{Place, WorldState, is_down}
use Rattle.mc_runs.proofs.ReplyFacts.{done_plainly, within}
use Rattle.mc_runs.proofs.TendFacts.{is_plain}
use Rattle.mc_seats.proofs.SeatFacts.{first, rest}
use Rattle.mc_runs.proofs.WrittenFacts.{at_there, of_place, stands_within}

-- the refusal of a replica that doesn't run, among all

abbrev is_stop : Option CoreError → Bool
is_stop (Some core.Stopped) = true
is_stop due = false

abbrev says_stop : Result Reply ActError → Bool
says_stop (Ok Stopped) = true
says_stop result = false

abbrev reply_in : Result Reply ActError → Reply
reply_in (Ok reply) = reply
reply_in (Err error) = Stopped

abbrev due_stop : Option Reply → Bool
due_stop (Some Stopped) = true
due_stop due = false

stopped_error : (error : CoreError) → IsReply error Stopped → seen_of error ≡ Some core.Stopped
stopped_error core.Stopped e = refl
stopped_error core.KeeperFault e = absurd e
stopped_error core.Memory e = absurd e
stopped_error error e = absurd (true≢false (sym (ap says_stop e)))

stopped_says : (error : CoreError) (reply : Reply) → seen_of error ≡ Some core.Stopped → IsReply error reply → reply ≡ Stopped
stopped_says core.Stopped reply seen e = sym (ap reply_in e)
stopped_says error reply seen e = absurd (true≢false (sym (ap is_stop seen)))

-- no other refusal that needs no look at the keeper is that one

put_front_runs : (fault : Option KeyFault) (long : Bool) → is_stop (option_or (option_map (λ (fault : KeyFault). core.BadKey fault) fault) (if long then Some core.ValueTooLong else None)) ≡ false
put_front_runs None true = refl
put_front_runs None false = refl
put_front_runs (Some fault) long = refl

mapped_runs : {A : Type 0} (make : A → CoreError) (o : Option A) → ((x : A) → is_stop (Some (make x)) ≡ false) → is_stop (option_map make o) ≡ false
mapped_runs make None runs = refl
mapped_runs make (Some x) runs = runs x

key_front_runs : (fault : Option KeyFault) → is_stop (option_map (λ (fault : KeyFault). core.BadKey fault) fault) ≡ false
key_front_runs fault = mapped_runs (λ (fault : KeyFault). core.BadKey fault) fault (λ fault. refl)

front_runs : (w : WorldState) (batch : Option OpenBatch) (command : Command) → is_stop (call_front w batch command) ≡ false
front_runs w batch (Put r key bytes) = put_front_runs (key_fault key) (nat_lt value_max (length bytes))
front_runs w batch (Del r key) = key_front_runs (key_fault key)
front_runs w None (Begin r) = refl
front_runs w (Some batch) (Begin r) = refl
front_runs w None (BatchPut r key bytes) = refl
front_runs w (Some batch) (BatchPut r key bytes) = put_front_runs (key_fault key) (nat_lt value_max (length bytes))
front_runs w None (BatchDel r key) = refl
front_runs w (Some batch) (BatchDel r key) = key_front_runs (key_fault key)
front_runs w None (Commit r) = refl
front_runs w (Some batch) (Commit r) = refl
front_runs w batch (Hear r message) = mapped_runs (λ fault. core.BadCast fault) _ (λ fault. refl)
front_runs w batch command = refl

down_by : (down : Bool) (due : Option CoreError) → is_stop due ≡ false → stop_front down due ≡ Some core.Stopped → down ≡ true
down_by true due runs e = refl
down_by false due runs e = absurd (true≢false (sym (ap is_stop e) ∙ runs))

seen_of_down : (w : WorldState) (p : Place) (d : Doing) → is_down p.run ≡ true → seen_by w p d ≡ Some core.Stopped
seen_of_down w p d down = ap (λ b. stop_front b (front_by w (batch_in p.run) d)) down

-- what is due at a replica

-- `stopped` is the refusal of a replica that doesn't run, by the rule of a place
rule_stopped : (rule : Rule) (run : Option Running) → Some Stopped ≡ rule_reply rule run → (is_runs rule ≡ true) × (is_down run ≡ true)
rule_stopped Runs None e = (refl, refl)
rule_stopped Runs (Some run) e = absurd (true≢false (ap is_some e))
rule_stopped Rests None e = absurd (true≢false (ap is_some e))
rule_stopped Rests (Some run) e = absurd (true≢false (ap due_stop e))
rule_stopped Either run e = absurd (true≢false (ap is_some e))

rule_of_down : (rule : Rule) (run : Option Running) → is_runs rule ≡ true → is_down run ≡ true → rule_reply rule run ≡ Some Stopped
rule_of_down Runs None is down = refl
rule_of_down Runs (Some run) is down = absurd (true≢false (sym down))
rule_of_down Rests run is down = absurd (true≢false (sym is))
rule_of_down Either run is down = absurd (true≢false (sym is))

same_reply : (reply other : Reply) → Some reply ≡ Some other → reply ≡ other
same_reply reply other e = cc

-- whether a replica is asked to run, and the one that is
runs_some : (b : Bool) (r : ℕ) → has_some (cond b (r ∷ []) []) ≡ true → b ≡ true
runs_some true r is = refl
runs_some false r is = absurd (true≢false (sym is))

is_asked : (r : ℕ) (act : Act) → has_some (running_by (At r act)) ≡ true → running_by (At r act) ≡ r ∷ []
is_asked r (Tends tending) is = ap (λ b. cond b (r ∷ []) []) (runs_some (is_runs tending.rule) r is)
is_asked r act is = refl

abbrev FrontRuns : WorldState → Doing → Type 0
FrontRuns w d = (batch : Option OpenBatch) → is_stop (front_by w batch d) ≡ false

stopped_is_down : (w : WorldState) (r : ℕ) (act : Act) (p : Place) → FrontRuns w (At r act) → refused_by w p (At r act) (Some Stopped) → (is_down p.run ≡ true) × (running_by (At r act) ≡ r ∷ [])
stopped_is_down w r (Tends tending) p runs h =
    let stopped = rule_stopped tending.rule p.run h in
    (stopped.1, ap (λ b. cond b (r ∷ []) []) stopped.0)
stopped_is_down w r act p runs h = (down_by (is_down p.run) (front_by w (batch_in p.run) (At r act)) (runs (batch_in p.run)) (sym h.1 ∙ stopped_error h.0 h.3), refl)

-- one that doesn't run refuses with `stopped`
down_is_stopped : (w : WorldState) (r : ℕ) (act : Act) (reply : Reply) (p : Place) → has_some (running_by (At r act)) ≡ true → is_down p.run ≡ true → refused_by w p (At r act) (Some reply) → reply ≡ Stopped
down_is_stopped w r (Tends tending) reply p asks down h = same_reply reply Stopped (h ∙ rule_of_down tending.rule p.run (runs_some (is_runs tending.rule) r asks) down)
down_is_stopped w r act reply p asks down h = stopped_says h.0 reply (h.1 ∙ seen_of_down w p (At r act) down) h.3

-- and is not asked
none_is_stop : None ≡ Some core.Stopped → ⊥
none_is_stop e = true≢false (sym (ap is_some e))

down_not_allowed : (w : WorldState) (r : ℕ) (act : Act) (p : Place) → has_some (running_by (At r act)) ≡ true → is_down p.run ≡ true → refused_by w p (At r act) None → ⊥
down_not_allowed w r (Tends tending) p asks down h = true≢false (sym (ap is_some (h ∙ rule_of_down tending.rule p.run (runs_some (is_runs tending.rule) r asks) down)))
down_not_allowed w r act p asks down h = none_is_stop (sym h.0 ∙ seen_of_down w p (At r act) down)

down_not_asked : (w : WorldState) (r : ℕ) (act : Act) (p : Place) → has_some (running_by (At r act)) ≡ true → is_down p.run ≡ true → asks_by w (At r act) p → ⊥
down_not_asked w r (Tends tending) p asks down h = true≢false (ap is_some (sym (rule_of_down tending.rule p.run (runs_some (is_runs tending.rule) r asks) down) ∙ h))
down_not_asked w r act p asks down h = none_is_stop (sym h ∙ seen_of_down w p (At r act) down)

-- the replicas of a command

or_none : (b : Bool) → (b || false) ≡ true → b ≡ true
or_none true is = refl
or_none false is = absurd (true≢false (sym is))

down_one : (w : WorldState) (r : ℕ) → some_stopped w (r ∷ []) ≡ true → (p : Place) × (slice_get w.places r ≡ Some p) × (is_down p.run ≡ true)
down_one w r is = found (slice_get w.places r) refl (or_none (has_stopped (slice_get w.places r)) is)
  where
    found : (o : Option Place) → slice_get w.places r ≡ o → has_stopped o ≡ true → (p : Place) × (slice_get w.places r ≡ Some p) × (is_down p.run ≡ true)
    found None stands down = absurd (true≢false (sym down))
    found (Some p) stands down = (p, stands, down)

one_down : (w : WorldState) (r : ℕ) (p : Place) → slice_get w.places r ≡ Some p → is_down p.run ≡ true → some_stopped w (r ∷ []) ≡ true
one_down w r p stands down = or_left (has_stopped (slice_get w.places r)) false (ap has_stopped stands ∙ down)

-- two replicas
both_due : (a b : Option Running) → (is_down a || (is_down b || false)) ≡ true → option_or (stop_reply a) (stop_reply b) ≡ Some Stopped
both_due None b is = refl
both_due (Some a) None is = refl
both_due (Some a) (Some b) is = absurd (true≢false (sym is))

due_both : (a b : Option Running) → Some Stopped ≡ option_or (stop_reply a) (stop_reply b) → (is_down a || (is_down b || false)) ≡ true
due_both None b e = refl
due_both (Some a) None e = refl
due_both (Some a) (Some b) e = absurd (true≢false (ap is_some e))

module _ (w : WorldState) (r other : ℕ) (there : is_there w (SameOf r other) ≡ true) where
  at_first : (p : Place) × (slice_get w.places r ≡ Some p)
  at_first = stands_within w.places r (ltb-true r (length w.places) (first (nat_lt r (length w.places)) (nat_lt other (length w.places)) there))

  at_second : (p : Place) × (slice_get w.places other ≡ Some p)
  at_second = stands_within w.places other (ltb-true other (length w.places) (rest (nat_lt r (length w.places)) (nat_lt other (length w.places)) there))

  either_is : either_reply (slice_get w.places r) (slice_get w.places other) ≡ option_or (stop_reply at_first.0.run) (stop_reply at_second.0.run)
  either_is = ap (λ o. either_reply o (slice_get w.places other)) at_first.1 ∙ ap (λ o. either_reply (Some at_first.0) o) at_second.1

  some_is : some_stopped w (r ∷ other ∷ []) ≡ (is_down at_first.0.run || (is_down at_second.0.run || false))
  some_is = ap (λ o. has_stopped o || (has_stopped (slice_get w.places other) || false)) at_first.1 ∙ ap (λ o. is_down at_first.0.run || (has_stopped o || false)) at_second.1

  same_due : some_stopped w (r ∷ other ∷ []) ≡ true → either_reply (slice_get w.places r) (slice_get w.places other) ≡ Some Stopped
  same_due is = either_is ∙ both_due at_first.0.run at_second.0.run (sym some_is ∙ is)

  due_same : Some Stopped ≡ either_reply (slice_get w.places r) (slice_get w.places other) → some_stopped w (r ∷ other ∷ []) ≡ true
  due_same e = some_is ∙ due_both at_first.0.run at_second.0.run (e ∙ either_is)

-- in a world

refuses_stopped : (w : WorldState) (d : Doing) → FrontRuns w d → among_by (length w.places) w.around.bag d ≡ true → refuses_by w d (Some Stopped) → some_stopped w (running_by d) ≡ true
refuses_stopped w (At r act) runs there h =
    let found = at_there w r (λ p. refused_by w p (At r act) (Some Stopped)) (within (length w.places) w.around.bag r act there) h in
    let stopped = stopped_is_down w r act found.0 runs found.2 in
    ap (some_stopped w) stopped.1 ∙ one_down w r found.0 found.1 stopped.0
refuses_stopped w (Compares r other) runs there h = due_same w r other there h
refuses_stopped w d runs there h = absurd (true≢false (ap is_some h))

has_of_some : (w : WorldState) (numbers : List ℕ) → some_stopped w numbers ≡ true → has_some numbers ≡ true
has_of_some w [] is = absurd (true≢false (sym is))
has_of_some w (r ∷ numbers) is = refl

module _ (w : WorldState) where
  -- the replica that is asked to run, and doesn't
  asked_down : (r : ℕ) (act : Act) → some_stopped w (running_by (At r act)) ≡ true → (p : Place) × (slice_get w.places r ≡ Some p) × (is_down p.run ≡ true)
  asked_down r act is = down_one w r (ap (some_stopped w) (sym (is_asked r act (has_of_some w (running_by (At r act)) is))) ∙ is)

  stopped_refuses : (d : Doing) (reply : Reply) → among_by (length w.places) w.around.bag d ≡ true → some_stopped w (running_by d) ≡ true → refuses_by w d (Some reply) → reply ≡ Stopped
  stopped_refuses (At r act) reply there is h =
      let found = asked_down r act is in
      down_is_stopped w r act reply found.0 (has_of_some w (running_by (At r act)) is) found.2 (of_place w r (λ p. refused_by w p (At r act) (Some reply)) found.0 found.1 h)
  stopped_refuses (Compares r other) reply there is h = same_reply reply Stopped (h ∙ same_due w r other there is)
  stopped_refuses d reply there is h = absurd (true≢false (sym is))

  stopped_not_allowed : (d : Doing) → among_by (length w.places) w.around.bag d ≡ true → some_stopped w (running_by d) ≡ true → refuses_by w d None → ⊥
  stopped_not_allowed (At r act) there is h =
      let found = asked_down r act is in
      down_not_allowed w r act found.0 (has_of_some w (running_by (At r act)) is) found.2 (of_place w r (λ p. refused_by w p (At r act) None) found.0 found.1 h)
  stopped_not_allowed (Compares r other) there is h = true≢false (sym (ap is_some (h ∙ same_due w r other there is)))
  stopped_not_allowed d there is h = true≢false (sym is)

  stopped_not_asked : (d : Doing) → among_by (length w.places) w.around.bag d ≡ true → some_stopped w (running_by d) ≡ true → asked_by w d → ⊥
  stopped_not_asked (At r act) there is h =
      let found = asked_down r act is in
      down_not_asked w r act found.0 (has_of_some w (running_by (At r act)) is) found.2 (of_place w r (asks_by w (At r act)) found.0 found.1 h)
  stopped_not_asked (Compares r other) there is h = true≢false (ap is_some (sym (same_due w r other there is) ∙ h))
  stopped_not_asked d there is h = h

  pub stopped_says_so : (command : Command) (entry : LineEntry) (reply : Reply) (w2 : WorldState) → Step w command entry reply w2 → some_stopped w (asks_running command) ≡ true → reply ≡ Stopped
  stopped_says_so command entry reply w2 step is = over step.row
    where
      over : Row w command (λ r. is_named entry.keepers r ≡ true) (λ r. is_named entry.own r ≡ true) (λ r. is_named entry.desks r ≡ true) reply w2 → reply ≡ Stopped
      over (inl (inl (inl refused))) = stopped_refuses (doing command) reply step.there is refused.cause
      over (inl (inl (inr done))) = absurd (stopped_not_allowed (doing command) step.there is done.allowed)
      over (inl (inr fault)) = absurd (stopped_not_asked (doing command) step.there is fault.asked)
      over (inr peer) = absurd (stopped_not_allowed (doing command) step.there is peer.allowed)

  pub says_so_stopped : (command : Command) (entry : LineEntry) (reply : Reply) (w2 : WorldState) → Step w command entry reply w2 → reply ≡ Stopped → some_stopped w (asks_running command) ≡ true
  says_so_stopped command entry reply w2 step says = over step.row
    where
      over : Row w command (λ r. is_named entry.keepers r ≡ true) (λ r. is_named entry.own r ≡ true) (λ r. is_named entry.desks r ≡ true) reply w2 → some_stopped w (asks_running command) ≡ true
      over (inl (inl (inl refused))) = refuses_stopped w (doing command) (λ batch. front_runs w batch command) step.there (subst (λ (x : Reply). Refuses w command (Some x)) says refused.cause)
      over (inl (inl (inr done))) = absurd (true≢false (sym (done_plainly w command reply w2 done) ∙ ap is_plain says))
      over (inl (inr fault)) = absurd (true≢false (ap is_fault (sym fault.says ∙ says)))
      over (inr peer) = absurd (true≢false (ap is_fault (sym peer.says ∙ says)))

pub stopped_exactly : (w : WorldState) (command : Command) (entry : LineEntry) (reply : Reply) (w2 : WorldState) → Step w command entry reply w2 → (reply ≡ Stopped) ↔ (some_stopped w (asks_running command) ≡ true)
stopped_exactly w command entry reply w2 step = (says_so_stopped w command entry reply w2 step, stopped_says_so w command entry reply w2 step)
