-- The threads' own runs, merged, are a run of the network.
use Rattle.std.proofs.Common.{◌≡◌, ℕ, ◌+◌, ◌<◌, ◌≤◌, [], ◌∷◌, refl, sym, ap, subst, arith, if◌then◌else◌, ne_eqb}
use Rattle.vc_network.specs.Actors.{Label, taken_off, put_on}
use Rattle.vc_network.specs.Private.Actors.{KeepsTo}
use Rattle.vc_network.specs.Actors.Label.{Own, Takes, Puts}
use Rattle.vc_network.proofs.ThreadRuns.{threads_run}
use Rattle.vc_tokens.specs.Tokens.{Token}
use Rattle.vc_switch.specs.Waiting.{Waiting}
use Rattle.vc_network.specs.Plan.{Plan, ways}
use Rattle.vc_network.specs.LocalRun.{Stamped, plain}
use Rattle.vc_network.specs.Processes.{StepRelation}
use Rattle.vc_network.specs.Network.{Act, Take, Put, Fct, Node, Actor, IsNode, IsSwitch, NodeStep, SwitchStep, Local, first, begins, actor_at, HappenAll}
use Rattle.vc_network.specs.Threads.{source, sink, ended, ThreadsKeepHeadline}
use Rattle.vc_network.proofs.Replays.{happened}
use Rattle.vc_network.proofs.Main.{run_headline, run_list}
use Rattle.vc_switch.specs.Switch.{Switch}

node_keeps : {P : Type 0} (plan : Plan) (Does : StepRelation P) (n : ℕ) (a b : Node P) (label : Label Act Token) → NodeStep plan Does n a label b → KeepsTo (source plan) (sink plan) n label
node_keeps plan Does n a b (Own act) h = tt
node_keeps plan Does n a b (Takes (Take link word) w p) h = ap (actor_at plan) h.0.1
node_keeps plan Does n a b (Puts (Put link) w p) h = ap (actor_at plan) h.0.1
node_keeps plan Does n a b (Puts (Fct l) w p) h = ap (actor_at plan) h.0.1
node_keeps plan Does n a b d h = absurd h

switch_keeps : (plan : Plan) (waiting : Waiting) (k : ℕ) (a b : Switch) (label : Label Act Token) → SwitchStep plan waiting k a label b → KeepsTo (source plan) (sink plan) (plan.nodes + k) label
switch_keeps plan waiting k a b (Own act) h = tt
switch_keeps plan waiting k a b (Takes (Take link word) w p) h = ap (actor_at plan) h.0.1
switch_keeps plan waiting k a b (Puts (Put link) w p) h = ap (actor_at plan) h.0.1
switch_keeps plan waiting k a b (Puts (Fct l) w p) h = ap (actor_at plan) h.0.1
switch_keeps plan waiting k a b d h = absurd h

pub keeps : {P : Type 0} (plan : Plan) (waiting : Waiting) (Does : StepRelation P) (actor : ℕ) (old : Actor P) (label : Label Act Token) (new : Actor P) → Local plan waiting Does actor old label new → KeepsTo (source plan) (sink plan) actor label
keeps plan waiting Does actor (IsNode a) label (IsNode b) h = node_keeps plan Does actor a b label h.1
keeps plan waiting Does actor (IsSwitch a) label (IsSwitch b) h = subst (λ z. KeepsTo (source plan) (sink plan) z label) (sym h.1) (switch_keeps plan waiting h.0 a b label h.2)
keeps plan waiting Does actor (IsNode a) label (IsSwitch b) h = absurd h
keeps plan waiting Does actor (IsSwitch a) label (IsNode b) h = absurd h

pub threads_headline : {P : Type 0} (plan : Plan) (waiting : Waiting) (Does : StepRelation P) (begin : ℕ → P) → ThreadsKeepHeadline plan waiting Does begin
threads_headline plan waiting Does begin last runs left acts acc h =
    let r = threads_run (Local plan waiting Does) (source plan) (sink plan) (keeps plan waiting Does) (first plan begin) last runs left acts h.fit h.merged in (
      subst (λ es. HappenAll plan waiting Does (begins plan begin) es (ended last left)) r.1 (happened plan waiting Does (begins plan begin) (ended last left) r.0 r.2),
      (run_headline plan waiting Does begin r.0 (ended last left) acc r.2, run_list plan waiting Does begin r.0 (ended last left) acc r.2),
    )

-- a step takes and puts on the plan's ways alone
abbrev pub IsOnPlan : {A I : Type 0} → Plan → Label A I → Type 0
IsOnPlan plan (Own act) = Unit {0}
IsOnPlan plan (Takes act w p) = w < ways plan
IsOnPlan plan (Puts act w p) = w < ways plan

node_on : {P : Type 0} (plan : Plan) (Does : StepRelation P) (n : ℕ) (a b : Node P) (label : Label Act Token) → NodeStep plan Does n a label b → IsOnPlan plan label
node_on plan Does n a b (Own act) h = tt
node_on plan Does n a b (Takes (Take l w0) w p) h = h.0.0
node_on plan Does n a b (Puts (Put l) w p) h = h.0.0
node_on plan Does n a b (Puts (Fct l) w p) h = h.0.0
node_on plan Does n a b d h = absurd h

past : (plan : Plan) (w : ℕ) (l : Label Act (Stamped Token)) → ways plan ≤ w → IsOnPlan plan (plain l) → (taken_off w l ≡ []) × (put_on w l ≡ [])
past plan w (Own act) h k = (refl, refl)
past plan w (Takes act v s) h k = (ap (λ b. if b then s ∷ [] else []) (ne_eqb v w (λ e. omega arith)), refl)
past plan w (Puts act v s) h k = (refl, ap (λ b. if b then s ∷ [] else []) (ne_eqb v w (λ e. omega arith)))
