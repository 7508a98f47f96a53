-- No packet of an accepted network is longer than its limit, so a greater limit changes nothing.
use mathlib.Core.Path.{fun_ext}
use Rattle.std.proofs.Common.{◌≡◌, ℕ, zero, suc, ◌+◌, ◌-◌, ◌^◌, ◌≤◌, Bool, true, false, nat_lt, if◌then◌else◌, inl, inr, List, [], ◌∷◌, ◌++◌, length, Option, None, refl, sym, ap, subst, ◌∙◌, arith}
use Rattle.std.proofs.lemmas.Bool.{cases_lt}
use Rattle.vc_network.specs.Actors.{Network, Step, Label}
use Rattle.vc_network.specs.Private.Actors.{Event, Run}
use Rattle.vc_network.specs.Actors.Label.{Own, Takes, Puts}
use Rattle.vc_network.proofs.LongerRuns.{Run-more}
use Rattle.vc_packets.specs.Counters.{one_more}
use Rattle.vc_packets.specs.Functions.{put}
use Rattle.vc_tokens.specs.Tokens.{Token}
use Rattle.vc_machine.proofs.Basics.{put-same}
use Rattle.vc_switch.specs.Forward.{SwitchPlan}
use Rattle.vc_switch.specs.Switch.{Switch, with_header}
use Rattle.vc_switch.specs.Switch as switch
use Rattle.vc_switch.specs.Waiting.{Waiting}
use Rattle.vc_vcp.specs.Carrier.{Ends, End as NodeEnd}
use Rattle.vc_vcp.specs.Links.{Vcp, Passes, passes_byte, drops_byte, passes_mark}
use Rattle.vc_vcp.specs.Steps as node
use Rattle.vc_network.specs.Plan.{Plan, Home, Way, Inside, home, body_limit, ends, input_end, output_end, switch_plan, IsAccepted}
use Rattle.vc_network.specs.Processes.{StepRelation, Move, Offer, Want, Choose, Stopch, Inner, Quiet}
use Rattle.vc_network.specs.Network.{Act, Proc, Take, Put, Route, Fct, Pass, Node, Actor, IsNode, IsSwitch, Moves, NodeStep, SwitchStep, Local, StopsChannel, begins, HappenAll}
use Rattle.vc_network.specs.Views.{vcp_of, switch_of}
use Rattle.vc_network.specs.Headers.{with_headers, MoreHeadersChangeNothing}
use Rattle.vc_network.specs.Headline.{Headline}
use Rattle.vc_network.proofs.Main.{run_headline}
use Rattle.vc_network.proofs.Replays.{replayed, happened}
use Rattle.vc_network.proofs.Writes.{own_step}

still_some : (b : Bool) (n : ℕ) → (if b then suc n + 1 else suc n) ≡ 0 → ⊥
still_some true n e = omega arith
still_some false n e = omega arith

-- what is dropped is counted
not_dropped : (n : ℕ) → one_more n ≡ 0 → ⊥
not_dropped zero e = omega arith
not_dropped (suc n) e = still_some (nat_lt (suc n) (2 ^ 64 - 1)) n e

vcp_up : (low high : ℕ) (e : Ends) (old : Vcp) (l : ℕ) (t : Option node.Taken) (new : Vcp) → low ≤ high → Passes low e old l t new → new.carrier.strays ≡ 0 → Passes high e old l t new
vcp_up low high e old l t new le (passes_byte b rest front none less after) z = passes_byte b rest front none (omega arith) after
vcp_up low high e old l t new le (drops_byte b rest front none long after) z = absurd (not_dropped old.carrier.strays (sym (ap (λ (v : Vcp). v.carrier.strays) after) ∙ z))
vcp_up low high e old l t new le (passes_mark m rest what carrier front some arrives after) z = passes_mark m rest what carrier front some arrives after

vcp_down : (low high : ℕ) (e : Ends) (old : Vcp) (l : ℕ) (t : Option node.Taken) (new : Vcp) → low ≤ high → Passes high e old l t new →
    ((v : Vcp) → Passes low e old l None v → v.carrier.strays ≡ 0) → Passes low e old l t new
vcp_down low high e old l t new le (passes_byte b rest front none less after) never = elim (cases_lt (length (old.link l).passed) low) [
  | inl short ↦ passes_byte b rest front none short after
  | inr long ↦ absurd (not_dropped old.carrier.strays (never _ (drops_byte b rest front refl long refl)))
]
vcp_down low high e old l t new le (drops_byte b rest front none long after) never = drops_byte b rest front none (omega arith) after
vcp_down low high e old l t new le (passes_mark m rest what carrier front some arrives after) never = passes_mark m rest what carrier front some arrives after

switch_up : (low high : ℕ) (plan : SwitchPlan) (old : Switch) (l : ℕ) (new : Switch) → low ≤ high → switch.Passes low plan old l new → new.lost ≡ 0 → switch.Passes high plan old l new
switch_up low high plan old l new le (switch.passes_byte b rest mark front less after) z = switch.passes_byte b rest mark front (omega arith) after
switch_up low high plan old l new le (switch.drops_byte b rest mark front long after) z = absurd (not_dropped old.lost (sym (ap (λ (s : Switch). s.lost) after) ∙ z))
switch_up low high plan old l new le (switch.passes_mark m rest mark front group after) z = switch.passes_mark m rest mark front group after
switch_up low high plan old l new le (switch.loses m rest mark front none after) z = switch.loses m rest mark front none after

switch_down : (low high : ℕ) (plan : SwitchPlan) (old : Switch) (l : ℕ) (new : Switch) → low ≤ high → switch.Passes high plan old l new →
    ((s : Switch) → switch.Passes low plan old l s → s.lost ≡ 0) → switch.Passes low plan old l new
switch_down low high plan old l new le (switch.passes_byte b rest mark front less after) never = elim (cases_lt (length (with_header plan l (old.input l))) low) [
  | inl short ↦ switch.passes_byte b rest mark front short after
  | inr long ↦ absurd (not_dropped old.lost (never _ (switch.drops_byte b rest mark front long refl)))
]
switch_down low high plan old l new le (switch.drops_byte b rest mark front long after) never = switch.drops_byte b rest mark front (omega arith) after
switch_down low high plan old l new le (switch.passes_mark m rest mark front group after) never = switch.passes_mark m rest mark front group after
switch_down low high plan old l new le (switch.loses m rest mark front none after) never = switch.loses m rest mark front none after

-- the two networks have the same ends
output_same : (plan : Plan) (most n : ℕ) (h : Home) → output_end (with_headers plan most) n h ≡ output_end plan n h
output_same plan most n (Way v ab) = refl
output_same plan most n (Inside m) = refl

input_same : (plan : Plan) (most n : ℕ) (h : Home) → input_end (with_headers plan most) n h ≡ input_end plan n h
input_same plan most n (Way v ab) = refl
input_same plan most n (Inside m) = refl

abbrev ends_of : (ℕ → Option NodeEnd) → (ℕ → Option NodeEnd) → Ends
ends_of outputs inputs = record { output = outputs; input = inputs }

ends_same : (plan : Plan) (most n : ℕ) → ends (with_headers plan most) n ≡ ends plan n
ends_same plan most n =
    ap (λ f. ends_of f (λ c. input_end (with_headers plan most) n (home plan c))) (fun_ext (λ c. output_same plan most n (home plan c)))
    ∙ ap (ends_of (λ c. output_end plan n (home plan c))) (fun_ext (λ c. input_same plan most n (home plan c)))

-- and the same steps, but for a token that passes
module _ {P : Type 0} (plan : Plan) (most : ℕ) (waiting : Waiting) (Does : StepRelation P) where
  stops_same : (n : ℕ) (old : Node P) (c : ℕ) (new : Node P) → StopsChannel plan n old c new → StopsChannel (with_headers plan most) n old c new
  stops_same n old c new (inl (s, by)) = inl (subst (λ e. node.Stops e old.vcp.carrier c new.vcp.carrier) (sym (ends_same plan most n)) s, by)
  stops_same n old c new (inr within) = inr within

  moves_same : (n : ℕ) (old : Node P) (m : Move) (new : Node P) → Moves plan Does n old m new → Moves (with_headers plan most) Does n old m new
  moves_same n old (Offer site c) new (m, d, o, by) = (m, d, subst (λ e. node.Offers e old.vcp.carrier c m new.vcp.carrier) (sym (ends_same plan most n)) o, by)
  moves_same n old (Want site c) new (a, end, d, end_open, w, by) = (a, end, d, subst (λ e. node.IsOpen e old.vcp.carrier c end) (sym (ends_same plan most n)) end_open, w, by)
  moves_same n old (Choose site g c) new (a, end, d, end_open, w, by) = (a, end, d, subst (λ e. node.IsOpen e old.vcp.carrier c end) (sym (ends_same plan most n)) end_open, w, by)
  moves_same n old (Stopch site c) new (d, rest) = (d, stops_same n old c new rest)
  moves_same n old (Inner i j g c) new h = h
  moves_same n old (Quiet site) new h = h

  node_same : (n : ℕ) (old : Node P) (label : Label Act Token) (new : Node P)
      → ((l : ℕ) (t : Option node.Taken) → Passes (body_limit plan) (ends plan n) old.vcp l t new.vcp → Passes (body_limit (with_headers plan most)) (ends (with_headers plan most) n) old.vcp l t new.vcp)
      → NodeStep plan Does n old label new → NodeStep (with_headers plan most) Does n old label new
  node_same n old (Own (Proc m)) new pass h = moves_same n old m new h
  node_same n old (Own (Pass l)) new pass (t, passes, goes, inner) = (t, pass l t passes, goes, inner)
  node_same n old (Takes (Take l word) way k) new pass h = h
  node_same n old (Puts (Put l) way k) new pass h = h
  node_same n old (Puts (Fct l) way k) new pass h = h
  node_same n old label new pass h = absurd h

  switch_same : (i : ℕ) (old : Switch) (label : Label Act Token) (new : Switch)
      → ((l : ℕ) → switch.Passes (body_limit plan) (switch_plan plan i) old l new → switch.Passes (body_limit (with_headers plan most)) (switch_plan plan i) old l new)
      → SwitchStep plan waiting i old label new → SwitchStep (with_headers plan most) waiting i old label new
  switch_same i old (Own (Route input output)) new pass h = h
  switch_same i old (Own (Pass l)) new pass h = pass l h
  switch_same i old (Takes (Take l word) way k) new pass h = h
  switch_same i old (Puts (Put l) way k) new pass h = h
  switch_same i old (Puts (Fct l) way k) new pass h = h
  switch_same i old label new pass h = absurd h

-- this actor has dropped nothing
record IsClean {P : Type 0} (plan : Plan) (actor : ℕ) (x : Actor P) : Type 0 where
  strays : (vcp_of x).carrier.strays ≡ 0
  lost : (i : ℕ) → actor ≡ plan.nodes + i → (switch_of x).lost ≡ 0

all_clean : {P : Type 0} (plan : Plan) (waiting : Waiting) (Does : StepRelation P) (s : Network (Actor P) Token) → Headline plan waiting Does s → (k : ℕ) → IsClean plan k (s.state k)
all_clean plan waiting Does s h k = record { strays = h.no_strays k; lost = λ i e. subst (λ z. (switch_of (s.state z)).lost ≡ 0) (sym e) (h.none_lost i) }

module _ {P : Type 0} (plan : Plan) (most : ℕ) (waiting : Waiting) (Does : StepRelation P) (le : plan.headers ≤ most) where
  limits : body_limit plan ≤ body_limit (with_headers plan most)
  limits = omega arith

  local_up : (actor : ℕ) (old : Actor P) (label : Label Act Token) (new : Actor P) → Local plan waiting Does actor old label new → IsClean plan actor new → Local (with_headers plan most) waiting Does actor old label new
  local_up actor (IsNode old) label (IsNode new) (less, h) clean = (
    less,
    node_same plan most waiting Does actor old label new
        (λ l t p. subst (λ e. Passes (body_limit (with_headers plan most)) e old.vcp l t new.vcp) (sym (ends_same plan most actor)) (vcp_up (body_limit plan) (body_limit (with_headers plan most)) (ends plan actor) old.vcp l t new.vcp limits p clean.strays)) h,
  )
  local_up actor (IsSwitch old) label (IsSwitch new) (i, at, h) clean =
      (i, at, switch_same plan most waiting Does i old label new (λ l p. switch_up (body_limit plan) (body_limit (with_headers plan most)) (switch_plan plan i) old l new limits p (clean.lost i at)) h)
  local_up actor (IsNode old) label (IsSwitch new) h clean = absurd h
  local_up actor (IsSwitch old) label (IsNode new) h clean = absurd h

  local_down : (actor : ℕ) (old : Actor P) (label : Label Act Token) (new : Actor P) → Local (with_headers plan most) waiting Does actor old label new
      → ((act : Act) (x : Actor P) → Local plan waiting Does actor old (Own act) x → IsClean plan actor x) → Local plan waiting Does actor old label new
  local_down actor (IsNode old) label (IsNode new) (less, h) never = (
    less,
    node_same (with_headers plan most) plan.headers waiting Does actor old label new
        (λ l t p. vcp_down (body_limit plan) (body_limit (with_headers plan most)) (ends plan actor) old.vcp l t new.vcp limits
        (subst (λ e. Passes (body_limit (with_headers plan most)) e old.vcp l t new.vcp) (ends_same plan most actor) p)
        (λ v q. (never (Pass l) (IsNode (record old { vcp = v })) (less, (None, q, refl, refl))).strays)) h,
  )
  local_down actor (IsSwitch old) label (IsSwitch new) (i, at, h) never = (
    i,
    at,
    switch_same (with_headers plan most) plan.headers waiting Does i old label new
        (λ l p. switch_down (body_limit plan) (body_limit (with_headers plan most)) (switch_plan plan i) old l new limits p (λ s q. (never (Pass l) (IsSwitch s) (i, at, q)).lost i at)) h,
  )
  local_down actor (IsNode old) label (IsSwitch new) h never = absurd h
  local_down actor (IsSwitch old) label (IsNode new) h never = absurd h

  module _ (begin : ℕ → P) (acc : IsAccepted plan) where
    run_up : (done : List (Event Act Token)) (mid : Network (Actor P) Token) (es : List (Event Act Token)) (s : Network (Actor P) Token)
        → Run (Local plan waiting Does) (begins plan begin) done mid → Run (Local plan waiting Does) mid es s → Run (Local (with_headers plan most) waiting Does) mid es s
    run_up done mid [] s r d = d
    run_up done mid (e ∷ es) s r (next, step, rest) =
        let now = Run-more (Local plan waiting Does) (begins plan begin) mid next done e r step in
        let clean = all_clean plan waiting Does next (run_headline plan waiting Does begin (done ++ e ∷ []) next acc now) e.actor in (
          next,
          record { local = local_up e.actor (mid.state e.actor) e.label (next.state e.actor) step.local clean; others = step.others; ways = step.ways },
          run_up (done ++ e ∷ []) next es s now rest,
        )

    never_drops : (done : List (Event Act Token)) (mid : Network (Actor P) Token) (actor : ℕ) (act : Act) (x : Actor P)
        → Run (Local plan waiting Does) (begins plan begin) done mid → Local plan waiting Does actor (mid.state actor) (Own act) x → IsClean plan actor x
    never_drops done mid actor act x r h =
        let next : Network (Actor P) Token = record mid { state = put mid.state actor x } in
        let e : Event Act Token = record { actor = actor; label = Own act } in
        let now = Run-more (Local plan waiting Does) (begins plan begin) mid next done e r (own_step (Local plan waiting Does) mid actor act x h) in
        subst (IsClean plan actor) (put-same mid.state actor x) (all_clean plan waiting Does next (run_headline plan waiting Does begin (done ++ e ∷ []) next acc now) actor)

    run_down : (done : List (Event Act Token)) (mid : Network (Actor P) Token) (es : List (Event Act Token)) (s : Network (Actor P) Token)
        → Run (Local plan waiting Does) (begins plan begin) done mid → Run (Local (with_headers plan most) waiting Does) mid es s → Run (Local plan waiting Does) mid es s
    run_down done mid [] s r d = d
    run_down done mid (e ∷ es) s r (next, step, rest) =
        let step : Step (Local plan waiting Does) mid e.actor e.label next = record {
          local = local_down e.actor (mid.state e.actor) e.label (next.state e.actor) step.local (λ act x h. never_drops done mid e.actor act x r h);
          others = step.others;
          ways = step.ways;
        } in
        (next, step, run_down (done ++ e ∷ []) next es s (Run-more (Local plan waiting Does) (begins plan begin) mid next done e r step) rest)

pub more_headers : {P : Type 0} (plan : Plan) (waiting : Waiting) (Does : StepRelation P) (begin : ℕ → P) → MoreHeadersChangeNothing plan waiting Does begin
more_headers {P} plan waiting Does begin most es s acc le =
    let still : Run (Local plan waiting Does) (begins plan begin) [] (begins plan begin) = record { states = λ k. refl; ways = λ w. refl } in (
      λ h. (let r = replayed plan waiting Does (begins plan begin) s es h in
          subst (λ z. HappenAll (with_headers plan most) waiting Does (begins plan begin) z s) r.2
          (happened (with_headers plan most) waiting Does (begins plan begin) s r.0 (run_up plan most waiting Does le begin acc [] (begins plan begin) r.0 s still r.1))),
      λ h. (let r = replayed (with_headers plan most) waiting Does (begins plan begin) s es h in
          subst (λ z. HappenAll plan waiting Does (begins plan begin) z s) r.2
          (happened plan waiting Does (begins plan begin) s r.0 (run_down plan most waiting Does le begin acc [] (begins plan begin) r.0 s still r.1))),
    )
