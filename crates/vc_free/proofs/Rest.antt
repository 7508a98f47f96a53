-- Where no event can happen on a free network, nothing goes on among its processes: each message that was offered and not taken is held
-- where no input has begun, so an input or guard that could begin there would be an event.
use Rattle.std.proofs.Common.{◌≡◌, ◌≢◌, ◌↔◌, ℕ, suc, ◌+◌, ◌<◌, ◌≤◌, Bool, true, false, not, ◌⊎◌, inl, inr, List, [], ◌∷◌, ◌++◌, length, Option, Some, None, refl, sym, ap, subst, ◌∙◌, arith, length-append, ◌==◌, if◌then◌else◌, eq-eqb, ne_eqb, eqb-true}
use Rattle.std.proofs.lemmas.Bool.{cases_eq, cases_lt, or_left, or_right}
use Rattle.std.proofs.lemmas.List.{length-map}
use Rattle.std.proofs.lemmas.List.Elements.{Contains-append_cases}
use Rattle.std.specs.List.{Contains}
use Rattle.vc_machine.proofs.Halves.{last_of, waiting_when_held}
use Rattle.vc_machine.proofs.Labels.{Phase, Calm, Coming, Waiting as WaitingPhase, Returning, PhaseFits, LeftAfter}
use Rattle.vc_machine.proofs.NodeSteps.{piece_for}
use Rattle.vc_machine.specs.Machine.{ChanState}
use Rattle.vc_machine.specs.Paths.{Channel}
use Rattle.vc_machine.specs.Rendezvous.{View, DoesAll, nothing_yet}
use Rattle.vc_network.proofs.Main.{faithful}
use Rattle.vc_network.proofs.Steps.{view_seen}
use Rattle.vc_network.proofs.Wiring.{carried}
use Rattle.vc_network.proofs.Writes.{own_step}
use Rattle.vc_network.specs.Actors.{Network, ActBy}
use Rattle.vc_network.specs.Actors.Label.{Own}
use Rattle.vc_network.specs.EnabledEvents.{IsEnabled}
use Rattle.vc_network.specs.Network.{Act, Proc, Node, Actor, IsNode, Local, Moves, begins, HappenAll, exchanged}
use Rattle.vc_network.specs.Plan as network
use Rattle.vc_network.specs.Plan.{Home, Way, Inside, home, ends, end_of, end_here, virtual_link, input_end, output_end, net_of, net_channel}
use Rattle.vc_network.specs.Processes as moves
use Rattle.vc_network.specs.Views.{vcp_of, inner_of, vcps, source_node, sink_node, view, view_at}
use Rattle.vc_packets.proofs.PieceLists.{has_pieces}
use Rattle.vc_packets.specs.Functions.{put}
use Rattle.vc_packets.specs.Headers.{spelled}
use Rattle.vc_packets.specs.Pieces.{Pieces}
use Rattle.vc_packets.specs.Spellings.{piece_packet}
use Rattle.vc_packets.specs.declared.packet.Packet.{Packet}
use Rattle.vc_process.proofs.Lists.{none}
use Rattle.vc_process.specs.Lawful.{inputs, inputs_all, inputs_guards}
use Rattle.vc_process.specs.Syntax.{Test, Guards, Procs}
use Rattle.vc_process.specs.Syntax as syntax
use Rattle.vc_process.specs.Usage.{◌∪◌, just}
use Rattle.vc_process.specs.Numbering.{written}
use Rattle.vc_process.specs.ProcessStep.{Offers, Wants, Chooses, Stops, Meets}
use Rattle.vc_process.specs.Values.{Store}
use Rattle.vc_process.specs.declared.value_kind.ValueKind.{ValueKind}
use Rattle.vc_switch.specs.Waiting.{Waiting}
use Rattle.vc_tokens.specs.Tokens.{Token}
use Rattle.vc_vcp.specs.Carrier.{End, OutHalf, InHalf, Carrier, set_in, set_out, enqueue}
use Rattle.vc_vcp.specs.Steps as node
use Rattle.vc_occam.specs.First.{own, first_moves}
use Rattle.vc_occam.specs.InUse.{UsesLawfully, inputs_rest, outputs_rest}
use Rattle.vc_occam.specs.Private.MoveSites.{partner}
use Rattle.vc_occam.specs.Remains.{Rest, Done, Finishing, Getting, Then, Turns, Beside, GuardAt, first, later, Step, does_input, does_choose, in_then, in_turns, in_left, in_right}
use Rattle.vc_occam.specs.States as occam
use Rattle.vc_occam.specs.States.{meeting, waiting, output, input, sent_by, bytes_or_none, came}
use Rattle.vc_occam.specs.Traces.{Comm, End as TraceEnd, Open, Trace, cut}
use Rattle.vc_occam.specs.NodeTraces.{so_far}
use Rattle.vc_occam.specs.declared.answer.Answer.{Answer}
use Rattle.vc_occam.specs.declared.answer.Answer.TheVariants.{Nothing, Waits as Waiting_answer, Got}
use Rattle.vc_occam.specs.declared.moves.Move.{Move}
use Rattle.vc_occam.specs.declared.moves.Move.TheVariants as move
use Rattle.vc_free.proofs.Begun.{Path, still, quiet, tells, as_steps, at_once, Outs, no_out, one_out, later_path}
use Rattle.vc_free.proofs.PutOff.{total, total_there, is_out, is_in, Waits, no_wait, input_waits, guard_waits, waits_map, waits_keep, outs_moves, waits_moves, Left, is_left, is_begun, is_chosen}
use Rattle.vc_occam.proofs.CutTraces.{steps_make_traces}
use Rattle.vc_occam.proofs.Counts.{fins}
use Rattle.vc_occam.proofs.Made.{can_be_made, able}
use Rattle.vc_occam.proofs.Meets.{lists_meeting, lists_other}
use Rattle.vc_occam.proofs.SiteMoves.{stop_on, offer_on}
use Rattle.vc_occam.proofs.Insertion.{is_inserted, inserted_keeps}
use Rattle.vc_occam.proofs.Lifting.{goes}
use Rattle.vc_occam.proofs.Preservation.{step_uses}
use Rattle.vc_occam.proofs.StepWaits.{step_waits}
use Rattle.vc_occam.proofs.Sites.{clash}
use Rattle.vc_occam.proofs.UseBounds.{step_in, begin_in}
use Rattle.vc_plan.specs.declared.plan.Plan.{Plan}
use Rattle.vc_accepted.specs.Begin.{node_plan, begin_of}
use Rattle.vc_accepted.specs.NetworkOf.{network_of, home_in}
use Rattle.vc_accepted.specs.OneList.{by, on}
use Rattle.vc_accepted.specs.Process.{Process, does}
use Rattle.vc_free.proofs.NodePaths.{all_run, SoFar, Ready, Stored, bit, under, at, at_same}
use Rattle.vc_accepted.proofs.Taken.{runs_too}
use Rattle.vc_free.proofs.Fins.{rewrites_fins, as_later, all_below, each_same, shown_ends}
use Rattle.vc_free.proofs.LinearizesWith.{linearizes_with}
use Rattle.vc_free.specs.Delivery.{HasDelivered, Delivers}
use Rattle.vc_free.proofs.RestKnown.{OutOf, out_way, out_inside, InTo, in_way, in_inside, Known}
use Rattle.vc_accepted.specs.Alone.{GoesAlone}
use Rattle.vc_free.specs.Rest.{StepsAtOnce, TakesFrom, Begun, nothing_begun, output_begun, input_begun, StandsStill}
use Rattle.vc_placement.proofs.Completions.{Rewrites}
use Rattle.vc_placement.specs.Linearization.{Atomic, all_comms, completed, IsLinearization, StaysEnded}
use Rattle.vc_placement.specs.Placement.{CanPerform, IsLinearizationOf}

-- ---- channels on virtual links

busy_fits : (ch : Channel) (f : Phase) (x : ChanState) (n : ℕ) → PhaseFits ch f x n → x.unacked ≢ [] → length x.offered ≡ suc x.finished
busy_fits ch Calm x n h ne = let g = h.2 in absurd (ne g.unacked)
busy_fits ch Coming x n h ne = let g = h.2 in let a = ap length g.offered in let b = length-append x.taken (g.message ∷ []) in let c = g.count in omega arith
busy_fits ch WaitingPhase x n h ne = let g = h.3 in let a = ap length g.offered in let b = length-append x.taken (g.message ∷ []) in let c = g.count in omega arith
busy_fits ch Returning x n h ne = let g = h.2 in by_left g.later g.left
  where
    by_left : (later : List (List ℕ)) → LeftAfter x later → length x.offered ≡ suc x.finished
    by_left [] (a, b, d) = let e = ap length b in omega arith
    by_left (y ∷ ys) (m, a, b, d, e) = let f = ap length d in let g = length-append x.taken (m ∷ []) in omega arith

pub longer : (xs : List (List ℕ)) (x : List ℕ) → xs ≡ xs ++ x ∷ [] → ⊥
longer xs x e = let a = ap length e in let b = length-append xs (x ∷ []) in omega arith

stored_fits : (ch : Channel) (f : Phase) (x : ChanState) (n : ℕ) → PhaseFits ch f x n → x.taken ≡ x.offered → x.finished ≡ length x.taken → x.stored ≡ []
stored_fits ch Calm x n h s c = let g = h.2 in g.stored
stored_fits ch Coming x n h s c = let g = h.2 in absurd (longer x.taken g.message (s ∙ g.offered))
stored_fits ch WaitingPhase x n h s c = let g = h.3 in absurd (longer x.taken g.message (s ∙ g.offered))
stored_fits ch Returning x n h s c = let g = h.2 in absurd (by_left g.later g.left)
  where
    by_left : (later : List (List ℕ)) → LeftAfter x later → ⊥
    by_left [] (a, b, d) = omega arith
    by_left (y ∷ ys) (m, a, b, d, e) = longer x.taken m (s ∙ d)

-- ---- the ends of channels

here_is : (n : ℕ) (e : network.End) (x : End) → end_here n e ≡ Some x → e.node ≡ n
here_is n e x h = by_test (e.node == n) refl h
  where
    by_test : (b : Bool) → (e.node == n) ≡ b → (if b then Some (record { link = e.link; block = e.block; route = e.route }) else None) ≡ Some x → e.node ≡ n
    by_test true t h = eqb-true e.node n t
    by_test false t h = absurd (cc)

pub output_here : (plan : network.Plan) (n d : ℕ) (x : End) → (ends plan n).output d ≡ Some x → (v : ℕ) × (ab : Bool) × (home plan d ≡ Way v ab) × (source_node plan (Way v ab) ≡ n)
output_here plan n d x h = by_home (home plan d) refl h
  where
    by_home : (o : Home) → home plan d ≡ o → output_end plan n o ≡ Some x → (v : ℕ) × (ab : Bool) × (home plan d ≡ Way v ab) × (source_node plan (Way v ab) ≡ n)
    by_home (Way v ab) e h = (v, ab, e, here_is n (end_of (virtual_link plan v) ab) x h)
    by_home (Inside m) e h = absurd (cc)

pub input_here : (plan : network.Plan) (n d : ℕ) (x : End) → (ends plan n).input d ≡ Some x → (v : ℕ) × (ab : Bool) × (home plan d ≡ Way v ab) × (sink_node plan (Way v ab) ≡ n)
input_here plan n d x h = by_home (home plan d) refl h
  where
    by_home : (o : Home) → home plan d ≡ o → input_end plan n o ≡ Some x → (v : ℕ) × (ab : Bool) × (home plan d ≡ Way v ab) × (sink_node plan (Way v ab) ≡ n)
    by_home (Way v ab) e h = (v, ab, e, here_is n (end_of (virtual_link plan v) (not ab)) x h)
    by_home (Inside m) e h = absurd (cc)

abbrev node_end : network.End → End
node_end e = record { link = e.link; block = e.block; route = e.route }

end_there : (e : network.End) → end_here e.node e ≡ Some (node_end e)
end_there e = ap (λ b. if b then Some (node_end e) else None) (eq-eqb e.node e.node refl)

-- ---- lawful processes: what can stop a channel, no input waits on

total_append : (f : occam.Waiting → ℕ) (ws vs : List occam.Waiting) → total f (ws ++ vs) ≡ total f ws + total f vs
total_append f [] vs = omega arith
total_append f (w ∷ ws) vs = let e = total_append f ws vs in omega arith

waits_use : (c : ℕ) (r : Rest) → total (is_in c) (waiting r) ≡ 0 ⊎ inputs_rest r c ≡ true
waits_use c (Finishing s d) = inl (omega arith)
waits_use c (Getting s d v) = elim (cases_eq d c) [
  | inl e ↦ inr (eq-eqb c d (sym e))
  | inr ne ↦ inl (let z : is_in c (input s d) ≡ 0 = ap (λ b. if b then 1 else 0) (ne_eqb d c ne) in omega arith)
]
waits_use c (Then r ps) = elim (waits_use c r) [ inl z ↦ inl z | inr u ↦ inr (or_left (inputs_rest r c) _ u) ]
waits_use c (Turns r v b n p) = elim (waits_use c r) [ inl z ↦ inl z | inr u ↦ inr (or_left (inputs_rest r c) _ u) ]
waits_use c (Beside mine r q) = elim (waits_use c r) [
  | inl z ↦ elim (waits_use c q) [
    | inl y ↦ inl (let a = total_append (is_in c) (waiting r) (waiting q) in omega arith)
    | inr u ↦ inr (or_right (inputs_rest r c) (inputs_rest q c) u)
  ]
  | inr u ↦ inr (or_left (inputs_rest r c) (inputs_rest q c) u)
]
waits_use c r = inl refl

stop_use : (r : Rest) (e : Store) (i c : ℕ) → Contains (own r e) (move.Stopch i c) → inputs_rest r c ≡ true
stop_use r e i c k = let x = able r e (move.Stopch i c) Nothing k in stop_on x.3

stop_alone : (c : ℕ) (r : Rest) (e : Store) (i : ℕ) → UsesLawfully r → Contains (own r e) (move.Stopch i c) → total (is_in c) (waiting r) ≡ 0
stop_alone c (Then r ps) e i u k = stop_alone c r e i u.0 k
stop_alone c (Turns r v b n p) e i u k = stop_alone c r e i u.0 k
stop_alone c (Beside mine r q) e i u k = elim (Contains-append_cases (own r e) (own q e) (move.Stopch i c) k) [
  | inl h ↦ elim (waits_use c q) [
    | inl z ↦ (let a = stop_alone c r e i u.1 h in let b = total_append (is_in c) (waiting r) (waiting q) in omega arith)
    | inr y ↦ absurd (let f = u.0.inputs c (stop_use r e i c h) in clash y f)
  ]
  | inr h ↦ elim (waits_use c r) [
    | inl z ↦ (let a = stop_alone c q e i u.2 h in let b = total_append (is_in c) (waiting r) (waiting q) in omega arith)
    | inr y ↦ absurd (let f = u.0.inputs c y in clash (stop_use q e i c h) f)
  ]
]
stop_alone c (Getting s d v) e i u k = absurd (none (move.Stopch i c) k)
stop_alone c (Finishing s d) e i u k = absurd (none (move.Stopch i c) k)
stop_alone c r e i u k = refl

-- ---- what is used stays within what was used at first

path_inputs : {s t : occam.State} {ks : List Comm} (c : ℕ) → Path s ks t → inputs_rest t.rest c ≡ true → inputs_rest s.rest c ≡ true
path_inputs c still h = h
path_inputs c (quiet st r) h = (step_in st).input c (path_inputs c r h)
path_inputs c (tells w st r) h = (step_in st).input c (path_inputs c r h)

path_outputs : {s t : occam.State} {ks : List Comm} (c : ℕ) → Path s ks t → outputs_rest t.rest c ≡ true → outputs_rest s.rest c ≡ true
path_outputs c still h = h
path_outputs c (quiet st r) h = (step_in st).output c (path_outputs c r h)
path_outputs c (tells w st r) h = (step_in st).output c (path_outputs c r h)

waits_inputs : {G : ℕ → Type 0} {s t : occam.State} (c : ℕ) → Waits G s t → inputs_rest t.rest c ≡ true → inputs_rest s.rest c ≡ true
waits_inputs c no_wait h = h
waits_inputs c (input_waits st r) h = (step_in st).input c (waits_inputs c r h)
waits_inputs c (guard_waits x st r) h = (step_in st).input c (waits_inputs c r h)

waits_uses : {G : ℕ → Type 0} {s t : occam.State} → Waits G s t → UsesLawfully s.rest → UsesLawfully t.rest
waits_uses no_wait l = l
waits_uses (input_waits st r) l = waits_uses r (step_uses st l)
waits_uses (guard_waits x st r) l = waits_uses r (step_uses st l)

waits_done : {G : ℕ → Type 0} {s t : occam.State} → Waits G s t → t.rest ≡ Done → s ≡ t
waits_done no_wait e = refl
waits_done (input_waits {i = i} {c = c} st r) e = absurd (none (input i c) (subst (λ z. Contains (waiting z) (input i c)) e (waits_keep r (input i c) (is_inserted (step_waits st)))))
waits_done (guard_waits {i = i} {c = c} x st r) e = absurd (none (input i c) (subst (λ z. Contains (waiting z) (input i c)) e (waits_keep r (input i c) (is_inserted (step_waits st)))))

begun : {s t u : occam.State} → Outs s t → Waits (λ c. ⊥) t u → Begun s u
begun (one_out st h) w = output_begun st (begun h w)
begun no_out (input_waits st w) = input_begun st (begun no_out w)
begun no_out (guard_waits x st w) = absurd x
begun no_out no_wait = nothing_begun

begun_keep : {s t : occam.State} → Begun s t → (w : occam.Waiting) → Contains (waiting s.rest) w → Contains (waiting t.rest) w
begun_keep nothing_begun w k = k
begun_keep (output_begun st h) w k = begun_keep h w (inserted_keeps (step_waits st) w k)
begun_keep (input_begun st h) w k = begun_keep h w (inserted_keeps (step_waits st) w k)

ended_before : {s t : occam.State} → Begun s t → t.rest ≡ Done → s.rest ≡ Done
ended_before nothing_begun e = e
ended_before (output_begun {i = i} {c = c} st h) e = absurd (none (output i c) (subst (λ z. Contains (waiting z) (output i c)) e (begun_keep h (output i c) (is_inserted (step_waits st)))))
ended_before (input_begun {i = i} {c = c} st h) e = absurd (none (input i c) (subst (λ z. Contains (waiting z) (input i c)) e (begun_keep h (input i c) (is_inserted (step_waits st)))))

ended_after : {s t : occam.State} → Begun s t → s.rest ≡ Done → t.rest ≡ Done
ended_after nothing_begun e = e
ended_after (output_begun st h) e = absurd (goes st e)
ended_after (input_begun st h) e = absurd (goes st e)

-- ---- what an input or guard takes from

want_on : {r q : Rest} {e f : Store} {i c : ℕ} {m : List ℕ} {ks : List Comm} → Step r e i (meeting None c m) ks q f → inputs_rest r c ≡ true
want_on (does_input {c = c} x) = eq-eqb c c refl
want_on {c = c} (in_then {r = r} {ps = ps} st) = or_left (inputs_rest r c) (inputs_all ps c) (want_on st)
want_on {c = c} (in_turns {r = r} {p = p} st) = or_left (inputs_rest r c) (inputs p c) (want_on st)
want_on {c = c} (in_left {r = r} {q = q} st) = or_left (inputs_rest r c) (inputs_rest q c) (want_on st)
want_on {c = c} (in_right {r = r} {q = q} st) = or_right (inputs_rest r c) (inputs_rest q c) (want_on st)

guard_on : {gs : Guards} {k : ℕ} {b : Test} {c v : ℕ} {p : syntax.Proc} → GuardAt gs k b c v p → inputs_guards gs c ≡ true
guard_on (first {c = c} {p = p} {gs = gs}) = or_left ((just c ∪ inputs p) c) (inputs_guards gs c) (or_left (just c c) (inputs p c) (eq-eqb c c refl))
guard_on (later {c = d} {c' = c} {p = p} {gs = gs} at) = or_right ((just d ∪ inputs p) c) (inputs_guards gs c) (guard_on at)

choose_on : {r q : Rest} {e f : Store} {i k c : ℕ} {m : List ℕ} {ks : List Comm} → Step r e i (meeting (Some k) c m) ks q f → inputs_rest r c ≡ true
choose_on (does_choose decided at holds x) = guard_on at
choose_on {c = c} (in_then {r = r} {ps = ps} st) = or_left (inputs_rest r c) (inputs_all ps c) (choose_on st)
choose_on {c = c} (in_turns {r = r} {p = p} st) = or_left (inputs_rest r c) (inputs p c) (choose_on st)
choose_on {c = c} (in_left {r = r} {q = q} st) = or_left (inputs_rest r c) (inputs_rest q c) (choose_on st)
choose_on {c = c} (in_right {r = r} {q = q} st) = or_right (inputs_rest r c) (inputs_rest q c) (choose_on st)

-- ---- a network at rest

module _ (p : Plan) (waiting_rule : Waiting) (kind_on : ℕ → ValueKind) (known : Known p kind_on) (s : Network (Actor Process) Token) (ks : List (ℕ × Comm)) (x : SoFar p waiting_rule known.ok kind_on known.good s ks) (d : HasDelivered p waiting_rule s)
    (still_there : (e : ActBy Act) → IsEnabled (network_of p) waiting_rule does s e → ⊥) where
  abbrev N : network.Plan
  N = network_of p

  abbrev count : ℕ
  count = length p.nodes

  abbrev node_at : (n : ℕ) → n < count → Node Process
  node_at n l = (x.nodes n l).0

  abbrev is_node : (n : ℕ) (l : n < count) → s.state n ≡ IsNode (node_at n l)
  is_node n l = (x.nodes n l).1

  abbrev ready : (n : ℕ) (l : n < count) → Ready p kind_on n (node_at n l) (by n ks)
  ready n l = (x.nodes n l).2

  abbrev now : (n : ℕ) → n < count → occam.State
  now n l = (node_at n l).process.state

  -- the halves of a channel are those of its nodes
  out_half : (n c v : ℕ) (ab : Bool) (l : n < count) → home N c ≡ Way v ab → source_node N (Way v ab) ≡ n → (vcps s (source_node N (home N c))).carrier.out c ≡ (node_at n l).vcp.carrier.out c
  out_half n c v ab l h k = ap (λ z. (vcps s z).carrier.out c) (ap (source_node N) h ∙ k) ∙ ap (λ z. (vcp_of z).carrier.out c) (is_node n l)

  in_half_is : (n c v : ℕ) (ab : Bool) (l : n < count) → home N c ≡ Way v ab → sink_node N (Way v ab) ≡ n → (vcps s (sink_node N (home N c))).carrier.into c ≡ (node_at n l).vcp.carrier.into c
  in_half_is n c v ab l h k = ap (λ z. (vcps s z).carrier.into c) (ap (sink_node N) h ∙ k) ∙ ap (λ z. (vcp_of z).carrier.into c) (is_node n l)

  less : (c v : ℕ) (ab : Bool) → home N c ≡ Way v ab → c < length p.channels
  less c v ab h = subst (λ z. c < z) (length-map p.channels home_in) (carried N c v ab h).0

  module _ (c v : ℕ) (ab : Bool) (h : home N c ≡ Way v ab) where
    abbrev C : ChanState
    C = x.tokens.nodes.chans c

    phase : (n : ℕ) × PhaseFits ((net_of N).chan c) (x.good.sound.inv.phases c) C n
    phase = (_, (x.good.sound.inv.chans c (carried N c v ab h)).phase)

    seen : view N s c ≡ record { offered = C.offered; taken = C.taken; finished = C.finished; stopped = C.stopped }
    seen = view_seen N s x.tokens c x.good.shows (carried N c v ab h).1

    chan_out : C.unacked ≡ ((vcps s (source_node N (home N c))).carrier.out c).unacked
    chan_out = ap (λ (z : ChanState). z.unacked) (x.good.shows.nodes.chan c)

    busy : ((vcps s (source_node N (home N c))).carrier.out c).unacked ≢ [] → length (view N s c).offered ≡ suc (view N s c).finished
    busy ne = subst (λ (z : View). length z.offered ≡ suc z.finished) (sym seen) (busy_fits ((net_of N).chan c) (x.good.sound.inv.phases c) C phase.0 phase.1 (λ e. ne (sym chan_out ∙ e)))

    even : (view N s c).finished ≡ length (view N s c).taken
    even = elim (cases_lt (view N s c).finished (length (view N s c).offered)) [
      | inl more ↦ (let f = faithful N s x.tokens x.good c (carried N c v ab h).0 in
          let one = f.one_output in
          let u = d.unasked c v ab h (less c v ab h) (omega arith) in
          let w = waiting_when_held ((net_of N).chan c) (x.good.sound.inv.phases c) C phase.0 u.packet phase.1 (ap (λ (z : ChanState). z.held) (x.good.shows.nodes.chan c) ∙ u.held) in
          let g = w.2 in
          subst (λ (z : View). z.finished ≡ length z.taken) (sym seen) g.count)
      | inr all ↦ (let f = faithful N s x.tokens x.good c (carried N c v ab h).0 in
          let few = f.finished in
          let rest = f.in_order in
          let len = ap length rest.1 in
          let app = length-append (view N s c).taken rest.0 in
          omega arith)
    ]

    -- where an input waits nothing of a message is stored
    nothing_stored : ((vcps s (sink_node N (home N c))).carrier.into c).wants ≡ true → ((vcps s (sink_node N (home N c))).carrier.into c).stored ≡ []
    nothing_stored wants =
        let t = d.asked c v ab h (less c v ab h) wants in
        sym (ap (λ (z : ChanState). z.stored) (x.good.shows.nodes.chan c))
        ∙ stored_fits ((net_of N).chan c) (x.good.sound.inv.phases c) C phase.0 phase.1 (subst (λ (z : View). z.taken ≡ z.offered) seen t.taken)
        (subst (λ (z : View). z.finished ≡ length z.taken) seen (t.finished ∙ ap length (sym t.taken)))

  all_even : (c : ℕ) → (view N s c).finished ≡ length (view N s c).taken
  all_even c = by_home (home N c) refl
    where
      by_home : (h : Home) → home N c ≡ h → (view N s c).finished ≡ length (view N s c).taken
      by_home (Way v ab) e = even c v ab e
      by_home (Inside n) e =
          let f = x.good.inner n c in
          subst (λ (z : View). z.finished ≡ length z.taken) (sym (ap (view_at N s c) e)) (f.finished ∙ ap length (sym f.taken))

  -- ---- what waits

  one_bit : (b : Bool) → 1 ≤ bit b → b ≡ true
  one_bit true h = refl
  one_bit false h = absurd (omega arith)

  one_under : (xs : List (List ℕ)) → 1 ≤ under xs → xs ≢ []
  one_under xs h e = let z = ap under e in omega arith

  -- an input that waits is asked for by its half, which is at the channel's end
  record Asks (n : ℕ) (l : n < count) (c : ℕ) : Type 0 where
    vlink : ℕ
    from_a : Bool
    at_home : home N c ≡ Way vlink from_a
    sink : sink_node N (Way vlink from_a) ≡ n
    wants : ((node_at n l).vcp.carrier.into c).wants ≡ true

  asks : (n : ℕ) (l : n < count) (c i : ℕ) → Contains (waiting (now n l).rest) (input i c) → Asks n l c
  asks n l c i k =
      let r = ready n l in
      let t = total_there (is_in c) (waiting (now n l).rest) (input i c) k in
      let o : is_in c (input i c) ≡ 1 = at_same c in
      let m = r.matches.ins c in
      let w = one_bit ((node_at n l).vcp.carrier.into c).wants (omega arith) in
      let e = r.in_home c (ap bit w) in
      let z = input_here N n c e.0 e.1 in
      record { vlink = z.0; from_a = z.1; at_home = z.2; sink = z.3; wants = w }

  record Sends (n : ℕ) (l : n < count) (c : ℕ) : Type 0 where
    vlink : ℕ
    from_a : Bool
    at_home : home N c ≡ Way vlink from_a
    source : source_node N (Way vlink from_a) ≡ n
    unacked : ((node_at n l).vcp.carrier.out c).unacked ≢ []

  one_exactly : (xs : List (List ℕ)) → xs ≢ [] → under xs ≡ 1
  one_exactly [] h = absurd (h refl)
  one_exactly (y ∷ ys) h = refl

  busy_sends : (n : ℕ) (l : n < count) (c : ℕ) → ((node_at n l).vcp.carrier.out c).unacked ≢ [] → Sends n l c
  busy_sends n l c ne =
      let e = (ready n l).out_home c (one_exactly ((node_at n l).vcp.carrier.out c).unacked ne) in
      let z = output_here N n c e.0 e.1 in
      record { vlink = z.0; from_a = z.1; at_home = z.2; source = z.3; unacked = ne }

  sends : (n : ℕ) (l : n < count) (c i : ℕ) → Contains (waiting (now n l).rest) (output i c) → Sends n l c
  sends n l c i k =
      let t = total_there (is_out c) (waiting (now n l).rest) (output i c) k in
      let o : is_out c (output i c) ≡ 1 = at_same c in
      let m = (ready n l).matches.outs c in
      busy_sends n l c (one_under ((node_at n l).vcp.carrier.out c).unacked (omega arith))

  -- no guard has taken a part of a message
  none_stored : (n : ℕ) (l : n < count) (c i : ℕ) → Stored (node_at n l).vcp.carrier c → Contains (waiting (now n l).rest) (input i c) → ⊥
  none_stored n l c i some k =
      let a = asks n l c i k in
      let e = in_half_is n c a.vlink a.from_a l a.at_home a.sink in
      some (ap (λ (z : InHalf). z.stored) (sym e) ∙ nothing_stored c a.vlink a.from_a a.at_home (ap (λ (z : InHalf). z.wants) e ∙ a.wants))

  no_guards : (n : ℕ) (l : n < count) → Waits (λ c. ⊥) (ready n l).hat (now n l)
  no_guards n l = waits_map (ready n l).waits (λ c some. by_wants c some ((node_at n l).vcp.carrier.into c).wants refl)
    where
      by_wants : (c : ℕ) → Stored (node_at n l).vcp.carrier c → (b : Bool) → ((node_at n l).vcp.carrier.into c).wants ≡ b → total (is_in c) (waiting (now n l).rest) ≡ 0 ⊎ ⊥
      by_wants c some false w = inl ((ready n l).matches.ins c ∙ ap bit w)
      by_wants c some true w =
          let e = (ready n l).in_home c (ap bit w) in
          let z = input_here N n c e.0 e.1 in
          let q = in_half_is n c z.0 z.1 l z.2 z.3 in
          absurd (some (ap (λ (y : InHalf). y.stored) (sym q) ∙ nothing_stored c z.0 z.1 z.2 (ap (λ (y : InHalf). y.wants) q ∙ w)))

  -- ---- events that would be there

  no_event : (n : ℕ) (l : n < count) (m : moves.Move) (b : Node Process) → Moves N does n (node_at n l) m b → ⊥
  no_event n l m b h =
      let new : Network (Actor Process) Token = record s { state = put s.state n (IsNode b) } in
      still_there (record { actor = n; act = Proc m })
      (new, (Own (Proc m), refl, own_step (Local N waiting_rule does) s n (Proc m) (IsNode b) (subst (λ z. Local N waiting_rule does n z (Own (Proc m)) (IsNode b)) (sym (is_node n l)) (l, h))))

  abbrev with_state : Process → occam.State → Process
  with_state q t = record { inside = q.inside; state = t }

  not_outside : (b : Bool) → b ≡ false → not b ≡ true
  not_outside true e = absurd (cc)
  not_outside false e = refl

  no_quiet : (n : ℕ) (l : n < count) (i : ℕ) → Contains (own (now n l).rest (now n l).store) (move.Quiet i) → ⊥
  no_quiet n l i k =
      let a = node_at n l in
      let q = a.process in
      let fm = lists_other q.inside q.state.rest q.state.store (move.Quiet i) refl k in
      let r = can_be_made q.state q.inside (move.Quiet i) Nothing (ready n l).sites fm refl in
      no_event n l (moves.Quiet i) (record { vcp = a.vcp; process = with_state q r.1; inner = a.inner }) ((fm, record { comms = r.0; does = r.2; inside = refl }), refl, refl)

  now_lawful : (n : ℕ) (l : n < count) → UsesLawfully (now n l).rest
  now_lawful n l = (ready n l).good.lawful

  inputs_at : (n : ℕ) (l : n < count) (c : ℕ) → inputs_rest (now n l).rest c ≡ true → InTo N n c
  inputs_at n l c h = known.ins n c l ((begin_in (written (node_plan p n).process)).input c (path_inputs c (ready n l).path (waits_inputs c (ready n l).waits h)))

  module _ (n : ℕ) (l : n < count) (i c : ℕ) (k : Contains (own (now n l).rest (now n l).store) (move.Stopch i c)) where
    abbrev a2 : Node Process
    a2 = node_at n l

    abbrev q2 : Process
    q2 = a2.process

    fm2 : Contains (first_moves q2.inside q2.state.rest q2.state.store) (move.Stopch i c)
    fm2 = lists_other q2.inside q2.state.rest q2.state.store (move.Stopch i c) refl k

    r2 : (ks : List Comm) × (t : occam.State) × occam.Does q2.state (Stops i c) ks t
    r2 = can_be_made q2.state q2.inside (move.Stopch i c) Nothing (ready n l).sites fm2 refl

    unasked2 : (b : Bool) → (a2.vcp.carrier.into c).wants ≡ b → b ≡ false
    unasked2 false e = refl
    unasked2 true e = absurd (let m = (ready n l).matches.ins c in let z = ap bit e in let y = stop_alone c q2.state.rest q2.state.store i (now_lawful n l) k in omega arith)

    by_home2 : InTo N n c → ⊥
    by_home2 (in_way v ab h g) =
        let end = node_end (end_of (virtual_link N v) (not ab)) in
        let half : InHalf = record (a2.vcp.carrier.into c) { stopped = true } in
        let idle : (a2.vcp.carrier.into c).wants ≡ false = unasked2 (a2.vcp.carrier.into c).wants refl in
        let here : (ends N n).input c ≡ Some end = subst (λ z. (ends N z).input c ≡ Some end) g (ap (input_end N (sink_node N (Way v ab))) h ∙ end_there (end_of (virtual_link N v) (not ab))) in
        no_event n l (moves.Stopch i c) (record { vcp = record { carrier = set_in a2.vcp.carrier c half; link = a2.vcp.link }; process = with_state q2 r2.1; inner = a2.inner })
        ((fm2, record { comms = r2.0; does = r2.2; inside = refl }), inl (record { end = end; here = here; idle = idle; after = refl }, record { link = refl; inner = refl }))
    by_home2 (in_inside h) =
        no_event n l (moves.Stopch i c) (record { vcp = a2.vcp; process = with_state q2 r2.1; inner = put a2.inner c (record (a2.inner c) { stopped = true }) })
        ((fm2, record { comms = r2.0; does = r2.2; inside = refl }), inr (h, refl, refl))

    pub no_stop : ⊥
    no_stop = by_home2 (inputs_at n l c (stop_use (now n l).rest (now n l).store i c k))

  is_outside : (n : ℕ) (l : n < count) (c v : ℕ) (ab : Bool) → home N c ≡ Way v ab → (node_at n l).process.inside c ≡ false
  is_outside n l c v ab h = ap (λ f. f c) (ready n l).inside ∙ known.outside n c v ab h

  -- an output that can begin over a virtual link, where none is under way
  module _ (n : ℕ) (l : n < count) (i c v : ℕ) (ab : Bool) (h : home N c ≡ Way v ab) (g : source_node N (Way v ab) ≡ n) (idle : ((node_at n l).vcp.carrier.out c).unacked ≡ []) (k : Contains (own (now n l).rest (now n l).store) (move.Offer i c)) where
    abbrev a3 : Node Process
    a3 = node_at n l

    abbrev q3 : Process
    q3 = a3.process

    fm3 : Contains (first_moves q3.inside q3.state.rest q3.state.store) (move.Offer i c)
    fm3 = lists_other q3.inside q3.state.rest q3.state.store (move.Offer i c) (not_outside (q3.inside c) (is_outside n l c v ab h)) k

    abbrev m3 : List ℕ
    m3 = bytes_or_none (sent_by q3.state (move.Offer i c))

    r3 : (ks : List Comm) × (t : occam.State) × occam.Does q3.state (Offers i c m3) ks t
    r3 = can_be_made q3.state q3.inside (move.Offer i c) Nothing (ready n l).sites fm3 refl

    by_pieces3 : (cs : List (List ℕ)) → Pieces m3 cs → ⊥
    by_pieces3 [] ps = absurd ps.cut
    by_pieces3 (head ∷ behind) ps =
        let end = node_end (end_of (virtual_link N v) ab) in
        let half : OutHalf = record (a3.vcp.carrier.out c) { unacked = head ∷ behind; offered = (a3.vcp.carrier.out c).offered ++ m3 ∷ [] } in
        let carrier : Carrier = enqueue (set_out a3.vcp.carrier c half) end.link (piece_packet end.route (head ∷ behind)) in
        let here : (ends N n).output c ≡ Some end = subst (λ z. (ends N z).output c ≡ Some end) g (ap (output_end N (source_node N (Way v ab))) h ∙ end_there (end_of (virtual_link N v) ab)) in
        no_event n l (moves.Offer i c) (record { vcp = record { carrier = carrier; link = a3.vcp.link }; process = with_state q3 r3.1; inner = a3.inner })
        (m3, (fm3, record { comms = r3.0; does = r3.2; inside = refl }), record { end = end; now = head; later = behind; here = here; idle = idle; pieces = ps; after = refl }, record { link = refl; inner = refl })

    pub no_offer : ⊥
    no_offer = by_pieces3 (has_pieces m3).0 (has_pieces m3).1

  -- an input or guard where a message is held and no input has begun
  module _ (n : ℕ) (l : n < count) (c v : ℕ) (ab : Bool) (h : home N c ≡ Way v ab) (g : sink_node N (Way v ab) ≡ n) (unfinished : length (view N s c).offered ≡ suc (view N s c).finished) (going : (view N s c).stopped ≡ false) where
    abbrev a1 : Node Process
    a1 = node_at n l

    abbrev q1 : Process
    q1 = a1.process

    abbrev old : InHalf
    old = a1.vcp.carrier.into c

    abbrev end1 : End
    end1 = node_end (end_of (virtual_link N v) (not ab))

    into_is : (vcps s (sink_node N (home N c))).carrier.into c ≡ old
    into_is = in_half_is n c v ab l h g

    is_idle : old.wants ≡ false
    is_idle = sym (ap (λ (z : InHalf). z.wants) into_is) ∙ (d.unasked c v ab h (less c v ab h) unfinished).unasked

    is_going : old.stopped ≡ false
    is_going = sym (ap (λ (z : InHalf). z.stopped) into_is) ∙ ap (λ z. ((vcps s (sink_node N z)).carrier.into c).stopped) h ∙ ap (λ (z : View). z.stopped) (sym (ap (view_at N s c) h)) ∙ going

    record Piece : Type 0 where
      packet : Packet
      load : List ℕ
      last : Bool
      held : old.held ≡ Some packet
      piece : node.IsPieceFor end1 packet load last

    piece : Piece
    piece =
        let u = d.unasked c v ab h (less c v ab h) unfinished in
        let inv = x.good.sound.inv in
        let chan = x.good.shows.nodes.chan c in
        let real = carried N c v ab h in
        let w = waiting_when_held ((net_of N).chan c) (inv.phases c) (x.tokens.nodes.chans c) _ u.packet (inv.chans c real).phase (ap (λ (z : ChanState). z.held) chan ∙ u.held) in
        let f = w.2 in
        let for_net = piece_for (net_of N) ((net_of N).chan c).to.node u.packet c f.now f.later (x.tokens.nodes.chans c).unacked real refl f.unacked f.cut w.1 in
        let block : ((net_of N).chan c).to.block ≡ end1.block = ap (λ z. (net_channel N z).to.block) h in
        record {
          packet = u.packet;
          load = f.now;
          last = last_of f.later;
          held = subst (λ (z : InHalf). z.held ≡ Some u.packet) into_is u.held;
          piece = record { body = for_net.body ∙ ap (λ z. spelled (z ∷ []) ++ f.now) block; kind = for_net.kind };
        }

    is_open : node.IsOpen (ends N n) a1.vcp.carrier c end1
    is_open = record {
      here = subst (λ z. (ends N z).input c ≡ Some end1) g (ap (input_end N (sink_node N (Way v ab))) h ∙ end_there (end_of (virtual_link N v) (not ab)));
      idle = is_idle;
      not_stopped = is_going;
    }

    abbrev answer_of : Option (List ℕ) → Answer
    answer_of (Some m) = Got m
    answer_of None = Waiting_answer

    came_is : (o : Option (List ℕ)) → came (answer_of o) ≡ o
    came_is (Some m) = refl
    came_is None = refl

    not_nothing : (o : Option (List ℕ)) → answer_of o ≢ Nothing
    not_nothing (Some m) e = cc
    not_nothing None e = cc

    abbrev answer : Option (List ℕ)
    answer = node.message old piece.load piece.last

    abbrev fetched : node.Fetches a1.vcp.carrier c end1 answer (node.accept a1.vcp.carrier c end1 piece.load piece.last)
    fetched = record { packet = piece.packet; load = piece.load; last = piece.last; held = piece.held; piece = piece.piece; answer_is = refl; after = refl }

    no_input : (j : ℕ) → Contains (own (now n l).rest (now n l).store) (move.Want j c) → ⊥
    no_input j k =
        let fm = lists_other q1.inside q1.state.rest q1.state.store (move.Want j c) (not_outside (q1.inside c) (is_outside n l c v ab h)) k in
        let r = can_be_made q1.state q1.inside (move.Want j c) (answer_of answer) (ready n l).sites fm (not_nothing answer) in
        let did = subst (λ o. occam.Does q1.state (Wants j c o) r.0 r.1) (came_is answer) r.2 in
        no_event n l (moves.Want j c) (record { vcp = record { carrier = node.accept a1.vcp.carrier c end1 piece.load piece.last; link = a1.vcp.link }; process = with_state q1 r.1; inner = a1.inner })
        (answer, end1, (fm, record { comms = r.0; does = did; inside = refl }), is_open, node.fetches fetched, record { link = refl; inner = refl })

    no_guard : (j b : ℕ) → Contains (own (now n l).rest (now n l).store) (move.Choose j b c) → ⊥
    no_guard j b k =
        let fm = lists_other q1.inside q1.state.rest q1.state.store (move.Choose j b c) (not_outside (q1.inside c) (is_outside n l c v ab h)) k in
        let r = can_be_made q1.state q1.inside (move.Choose j b c) (answer_of answer) (ready n l).sites fm (not_nothing answer) in
        let did = subst (λ o. occam.Does q1.state (Chooses j b c o) r.0 r.1) (came_is answer) r.2 in
        no_event n l (moves.Choose j b c) (record { vcp = record { carrier = node.accept a1.vcp.carrier c end1 piece.load piece.last; link = a1.vcp.link }; process = with_state q1 r.1; inner = a1.inner })
        (answer, end1, (fm, record { comms = r.0; does = did; inside = refl }), is_open, fetched, record { link = refl; inner = refl })

  -- a meeting inside a node
  module _ (n : ℕ) (l : n < count) (i j c : ℕ) (b : Option ℕ) (h : home N c ≡ Inside n) (going : (view N s c).stopped ≡ false) (k1 : Contains (own (now n l).rest (now n l).store) (move.Offer i c)) (k2 : Contains (own (now n l).rest (now n l).store) (partner j b c)) where
    abbrev a4 : Node Process
    a4 = node_at n l

    abbrev q4 : Process
    q4 = a4.process

    fm4 : Contains (first_moves q4.inside q4.state.rest q4.state.store) (move.Inner i j b c)
    fm4 = lists_meeting q4.inside q4.state.rest q4.state.store i j b c (ap (λ f. f c) (ready n l).inside ∙ known.within n c h l, k1, k2)

    live4 : (a4.inner c).stopped ≡ false
    live4 = ap (λ (z : View). z.stopped) (sym (ap (view_at N s c) h ∙ ap (λ z. inner_of z c) (is_node n l))) ∙ going

    event4 : (m : List ℕ) (t : occam.State) (ks : List Comm) → occam.Does q4.state (Meets i j b c m) ks t → ⊥
    event4 m t ks did =
        no_event n l (moves.Inner i j b c) (record { vcp = a4.vcp; process = with_state q4 t; inner = put a4.inner c (exchanged (a4.inner c) m) })
        (m, (fm4, record { comms = ks; does = did; inside = refl }), h, live4, refl, refl)

    by_sent4 : (o : Option (List ℕ)) → sent_by q4.state (move.Inner i j b c) ≡ o → ⊥
    by_sent4 (Some m) e = let r = can_be_made q4.state q4.inside (move.Inner i j b c) (Got m) (ready n l).sites fm4 (sym e) in event4 (bytes_or_none (sent_by q4.state (move.Inner i j b c))) r.1 r.0 r.2
    by_sent4 None e = let r = can_be_made q4.state q4.inside (move.Inner i j b c) Nothing (ready n l).sites fm4 (sym e) in event4 (bytes_or_none (sent_by q4.state (move.Inner i j b c))) r.1 r.0 r.2

    pub no_meeting : ⊥
    no_meeting = by_sent4 (sent_by q4.state (move.Inner i j b c)) refl

  -- ---- the linearization, and where its steps lead

  abbrev store_at : ℕ → Store
  store_at n = (begin_of p n).state.store

  abbrev There : ℕ → Type 0
  There n = (n < count) ⊎ (count ≤ n)

  abbrev end_at : (n : ℕ) → There n → TraceEnd
  end_at n (inl l) = so_far (ready n l).hat.rest (ready n l).hat.store
  end_at n (inr past) = Open

  trace_at : (n : ℕ) (t : There n) → Trace (written (node_plan p n).process) (store_at n) (by n ks) (end_at n t)
  trace_at n (inl l) = steps_make_traces (written (node_plan p n).process) (store_at n) (by n ks) (ready n l).hat (known.lawfully n l) (as_steps (ready n l).path)
  trace_at n (inr past) = subst (λ z. Trace (written (node_plan p n).process) (store_at n) z Open) (sym (x.by_no_other n past)) cut

  runs : (c : ℕ) → DoesAll nothing_yet (on c ks) (view N s c)
  runs c = runs_too kind_on c x.said ks (view N s c) x.told nothing_yet tt (x.views c)

  lin : (hs : List Atomic) × IsLinearization (λ n. written (node_plan p n).process) store_at (λ n. end_at n (cases_lt n count)) (view N s) ks hs × ((n : ℕ) → Rewrites (by n ks) (by n (all_comms hs)))
  lin = linearizes_with (λ n. written (node_plan p n).process) store_at (λ n. end_at n (cases_lt n count)) (view N s) ks (λ n. trace_at n (cases_lt n count)) runs

  abbrev atomics : List Atomic
  atomics = lin.0

  same_fins : (c n : ℕ) → n < count → fins c (by n (all_comms atomics)) ≤ fins c (by n ks)
  same_fins c n l =
      let a = shown_ends c (all_comms atomics) nothing_yet (completed (view N s c)) (lin.1.on_channel c) in
      let b = shown_ends c ks nothing_yet (view N s c) (runs c) in
      let e = all_even c in
      let c1 = all_below count c ks x.by_no_other in
      let c2 = all_below count c (all_comms atomics) (λ m past. lin.1.by_no_other m (x.by_no_other m past)) in
      each_same count c ks (all_comms atomics) (λ m q. rewrites_fins c (lin.2 m)) (omega arith) n l

  went : (n : ℕ) (l : n < count) → (v : occam.State) × Path (begin_of p n).state (by n (all_comms atomics)) v × Outs v (ready n l).hat
  went n l = later_path (as_later (lin.2 n) (λ c. same_fins c n l)) (ready n l).hat (ready n l).path (known.good n l).lawful

  abbrev stands_at : (n : ℕ) → There n → occam.State
  stands_at n (inl l) = (went n l).0
  stands_at n (inr past) = (begin_of p n).state

  -- each of its moves is left on the network, or has begun there
  moves_left : (n : ℕ) (l : n < count) (m : Move) → Contains (own (went n l).0.rest (went n l).0.store) m → Left (λ c. ⊥) (now n l) m ⊎ ((i c : ℕ) × (m ≡ move.Offer i c) × Contains (waiting (now n l).rest) (output i c))
  moves_left n l m k = elim (outs_moves (went n l).2 m k) [
    | inl g ↦ inl (waits_moves (no_guards n l) m g)
    | inr u ↦ inr (u.0, u.1, u.2, waits_keep (no_guards n l) (output u.0 u.1) u.3)
  ]

  quiet_left : (n : ℕ) (l : n < count) (i : ℕ) → Left (λ c. ⊥) (now n l) (move.Quiet i) → ⊥
  quiet_left n l i (is_left k) = no_quiet n l i k
  quiet_left n l i (is_begun j c e w) = cc
  quiet_left n l i (is_chosen j b e c q g w) = g

  stop_left : (n : ℕ) (l : n < count) (i c : ℕ) → Left (λ c. ⊥) (now n l) (move.Stopch i c) → ⊥
  stop_left n l i c (is_left k) = no_stop n l i c k
  stop_left n l i c (is_begun j d e w) = cc
  stop_left n l i c (is_chosen j b e d q g w) = g

  alone_at : (n : ℕ) (t : There n) (m : Move) → n < count → Contains (own (stands_at n t).rest (stands_at n t).store) m → GoesAlone m → ⊥
  alone_at n (inr past) m l k g = omega arith
  alone_at n (inl l) (move.Quiet i) r k g = elim (moves_left n l (move.Quiet i) k) [ inl z ↦ quiet_left n l i z | inr u ↦ (let e : move.Quiet i ≡ move.Offer u.0 u.1 = u.2 in cc) ]
  alone_at n (inl l) (move.Stopch i c) r k g = elim (moves_left n l (move.Stopch i c) k) [ inl z ↦ stop_left n l i c z | inr u ↦ (let e : move.Stopch i c ≡ move.Offer u.0 u.1 = u.2 in cc) ]
  alone_at n (inl l) m r k g = g

  -- ---- no two can communicate

  out_use : (n : ℕ) (l : n < count) (i c : ℕ) → Contains (own (went n l).0.rest (went n l).0.store) (move.Offer i c) → OutOf N n c
  out_use n l i c k =
      let v = (went n l).0 in
      let a = able v.rest v.store (move.Offer i c) Nothing k in
      known.outs n c l ((begin_in (written (node_plan p n).process)).output c (path_outputs c (went n l).1 (offer_on a.3)))

  taken_use : (j : ℕ) (o : Option ℕ) (c : ℕ) (r : Rest) (e : Store) → Contains (own r e) (partner j o c) → inputs_rest r c ≡ true
  taken_use j None c r e k = let a = able r e (move.Want j c) (Got []) k in want_on a.3
  taken_use j (Some b) c r e k = let a = able r e (move.Choose j b c) (Got []) k in choose_on a.3

  in_use : (n : ℕ) (l : n < count) (j : ℕ) (o : Option ℕ) (c : ℕ) → Contains (own (went n l).0.rest (went n l).0.store) (partner j o c) → InTo N n c
  in_use n l j o c k =
      let v = (went n l).0 in
      known.ins n c l ((begin_in (written (node_plan p n).process)).input c (path_inputs c (went n l).1 (taken_use j o c v.rest v.store k)))

  offer_chan : (i c j d : ℕ) → move.Offer i c ≡ move.Offer j d → d ≡ c
  offer_chan i c j d e = cc

  want_chan : (j : ℕ) (o : Option ℕ) (c i d : ℕ) → partner j o c ≡ move.Want i d → d ≡ c
  want_chan j None c i d e = (let f : move.Want j c ≡ move.Want i d = e in cc)
  want_chan j (Some b) c i d e = absurd (let f : move.Choose j b c ≡ move.Want i d = e in cc)

  no_offer_is : (j : ℕ) (o : Option ℕ) (c i d : ℕ) → partner j o c ≡ move.Offer i d → ⊥
  no_offer_is j None c i d e = (let f : move.Want j c ≡ move.Offer i d = e in cc)
  no_offer_is j (Some b) c i d e = (let f : move.Choose j b c ≡ move.Offer i d = e in cc)

  no_way : (c n v : ℕ) (ab : Bool) → home N c ≡ Inside n → home N c ≡ Way v ab → ⊥
  no_way c n v ab e f = (let z : Inside n ≡ Way v ab = sym e ∙ f in cc)

  -- an output that can begin on the one node has begun on the network, and its message is not taken
  unfinished_at : (n : ℕ) (l : n < count) (i c v : ℕ) (ab : Bool) → home N c ≡ Way v ab → source_node N (Way v ab) ≡ n → Contains (own (went n l).0.rest (went n l).0.store) (move.Offer i c) → length (view N s c).offered ≡ suc (view N s c).finished
  unfinished_at n l i c v ab h g k = busy c v ab h (λ e. under_way (moves_left n l (move.Offer i c) k) (ap (λ (z : OutHalf). z.unacked) (sym (out_half n c v ab l h g)) ∙ e))
    where
      by_left : Left (λ c. ⊥) (now n l) (move.Offer i c) → ((node_at n l).vcp.carrier.out c).unacked ≡ [] → ⊥
      by_left (is_left z) idle = no_offer n l i c v ab h g idle z
      by_left (is_begun j d e w) idle = cc
      by_left (is_chosen j b f d e q w) idle = q

      under_way : Left (λ c. ⊥) (now n l) (move.Offer i c) ⊎ ((j d : ℕ) × (move.Offer i c ≡ move.Offer j d) × Contains (waiting (now n l).rest) (output j d)) → ((node_at n l).vcp.carrier.out c).unacked ≡ [] → ⊥
      under_way (inl z) idle = by_left z idle
      under_way (inr (j, d, e, w)) idle = (sends n l c j (subst (λ z. Contains (waiting (now n l).rest) (output j z)) (offer_chan i c j d e) w)).unacked idle

  taking_none : (n : ℕ) (l : n < count) (c v : ℕ) (ab : Bool) → home N c ≡ Way v ab → sink_node N (Way v ab) ≡ n → length (view N s c).offered ≡ suc (view N s c).finished → (view N s c).stopped ≡ false → (j : ℕ) (o : Option ℕ) → Contains (own (now n l).rest (now n l).store) (partner j o c) → ⊥
  taking_none n l c v ab h g u going j None k = no_input n l c v ab h g u going j k
  taking_none n l c v ab h g u going j (Some b) k = no_guard n l c v ab h g u going j b k

  at_way : (k : ℕ) (l : k < count) (c v : ℕ) (ab : Bool) → home N c ≡ Way v ab → sink_node N (Way v ab) ≡ k → length (view N s c).offered ≡ suc (view N s c).finished → (view N s c).stopped ≡ false → (j : ℕ) (o : Option ℕ) → Left (λ c. ⊥) (now k l) (partner j o c) → ⊥
  at_way k l c v ab h g u going j o (is_left z) = taking_none k l c v ab h g u going j o z
  at_way k l c v ab h g u going j o (is_begun i d e w) =
      let a = asks k l c i (subst (λ z. Contains (waiting (now k l).rest) (input i z)) (want_chan j o c i d e) w) in
      clash a.wants (is_idle k l c v ab h g u going)
  at_way k l c v ab h g u going j o (is_chosen i b f d e q w) = q

  same_nodes : (n k : ℕ) (l : n < count) (m : k < count) → k ≡ n → node_at k m ≡ node_at n l
  same_nodes n k l m e = let z : IsNode (node_at k m) ≡ IsNode (node_at n l) = sym (is_node k m) ∙ ap s.state e ∙ is_node n l in cc

  at_inside : (n : ℕ) (l : n < count) (i j c : ℕ) (o : Option ℕ) → home N c ≡ Inside n → (view N s c).stopped ≡ false → Left (λ c. ⊥) (now n l) (move.Offer i c) → (k : ℕ) (m : k < count) → k ≡ n → Left (λ c. ⊥) (now k m) (partner j o c) → ⊥
  at_inside n l i j c o h going (is_left z) k m e (is_left y) = no_meeting n l i j c o h going z (subst (λ (a : Node Process). Contains (own a.process.state.rest a.process.state.store) (partner j o c)) (same_nodes n k l m e) y)
  at_inside n l i j c o h going (is_left z) k m e (is_begun i2 d q w) =
      let a = asks k m c i2 (subst (λ z. Contains (waiting (now k m).rest) (input i2 z)) (want_chan j o c i2 d q) w) in
      no_way c n a.vlink a.from_a h a.at_home
  at_inside n l i j c o h going (is_left z) k m e (is_chosen i2 b f d q g w) = g
  at_inside n l i j c o h going (is_begun i2 d q w) k m e y = cc
  at_inside n l i j c o h going (is_chosen i2 b f d q g w) k m e y = g

  no_communication : (n k : ℕ) (l : n < count) (m : k < count) (i j c : ℕ) (o : Option ℕ) → (view N s c).stopped ≡ false → Contains (own (went n l).0.rest (went n l).0.store) (move.Offer i c) → Contains (own (went k m).0.rest (went k m).0.store) (partner j o c) → ⊥
  no_communication n k l m i j c o going k1 k2 = by_home (out_use n l i c k1) (in_use k m j o c k2) (moves_left n l (move.Offer i c) k1) (moves_left k m (partner j o c) k2)
    where
      by_home : OutOf N n c → InTo N k c → Left (λ c. ⊥) (now n l) (move.Offer i c) ⊎ ((j d : ℕ) × (move.Offer i c ≡ move.Offer j d) × Contains (waiting (now n l).rest) (output j d)) →
          Left (λ c. ⊥) (now k m) (partner j o c) ⊎ ((i d : ℕ) × (partner j o c ≡ move.Offer i d) × Contains (waiting (now k m).rest) (output i d)) → ⊥
      by_home a b y (inr (i2, d, e, w)) = no_offer_is j o c i2 d e
      by_home (out_way v ab h g) (in_way w f h2 g2) y (inl z) = at_way k m c w f h2 g2 (unfinished_at n l i c v ab h g k1) going j o z
      by_home (out_way v ab h g) (in_inside h2) y (inl z) = no_way c k v ab h2 h
      by_home (out_inside h) (in_way w f h2 g2) y (inl z) = no_way c n w f h h2
      by_home (out_inside h) (in_inside h2) (inl y) (inl z) = at_inside n l i j c o h going y k m (let q : Inside k ≡ Inside n = sym h2 ∙ h in cc) z
      by_home (out_inside h) (in_inside h2) (inr (j2, d, e, w)) (inl z) = (let a = sends n l c j2 (subst (λ z. Contains (waiting (now n l).rest) (output j2 z)) (offer_chan i c j2 d e) w) in no_way c n a.vlink a.from_a h a.at_home)

  met_at : (n k : ℕ) (t : There n) (u : There k) (i c : ℕ) (m : Move) → n < count → k < count → Contains (own (stands_at n t).rest (stands_at n t).store) (move.Offer i c) → Contains (own (stands_at k u).rest (stands_at k u).store) m → TakesFrom c m → (b : Bool) → (view N s c).stopped ≡ b → b ≡ true
  met_at n k t u i c m l1 l2 k1 k2 g true e = refl
  met_at n k (inl l) (inl q) i c (move.Want j d) l1 l2 k1 k2 g false e = absurd (no_communication n k l q i j c None e k1 (subst (λ z. Contains (own (went k q).0.rest (went k q).0.store) (move.Want j z)) g k2))
  met_at n k (inl l) (inl q) i c (move.Choose j b d) l1 l2 k1 k2 g false e = absurd (no_communication n k l q i j c (Some b) e k1 (subst (λ z. Contains (own (went k q).0.rest (went k q).0.store) (move.Choose j b z)) g k2))
  met_at n k (inl l) (inl q) i c m l1 l2 k1 k2 g false e = absurd g
  met_at n k (inr past) u i c m l1 l2 k1 k2 g false e = absurd (omega arith)
  met_at n k (inl l) (inr past) i c m l1 l2 k1 k2 g false e = absurd (omega arith)

  can : (n : ℕ) (t : There n) (e : TraceEnd) → n < count → Trace (written (node_plan p n).process) (store_at n) (by n (all_comms atomics)) e → StaysEnded (end_at n t) e → (a : Node Process) × (s.state n ≡ IsNode a) × CanPerform p n (by n (all_comms atomics)) a.process.state
  can n (inr past) e l q k = absurd (omega arith)
  can n (inl l) e r q k = (
    node_at n l,
    is_node n l,
    (e, q, λ done. k (now n l).store (let h = waits_done (ready n l).waits done in ap (λ (z : occam.State). so_far z.rest z.store) h ∙ ap (λ z. so_far z (now n l).store) done)),
  )

  made_at : (n : ℕ) (t : There n) → n < count → StepsAtOnce (begin_of p n).state (by n (all_comms atomics)) (stands_at n t)
  made_at n (inl l) r = at_once (went n l).1
  made_at n (inr past) r = absurd (omega arith)

  begun_at : (n : ℕ) (t : There n) → n < count → (a : Node Process) × (s.state n ≡ IsNode a) × Begun (stands_at n t) a.process.state
  begun_at n (inl l) r = (node_at n l, is_node n l, begun (went n l).2 (no_guards n l))
  begun_at n (inr past) r = absurd (omega arith)

  ended_at : (n : ℕ) (t : There n) → n < count → (a : Node Process) → s.state n ≡ IsNode a → ((stands_at n t).rest ≡ Done) ↔ (a.process.state.rest ≡ Done)
  ended_at n (inr past) l a e = absurd (omega arith)
  ended_at n (inl l) r a e =
      let b = begun (went n l).2 (no_guards n l) in
      let same : node_at n l ≡ a = (let z : IsNode (node_at n l) ≡ IsNode a = sym (is_node n l) ∙ e in cc) in
      subst (λ (z : Node Process). ((went n l).0.rest ≡ Done) ↔ (z.process.state.rest ≡ Done)) same (ended_after b, ended_before b)

  pub rests : (hs : List Atomic) × IsLinearizationOf p s hs × StandsStill p s hs
  rests = (
    atomics,
    record {
      by_node = λ n l. (let t = lin.1.by_node n in can n (cases_lt n count) t.0 l t.1 t.2);
      by_no_other = λ n past. lin.1.by_no_other n (x.by_no_other n past);
      faithful = lin.1.faithful;
      on_channel = λ c l. lin.1.on_channel c;
    },
    record {
      stands = λ n. stands_at n (cases_lt n count);
      made = λ n l. made_at n (cases_lt n count) l;
      begun = λ n l. begun_at n (cases_lt n count) l;
      ended = λ n l a e. ended_at n (cases_lt n count) l a e;
      rest = record {
        alone = λ n m l k g. alone_at n (cases_lt n count) m l k g;
        met = λ n k i c m l1 l2 k1 k2 g. met_at n k (cases_lt n count) (cases_lt k count) i c m l1 l2 k1 k2 g (view N s c).stopped refl;
      };
    },
  )

-- where no event can happen a network that delivers has delivered
has_delivered : (p : Plan) (waiting_rule : Waiting) (s : Network (Actor Process) Token) → ((e : ActBy Act) → IsEnabled (network_of p) waiting_rule does s e → ⊥) → Delivers p waiting_rule s → HasDelivered p waiting_rule s
has_delivered p waiting_rule s none_there r = by_events r.events r.happen
  where
    by_events : (es : List (ActBy Act)) → HappenAll (network_of p) waiting_rule does s es r.end → HasDelivered p waiting_rule s
    by_events [] h = let same : s ≡ r.end = λ i. record { state = λ n. sym (h.states n) i; way = λ w. sym (h.ways w) i } in subst (HasDelivered p waiting_rule) (sym same) r.delivered
    by_events (e ∷ es) h = absurd (none_there e (h.0, h.1))

abbrev pub QuietWhereItDelivers : Type 0
QuietWhereItDelivers =
    (p : Plan) (waiting : Waiting) (kind_on : ℕ → ValueKind) (known : Known p kind_on) (es : List (ActBy Act)) (s : Network (Actor Process) Token) → Delivers p waiting s
    → HappenAll (network_of p) waiting does (begins (network_of p) (begin_of p)) es s → ((e : ActBy Act) → IsEnabled (network_of p) waiting does s e → ⊥)
    → (hs : List Atomic) × IsLinearizationOf p s hs × StandsStill p s hs

pub quiet_is_quiet : QuietWhereItDelivers
quiet_is_quiet p waiting_rule kind_on known es s delivers happen none_there =
    let r = all_run p waiting_rule known.ok kind_on known.good es s happen in
    rests p waiting_rule kind_on known s r.0 r.1 (has_delivered p waiting_rule s none_there delivers) none_there
