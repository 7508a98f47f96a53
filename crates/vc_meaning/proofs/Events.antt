-- Each event keeps the meaning, or is one move; so each state that events lead to means one that moves lead to.
use Rattle.std.proofs.Common.{◌≡◌, ℕ, suc, ◌+◌, ◌≤◌, ◌<◌, Bool, List, [], ◌∷◌, ◌++◌, length, refl, sym, ap, subst, ◌∙◌, arith, length-append, append_assoc}
use Rattle.vc_accepted.proofs.Processes.{kind_on}
use Rattle.vc_accepted.specs.Begin.{begin_of}
use Rattle.vc_accepted.specs.NetworkOf.{network_of}
use Rattle.vc_accepted.specs.Process.{Process, does}
use Rattle.vc_core.specs.PossibleEvents.{NetworkState}
use Rattle.vc_free.proofs.NodePaths.{SoFar, all_run}
use Rattle.vc_free.proofs.Nexts.{node_next, switch_next}
use Rattle.vc_free.proofs.RestKnown.{known_of}
use Rattle.vc_free.proofs.Schedules.{after_all}
use Rattle.vc_free.specs.Delivery.{in_half}
use Rattle.vc_machine.specs.Rendezvous.{View}
use Rattle.vc_meaning.proofs.Channels.{SameAt, carries_same, carried, have_passed}
use Rattle.vc_meaning.proofs.Ends.{two_nodes}
use Rattle.vc_meaning.proofs.Opening.{opening_means}
use Rattle.vc_meaning.proofs.Measures.{all_late_same, all_alone_same}
use Rattle.vc_meaning.proofs.Steps.{Nearer, makes_move, begins_one, comes_nearer, carries_on, node_event}
use Rattle.vc_meaning.specs.Events.{KeepsMeaning, keeps, moves, EventsKeepMeaning, IsMeant, StatesAreMeant}
use Rattle.vc_meaning.specs.Meaning.{IsOnLink, Means}
use Rattle.vc_network.specs.Actors.{Label, Step, ActBy, act_of}
use Rattle.vc_network.specs.Actors.Label.{Own, Takes, Puts}
use Rattle.vc_network.specs.Network.{Act, Take, Put, Route, Fct, Pass, Actor, IsNode, IsSwitch, SwitchStep, Local, begins, Happens, HappenAll}
use Rattle.vc_network.specs.Still.{IsNoMove}
use Rattle.vc_network.specs.Plan.{home}
use Rattle.vc_network.specs.Views.{vcp_of, sink_node, view}
use Rattle.vc_occam.specs.Traces.{Comm}
use Rattle.vc_plan.specs.Accepted.{IsAccepted}
use Rattle.vc_plan.specs.declared.plan.Plan.{Plan}
use Rattle.vc_program.specs.Program.{Program, program_of, Move, MakesAll, no_more, Reaches}
use Rattle.vc_switch.specs.Switch.{Switch}
use Rattle.vc_switch.specs.Waiting.{Waiting}
use Rattle.vc_tokens.specs.Tokens.{Token}

-- one event more
pub then_happens : (p : Plan) (rule : Waiting) (es : List (ActBy Act)) (e : ActBy Act) (o x y : NetworkState) → HappenAll (network_of p) rule does o es x → Happens (network_of p) rule does x e y → HappenAll (network_of p) rule does o (es ++ e ∷ []) y
then_happens p rule [] e o x y h st =
    let same : o ≡ x = λ i. record { state = λ n. sym (h.states n) i; way = λ w. sym (h.ways w) i } in
    (y, subst (λ z. Happens (network_of p) rule does z e y) (sym same) st, record { states = λ n. refl; ways = λ w. refl })
then_happens p rule (f ∷ es) e o x y h st = (h.0, h.1, then_happens p rule es e h.0 x y h.2 st)

module _ (p : Plan) (rule : Waiting) (acc : IsAccepted p) (x y : NetworkState) (ks ls : List (ℕ × Comm)) (rx : SoFar p rule (known_of p acc).ok (kind_on p) (known_of p acc).good x ks) (ry : SoFar p rule (known_of p acc).ok (kind_on p) (known_of p acc).good y ls) (ms : List Move) (s : Program) (reaches : Reaches p ms s) (means : Means p x s)
    (n : ℕ) (label : Label Act Token) (step : Step (Local (network_of p) rule does) x n label y) where
  -- an event of a switch
  by_switch : (j : ℕ) → n ≡ length p.nodes + j → ((d : ℕ) → view (network_of p) y d ≡ view (network_of p) x d) → IsNoMove (act_of label) → Nearer p s x (act_of label) y
  by_switch j is views none =
      let others : (k : ℕ) → k < length p.nodes → y.state k ≡ x.state k = λ k l. step.others k (λ e. omega arith) in
      let same : (d : ℕ) → SameAt p x y d = λ d. record {
        offered = ap (λ (z : View). z.offered) (views d);
        taken = ap (λ (z : View). z.taken) (views d);
        finished = ap (λ (z : View). z.finished) (views d);
        asked = λ l. ap (λ z. ((vcp_of z).carrier.into d).wants) (others (sink_node (network_of p) (home (network_of p) d)) (subst (λ z. sink_node (network_of p) z < length p.nodes) (sym l.2) (two_nodes p acc d l.0 l.1 l.2).sink));
      } in
      carries_on none (record {
        part = λ k l. (let m = means.part k l in (m.0, others k l ∙ m.1, carried m.2 (λ d. carries_same (same d))));
        stopped = λ d l. means.stopped d l ∙ ap (λ (z : View). z.stopped) (sym (views d));
        passed = λ d l. have_passed (same d) (means.passed d l);
      }) (all_late_same p x y same) (all_alone_same p x y same)

  switch_acts : (i : ℕ) (a b : Switch) (l : Label Act Token) → SwitchStep (network_of p) rule i a l b → IsNoMove (act_of l)
  switch_acts i a b (Own (Route f g)) h = tt
  switch_acts i a b (Own (Pass f)) h = tt
  switch_acts i a b (Takes (Take f word) w k) h = tt
  switch_acts i a b (Puts (Put f) w k) h = tt
  switch_acts i a b (Puts (Fct f) w k) h = tt
  switch_acts i a b d h = absurd h

  by_actor : (a b : Actor Process) → x.state n ≡ a → y.state n ≡ b → Local (network_of p) rule does n a label b → Nearer p s x (act_of label) y
  by_actor (IsNode a) (IsNode b) ea eb l =
      let next = node_next (network_of p) rule does (known_of p acc).ok x y rx.tokens rx.good n step.others l.0 a b ea eb label step.ways l.1 in
      node_event p rule acc x y ks ls rx ry ms s reaches means n l.0 a b ea eb step.others label l.1 next.views
  by_actor (IsSwitch a) (IsSwitch b) ea eb l =
      let next = switch_next (network_of p) rule does (known_of p acc).ok x y rx.tokens rx.good n step.others l.0 l.1 a b ea eb label step.ways l.2 in
      by_switch l.0 l.1 next.views (switch_acts l.0 a b label l.2)
  by_actor (IsNode a) (IsSwitch b) ea eb l = absurd l
  by_actor (IsSwitch a) (IsNode b) ea eb l = absurd l

  pub event_nears : Nearer p s x (act_of label) y
  event_nears = by_actor (x.state n) (y.state n) refl refl step.local

pub event_of : (p : Plan) (rule : Waiting) (es : List (ActBy Act)) (x y : NetworkState) (e : ActBy Act) (ms : List Move) (s : Program) → IsAccepted p → HappenAll (network_of p) rule does (begins (network_of p) (begin_of p)) es x → Happens (network_of p) rule does x e y → Reaches p ms s → Means p x s → Nearer p s x e.act y
event_of p rule es x y e ms s acc happen h reaches means =
    let known = known_of p acc in
    let rx = all_run p rule known.ok (kind_on p) known.good es x happen in
    let ry = all_run p rule known.ok (kind_on p) known.good (es ++ e ∷ []) y (then_happens p rule es e (begins (network_of p) (begin_of p)) x y happen h) in
    subst (λ z. Nearer p s x z y) h.1 (event_nears p rule acc x y rx.0 ry.0 rx.1 ry.1 ms s reaches means e.actor h.0 h.2)

pub events_keep : EventsKeepMeaning
events_keep p rule es x y e ms s acc happen h reaches means = by_nearer (event_of p rule es x y e ms s acc happen h reaches means)
  where
    by_nearer : Nearer p s x e.act y → KeepsMeaning p s e.act y
    by_nearer (makes_move never m t st k) = moves never m t st k
    by_nearer (begins_one k l) = keeps k
    by_nearer (comes_nearer k l) = keeps k
    by_nearer (carries_on none k l f) = keeps k

-- ---- event by event

meant_from : (p : Plan) (rule : Waiting) (acc : IsAccepted p) (es fs : List (ActBy Act)) (x y : NetworkState) → HappenAll (network_of p) rule does (begins (network_of p) (begin_of p)) es x → HappenAll (network_of p) rule does x fs y → IsMeant p es x → IsMeant p (es ++ fs) y
meant_from p rule acc es [] x y happen h m =
    let same : x ≡ y = λ i. record { state = λ n. sym (h.states n) i; way = λ w. sym (h.ways w) i } in
    subst (λ z. IsMeant p (es ++ []) z) same (record { schedule = m.schedule; state = m.state; reaches = m.reaches; few = (let a = m.few in let b = length-append es [] in omega arith); means = m.means })
meant_from p rule acc es (e ∷ fs) x y happen h m =
    subst (λ z. IsMeant p z y) (append_assoc es (e ∷ []) fs) (meant_from p rule acc (es ++ e ∷ []) fs h.0 y (then_happens p rule es e (begins (network_of p) (begin_of p)) x h.0 happen h.1) h.2 (one (events_keep p rule es x h.0 e m.schedule m.state acc happen h.1 m.reaches m.means)))
  where
    one : KeepsMeaning p m.state e.act h.0 → IsMeant p (es ++ e ∷ []) h.0
    one (keeps k) = record { schedule = m.schedule; state = m.state; reaches = m.reaches; few = (let a = m.few in let b = length-append es (e ∷ []) in omega arith); means = k }
    one (moves never mv t st k) = record {
      schedule = m.schedule ++ mv ∷ [];
      state = t;
      reaches = after_all m.reaches st;
      few = (let a = m.few in let b = length-append es (e ∷ []) in let c = length-append m.schedule (mv ∷ []) in omega arith);
      means = k;
    }

pub states_are_meant : StatesAreMeant
states_are_meant p rule es x acc h =
    let o = begins (network_of p) (begin_of p) in
    meant_from p rule acc [] es o x (record { states = λ n. refl; ways = λ w. refl }) h (record { schedule = []; state = program_of p; reaches = no_more; few = omega arith; means = opening_means p acc })
