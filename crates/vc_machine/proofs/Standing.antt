-- What holds wherever a run of an accepted network has come, and what a packet depends on there.
use Rattle.std.proofs.Common.{◌≡◌, ℕ, zero, suc, ◌+◌, ◌*◌, ◌<◌, ◌≤◌, inl, inr, List, [], ◌∷◌, ◌++◌, length, refl, sym, subst, arith, Option}
use Rattle.std.specs.List.{AllByRecursion}
use Rattle.std.proofs.lemmas.Bool.{cases_lt}
use Rattle.vc_packets.specs.declared.mark.Mark.{Mark}
use Rattle.vc_packets.specs.declared.packet.Packet.{Packet}
use Rattle.vc_packets.specs.Headers.{spelled}
use Rattle.vc_machine.specs.Paths.{AtNode, AtSwitch, Net, IsAccepted}
use Rattle.vc_switch.specs.Forward.{IsDrawn, behind}
use Rattle.vc_switch.specs.Waiting.{Waiting}
use Rattle.vc_machine.specs.Machine.{State, ChanState, BodyLeaves, IsTaken, start}
use Rattle.vc_tokens.specs.Tokens.{Token, EndMark}
use Rattle.vc_machine.specs.Links.{Tokens, Wires, no_tokens}
use Rattle.vc_machine.specs.TokenMachine.{TokenEvent, TokenRun}
use Rattle.vc_machine.specs.View.{TokenView, Bindings}
use Rattle.vc_machine.specs.Private.View.{Credited}
use Rattle.vc_machine.specs.Private.Laws.{FitsWay, AllFit}
use Rattle.vc_machine.specs.Laws.{HasHeaders, PutsGoOn}
use Rattle.vc_machine.specs.Dependencies.{Depends}
use Rattle.vc_machine.proofs.Labels.{Inv}
use Rattle.vc_machine.proofs.Receive.{taken_off, takes_it, Arrival}
use Rattle.vc_machine.proofs.Runs.{at_start, ran}
use Rattle.vc_machine.proofs.Heads.{inside_node}
use Rattle.vc_machine.proofs.ViewChanges.{front_packet}
use Rattle.vc_machine.proofs.Ahead.{Ahead}
use Rattle.vc_machine.proofs.AheadSteps.{nothing_ahead}
use Rattle.vc_machine.proofs.Bindings.{no_bindings}
use Rattle.vc_machine.proofs.Cover.{follows, onward, spelled_behind}
use Rattle.vc_machine.proofs.CreditSum.{no_counts}
use Rattle.vc_machine.proofs.Refinement.{no_view, run_counts}
use Rattle.vc_machine.proofs.Limits.{Reached, run_reached, puts_go_on}
use Rattle.vc_machine.proofs.PacketSizes.{limits, packets_fit, all_fit}

-- by a body that may stand on a way, and leaves the switch to which it comes, that way depends on the one by which it leaves
pub depends : (net : Net) (most w n i out : ℕ) (drawn : Option ℕ) (b d : List ℕ) → FitsWay net most w b → net.far w ≡ AtSwitch n i → IsDrawn ((net.switch n).random i) drawn →
    BodyLeaves net n (spelled (behind drawn []) ++ b) out d → Depends net w out
depends net most w n i out drawn b d f far draw l =
    let o = onward net f.fuel w f.stack f.to n i drawn far draw f.delivers in
    let g = follows net n (behind drawn f.stack) f.load (spelled (behind drawn []) ++ b) o.way o.stack out d o.leaves (spelled_behind drawn f.stack f.load b f.body) l in
    record { headers = f.stack; drawn = drawn; switch = n; link = i; after = g.after; stands = f.stands; far = far; draw = draw; leaves = g.leaves }

-- a rank that no way of these passes
pub bounded : (rank : ℕ → ℕ) (n : ℕ) → (top : ℕ) × ((w : ℕ) → w < n → rank w ≤ top)
bounded rank zero = (0, λ w h. absurd (let f : w < 0 = h in omega arith))
bounded rank (suc n) =
    let b = bounded rank n in (
      b.0 + rank n,
      λ w h. elim (cases_lt w n) [
        | inl less ↦ (let k = b.1 w less in omega arith)
        | inr more ↦ (let same : w ≡ n = omega arith in subst (λ z. rank z ≤ b.0 + rank n) (sym same) (let z : rank n ≤ b.0 + rank n = omega arith in z))
      ],
    )

-- what holds of tokens that a run led to
pub record Standing (net : Net) (back : ℕ → ℕ) (waiting : Waiting) (most : ℕ) (t : Tokens) : Type 0 where
  pub state : State
  pub view : TokenView net t state
  pub bindings : Bindings net t
  pub counts : Credited back t
  pub inv : Inv net state
  pub fit : AllFit net (FitsWay net most) state
  pub ahead : Ahead net (FitsWay net most) t
  pub puts : PutsGoOn net back waiting t
  pub pieces : (c : ℕ) → AllByRecursion (λ (d : List ℕ). length d ≤ 32) (state.chans c).unacked

-- some half takes a packet that has come whole to a node
pub taken_whole : (net : Net) (t : Tokens) (s : State) (w n i : ℕ) (m : Mark) (rest : List Token) → TokenView net t s → Inv net s → w < net.ways → net.far w ≡ AtNode n i →
    (t.receiver w).buffer ≡ EndMark m ∷ rest → (v : State) × IsTaken net t.nodes n (record { body = (t.receiver w).got; mark = m }) v
taken_whole net t s w n i m rest view inv real far e =
    let v = view.ways w in
    let at = inside_node net (net.far w) n i (t.receiver w).got (t.receiver w).mark (t.receiver w).bound v.passed (s.ways w).input far v.inside in
    let f = front_packet net t s w m rest view e in
    let p : Packet = record { body = v.passed; mark = m } in
    let o = taken_off net s w p f.others n i inv real far f.is in
    let k = takes_it net t.nodes n p o.chan (subst (λ (c : ℕ → ChanState). Arrival net (c o.chan) n p o.chan) view.chans o.arrival) in
    (k.0, subst (λ b. IsTaken net t.nodes n (record { body = b; mark = m }) k.0) (sym at.1) k.1)

-- what a run leads to
pub stands : (net : Net) (back : ℕ → ℕ) (waiting : Waiting) (most : ℕ) → IsAccepted net → HasHeaders net most → Wires net back → (es : List TokenEvent) (u : Tokens) →
    TokenRun net back waiting no_tokens es u → Standing net back waiting most u
stands net back waiting most acc has wires es u run =
    let lim = limits net most has in
    let r : Reached net (FitsWay net most) u =
    run_reached net back waiting (FitsWay net most) (2 * most + 32) acc.ranges lim (all_fit net most acc has) es no_tokens u
    (record { events = []; after = start; run = refl; view = no_view net; bindings = no_bindings net; ahead = nothing_ahead net (FitsWay net most) }) run in
    let fit = all_fit net most acc has r.events r.after r.run in
    record {
      state = r.after;
      view = r.view;
      bindings = r.bindings;
      counts = run_counts net back wires waiting es no_tokens u (no_counts back) run;
      inv = ran net r.events start r.after acc (at_start net) r.run;
      fit = fit;
      ahead = r.ahead;
      puts = puts_go_on net back waiting (FitsWay net most) (2 * most + 32) u r.after lim fit r.view r.bindings r.ahead;
      pieces = (let f = packets_fit net most acc has r.events r.after r.run in f.pieces);
    }
