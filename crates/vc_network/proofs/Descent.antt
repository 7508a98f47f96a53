-- Where ways have ranks, a network comes to an end unless a process moves: an event that is no move of a process is one of the ways.
use Rattle.std.proofs.Common.{◌≡◌, ℕ, ◌+◌, ◌≤◌, List, [], ◌∷◌, length, refl, sym, subst, arith}
use Rattle.std.specs.List.{AllByRecursion}
use Rattle.vc_network.specs.Actors.{Network, ActBy}
use Rattle.vc_tokens.specs.Tokens.{Token}
use Rattle.vc_machine.specs.Links.{Tokens, no_tokens}
use Rattle.vc_machine.specs.Still.{MovesTokens}
use Rattle.vc_machine.specs.TokenMachine.{TokenEvent, TokenRun}
use Rattle.vc_machine.proofs.Descent.{runs_end}
use Rattle.vc_network.specs.Network.{Act, Actor, begins, HappenAll}
use Rattle.vc_network.specs.Plan.{Plan, back, net_of, IsAccepted}
use Rattle.vc_network.specs.Processes.{StepRelation}
use Rattle.vc_network.specs.Still.{IsNoMove, RunsEnd}
use Rattle.vc_switch.specs.Waiting.{Waiting}
use Rattle.vc_network.proofs.Backs.{back_real}
use Rattle.vc_network.proofs.PacketSizes.{has_headers}
use Rattle.vc_network.proofs.Main.{ran, good_start}
use Rattle.vc_network.proofs.Nexts.{next}
use Rattle.vc_network.proofs.Replays.{replayed}
use Rattle.vc_network.proofs.TokenViews.{wires}
use Rattle.vc_network.proofs.Steps.{Good}
use Rattle.vc_network.proofs.Wiring.{net_accepted}

-- as many events of the ways, none of which is a move of a process
record Follows (plan : Plan) (waiting : Waiting) (t : Tokens) (count : ℕ) : Type 0 where
  pub events : List TokenEvent
  pub new : Tokens
  pub run : TokenRun (net_of plan) back waiting t events new
  pub moves : AllByRecursion MovesTokens events
  pub as_many : length events ≡ count

one_first : (plan : Plan) (waiting : Waiting) (t : Tokens) (es : List TokenEvent) (u : Tokens) (e : TokenEvent) (count : ℕ) → es ≡ e ∷ [] → MovesTokens e →
    TokenRun (net_of plan) back waiting t es u → Follows plan waiting u count → Follows plan waiting t (1 + count)
one_first plan waiting t es u e count one own run f =
    let r : TokenRun (net_of plan) back waiting t (e ∷ []) u = subst (λ z. TokenRun (net_of plan) back waiting t z u) one run in
    record {
      events = e ∷ f.events;
      new = f.new;
      run = (r.0, r.1, subst (λ z. TokenRun (net_of plan) back waiting z f.events f.new) r.2 f.run);
      moves = (own, f.moves);
      as_many = (let k = f.as_many in omega arith);
    }

module _ {P : Type 0} (plan : Plan) (waiting : Waiting) (Does : StepRelation P) (acc : IsAccepted plan) where
  follows : (later : List (ActBy Act)) (s u : Network (Actor P) Token) (t : Tokens) → Good plan s t → AllByRecursion (λ e. IsNoMove e.act) later → HappenAll plan waiting Does s later u →
      Follows plan waiting t (length later)
  follows [] s u t g none h = record { events = []; new = t; run = refl; moves = tt; as_many = refl }
  follows (e ∷ later) s u t g none h =
      let mid = h.0 in
      let label = h.1.0 in
      let x = next plan waiting Does acc s mid t e.actor label g h.1.2 in
      let one = x.moves (subst IsNoMove (sym h.1.1) none.0) in
      let rest = follows later mid u x.new x.good none.1 h.2 in
      subst (Follows plan waiting t) (let k : 1 + length later ≡ length (e ∷ later) = omega arith in k) (one_first plan waiting t x.events x.new one.0 (length later) one.1 one.2 x.run rest)

pub ends : {P : Type 0} (plan : Plan) (waiting : Waiting) (Does : StepRelation P) (begin : ℕ → P) → RunsEnd plan waiting Does begin
ends plan waiting Does begin es s acc ranks h =
    let q = replayed plan waiting Does (begins plan begin) s es h in
    let r = ran plan waiting Does acc q.0 (begins plan begin) s no_tokens (good_start plan begin) q.1 in
    let few = runs_end (net_of plan) back waiting plan.headers (net_accepted plan acc) (has_headers plan acc) ranks (wires plan) (λ v real. back_real plan v real) in
    (few.0 r.new, λ later u none more. bounded (few.0 r.new) later (follows plan waiting Does acc later s u r.new r.good none more) (λ es2 v own run. few.1 r.events es2 r.new v r.run own run))
  where
    bounded : (bound : ℕ) (later : List (ActBy Act)) {t : Tokens} → (f : Follows plan waiting t (length later)) →
        ((es : List TokenEvent) (v : Tokens) → AllByRecursion MovesTokens es → TokenRun (net_of plan) back waiting t es v → length es ≤ bound) → length later ≤ bound
    bounded bound later f few = let a = few f.events f.new f.moves f.run in let b = f.as_many in omega arith
