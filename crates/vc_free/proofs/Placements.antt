-- What one placement of a program did has a linearization, and that a free placement of it does.
use Rattle.std.proofs.Common.{◌≡◌, ℕ, ◌<◌, inl, inr, sym, subst, subst₂, ◌∙◌, List, length, map, arith}
use Rattle.std.proofs.lemmas.Bool.{cases_lt}
use Rattle.vc_accepted.specs.Begin.{node_plan, begin_of}
use Rattle.vc_accepted.specs.NetworkOf.{network_of}
use Rattle.vc_accepted.specs.OneList.{by}
use Rattle.vc_accepted.specs.Process.{Process}
use Rattle.vc_free.proofs.Converse.{ended_done}
use Rattle.vc_free.proofs.Atomics.{do_all}
use Rattle.vc_free.specs.Placements.{SameProgram, IsOtherPlacement, FreePlacementsDoTheSame}
use Rattle.vc_network.specs.Actors.{Network}
use Rattle.vc_network.specs.Network.{Node, Actor}
use Rattle.vc_network.specs.Views.{view}
use Rattle.vc_occam.specs.Remains.{Done}
use Rattle.vc_occam.specs.Opening.{empty_of}
use Rattle.vc_occam.specs.Traces.{Comm, End, Open, Trace}
use Rattle.vc_placement.proofs.Networks.{invisible}
use Rattle.vc_placement.proofs.OneNode.{same_node}
use Rattle.vc_placement.specs.Linearization.{Atomic, all_comms, completed}
use Rattle.vc_placement.specs.OneNode.{HaveEnded}
use Rattle.vc_placement.specs.Parallel.{IsEnded}
use Rattle.vc_placement.specs.Placement.{IsLinearizationOf}
use Rattle.vc_plan.specs.declared.plan.Plan.{Plan}
use Rattle.vc_process.specs.Numbering.{written}
use Rattle.vc_process.specs.Terms.{store}
use Rattle.vc_tokens.specs.Tokens.{Token}

-- what node n of one plan does is a trace of the other's node
other_trace : (p q : Plan) (n : ℕ) (ks : List Comm) (x : End) → SameProgram p q → n < length p.nodes
    → Trace (written (node_plan p n).process) (begin_of p n).state.store ks x
    → Trace (written (node_plan q n).process) (begin_of q n).state.store ks x
other_trace p q n ks x same less can = subst₂ (λ r k. Trace (written r) (store (map empty_of k)) ks x) (same.process n less) (same.kinds n less) can

module _ (p q : Plan) (s : Network (Actor Process) Token) (hs : List Atomic) (same : IsOtherPlacement p q) (told : IsLinearizationOf p s hs) where
  -- what node n may do in the other plan, and how it ends
  record Part (n : ℕ) : Type 0 where
    end : End
    trace : n < length q.nodes → Trace (written (node_plan q n).process) (begin_of q n).state.store (by n (all_comms hs)) end
    ended : n < length q.nodes → HaveEnded p s → IsEnded end

  its_part : (n : ℕ) → n < length p.nodes → Part n
  its_part n less =
      let t = told.by_node n less in
      let can = t.2 in
      record {
        end = can.0;
        trace = λ l. other_trace p q n (by n (all_comms hs)) can.0 same.program less can.1;
        ended = λ l h. (let e = h n less in let is = same_node e.0 t.0 (sym e.1 ∙ t.1) in (t.0.process.state.store, can.2 (subst (λ (z : Node Process). z.process.state.rest ≡ Done) is e.2)));
      }

  parts : (n : ℕ) → Part n
  parts n = elim (cases_lt n (length p.nodes)) [
    | inl less ↦ its_part n less
    | inr past ↦ (let k = same.nodes in record { end = Open; trace = λ l. absurd (omega arith); ended = λ l h. absurd (omega arith) })
  ]

pub do_the_same : FreePlacementsDoTheSame
do_the_same p q rule other es s acc acc2 ranks same happen =
    let seen = invisible p rule es s acc happen in
    let found = seen.0 in
    let hs = found.atomics in
    let lin = found.linearization in
    let part = parts p q s hs same lin in
    let nodes = same.nodes in
    let channels = same.channels in
    let done = do_all q other (λ n. (part n).end) (λ c. completed (view (network_of p) s c)) hs acc2 ranks (record {
      by_node = λ n less. (part n).trace less;
      by_no_other = λ n past. lin.by_no_other n (omega arith);
      faithful = lin.faithful;
      on_channel = λ c less. lin.on_channel c (omega arith);
    }) in
    record {
      did = found;
      follows = seen.1;
      events = done.events;
      end = done.end;
      happen = done.happen;
      order = done.order;
      on_channel = λ c less. done.on_channel c (omega arith);
      ended = λ all n less. (let x = done.by_node n less in (x.0, x.1, ended_done x.0.process.state (part n).end ((part n).ended less all) x.2));
    }
