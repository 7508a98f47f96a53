-- After any events of an accepted plan's network there is a linearization of what its processes communicated.
use Rattle.std.proofs.Common.{◌≡◌, ℕ, ◌≤◌, ◌<◌, sym, ap, subst, List, length, inl, inr, ◌⊎◌, arith}
use Rattle.std.proofs.lemmas.Bool.{cases_lt}
use Rattle.vc_accepted.specs.NetworkOf.{network_of}
use Rattle.vc_network.specs.Actors.{Network}
use Rattle.vc_network.specs.Network.{Node, Actor, IsNode}
use Rattle.vc_network.specs.Views.{view}
use Rattle.vc_occam.specs.NodeTraces.{so_far}
use Rattle.vc_process.specs.Numbering.{written}
use Rattle.vc_occam.specs.Traces.{Comm, End, Open, Trace, cut}
use Rattle.vc_plan.specs.declared.plan.Plan.{Plan}
use Rattle.vc_placement.specs.Linearization.{all_comms, StaysEnded}
use Rattle.vc_placement.specs.Placement.{CanPerform, Linearizes, PlacementIsInvisible}
use Rattle.vc_placement.proofs.Linearizability.{linearizes}
use Rattle.vc_accepted.specs.Begin.{node_plan, begin_of}
use Rattle.vc_accepted.specs.OneList.{by, IsTold}
use Rattle.vc_accepted.specs.Process.{Process}
use Rattle.vc_accepted.proofs.Main.{all_told}
use Rattle.vc_tokens.specs.Tokens.{Token}

module _ (p : Plan) (s : Network (Actor Process) Token) (ks : List (ℕ × Comm)) (told : IsTold p s ks) where
  abbrev There : ℕ → Type 0
  There n = (n < length p.nodes) ⊎ (length p.nodes ≤ n)

  -- how each process stands
  abbrev stands : (n : ℕ) → There n → End
  stands n (inl less) = let t = told.by_node n less in so_far t.0.process.state.rest t.0.process.state.store
  stands n (inr past) = Open

  abbrev end : ℕ → End
  end n = stands n (cases_lt n (length p.nodes))

  its_trace : (n : ℕ) (t : There n) → Trace (written (node_plan p n).process) (begin_of p n).state.store (by n ks) (stands n t)
  its_trace n (inl less) = (told.by_node n less).2.0
  its_trace n (inr past) = subst (λ l. Trace (written (node_plan p n).process) (begin_of p n).state.store l Open) (sym (told.by_no_other n past)) cut

  can : (n : ℕ) (l : List Comm) (x : End) (t : There n) → n < length p.nodes → Trace (written (node_plan p n).process) (begin_of p n).state.store l x → StaysEnded (stands n t) x → (a : Node Process) × (s.state n ≡ IsNode a) × CanPerform p n l a.process.state
  can n l x (inl less) m q k =
      let t = told.by_node n less in
      let now = t.0.process.state in
      (t.0, t.1, (x, q, λ d. k now.store (ap (λ r. so_far r now.store) d)))
  can n l x (inr past) m q k = absurd (omega arith)

  pub linearization : Linearizes p s
  linearization =
      let r = linearizes (λ n. written (node_plan p n).process) (λ n. (begin_of p n).state.store) end (view (network_of p) s) ks (λ n. its_trace n (cases_lt n (length p.nodes))) told.on_channel in
      record {
        list = ks;
        told = told;
        atomics = r.0;
        linearization = record {
          by_node = λ n less. (let t = r.1.by_node n in can n (by n (all_comms r.0)) t.0 (cases_lt n (length p.nodes)) less t.1 t.2);
          by_no_other = λ n past. r.1.by_no_other n (told.by_no_other n past);
          faithful = r.1.faithful;
          on_channel = λ c less. r.1.on_channel c;
        };
        same_points = r.1.same_points;
      }

pub invisible : PlacementIsInvisible
unfolding linearization
invisible p waiting es s acc h = let t = all_told p waiting es s acc h in (linearization p s t.0 t.1, t.2)
