-- The opening state of the network means the program's: nothing is to come, and nothing has begun.
use Rattle.std.proofs.Common.{◌≡◌, ℕ, suc, ◌<◌, Bool, true, false, List, [], ◌∷◌, ◌++◌, length, inl, inr, refl, sym, ap, subst, ◌∙◌, arith, if◌then◌else◌, nat_lt}
use Rattle.vc_accepted.specs.Begin.{begin_of, node_plan}
use Rattle.vc_accepted.specs.NetworkOf.{network_of}
use Rattle.vc_accepted.specs.Process.{Process}
use Rattle.vc_machine.specs.Rendezvous.{View, nothing_yet}
use Rattle.vc_meaning.specs.Events.{OpeningMeans}
use Rattle.vc_meaning.specs.Meaning.{MessagePasses, IsUnfinished, EndIsToCome, all_got, all_begun}
use Rattle.vc_network.proofs.Main.{first_node}
use Rattle.vc_network.specs.Network.{Node, Actor, IsNode, IsSwitch, first, begins}
use Rattle.vc_network.specs.Plan.{Home, Way, Inside, home}
use Rattle.vc_network.specs.Views.{vcp_of, inner_of, source_node, sink_node, halves_view, view_at, view}
use Rattle.vc_occam.proofs.StepWaits.{begin_waits}
use Rattle.vc_plan.specs.declared.plan.Plan.{Plan}
use Rattle.vc_process.specs.Numbering.{written}
use Rattle.vc_switch.specs.Switch.{new_switch}
use Rattle.vc_vcp.specs.Links.{Vcp, new_vcp}

-- each node's actor at first
abbrev at_first : Plan → ℕ → Node Process
at_first p n = record { vcp = new_vcp; process = begin_of p n; inner = λ c. nothing_yet }

first_vcp : (p : Plan) (n : ℕ) → vcp_of (first (network_of p) (begin_of p) n) ≡ new_vcp
first_vcp p n = by_test (nat_lt n (length p.nodes))
  where
    by_test : (b : Bool) → vcp_of {P = Process} (if b then IsNode (at_first p n) else IsSwitch new_switch) ≡ new_vcp
    by_test true = refl
    by_test false = refl

first_inner : (p : Plan) (n c : ℕ) → inner_of (first (network_of p) (begin_of p) n) c ≡ nothing_yet
first_inner p n c = by_test (nat_lt n (length p.nodes))
  where
    by_test : (b : Bool) → inner_of {P = Process} (if b then IsNode (at_first p n) else IsSwitch new_switch) c ≡ nothing_yet
    by_test true = refl
    by_test false = refl

-- no channel shows anything
first_view : (p : Plan) (c : ℕ) → view (network_of p) (begins (network_of p) (begin_of p)) c ≡ nothing_yet
first_view p c = by_home (home (network_of p) c)
  where
    by_home : (h : Home) → view_at (network_of p) (begins (network_of p) (begin_of p)) c h ≡ nothing_yet
    by_home (Way v ab) =
        let src = source_node (network_of p) (Way v ab) in
        let snk = sink_node (network_of p) (Way v ab) in
        ap (λ (z : Vcp). halves_view (z.carrier.out c) ((vcp_of (first (network_of p) (begin_of p) snk)).carrier.into c)) (first_vcp p src)
        ∙ ap (λ (z : Vcp). halves_view (new_vcp.carrier.out c) (z.carrier.into c)) (first_vcp p snk)
    by_home (Inside n) = first_inner p n c

none_passes : (p : Plan) (c : ℕ) (m : List ℕ) → MessagePasses p (begins (network_of p) (begin_of p)) c m → ⊥
none_passes p c m h =
    let e : [] ≡ m ∷ [] = subst (λ (z : View). z.offered ≡ z.taken ++ m ∷ []) (first_view p c) h.offered in
    cc

no_end : (p : Plan) (c : ℕ) → EndIsToCome p (begins (network_of p) (begin_of p)) c → ⊥
no_end p c (inl h) =
    let e : 0 ≡ suc 0 = subst (λ (z : View). length z.offered ≡ suc z.finished) (first_view p c) h.unfinished in
    omega arith
no_end p c (inr h) = none_passes p c h.0 h.1

pub opening_means : OpeningMeans
opening_means p acc = record {
  part = λ n less. (
    at_first p n,
    first_node (network_of p) (begin_of p) n less,
    record {
      both = (begin_of p n).state;
      ahead = all_got;
      all_came = record { ends = λ c h i k. no_end p c h; messages = λ c m h i k. none_passes p c m h };
      alone = all_begun;
      waits_not = begin_waits (written (node_plan p n).process);
    },
  );
  stopped = λ c less. sym (ap (λ (z : View). z.stopped) (first_view p c));
  passed = λ c less. record { passing = λ m h. absurd (none_passes p c m h); taken = λ none. sym (ap (λ (z : View). z.taken) (first_view p c)) };
}
