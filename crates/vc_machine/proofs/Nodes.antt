-- The steps of the nodes keep the invariant.
use Rattle.std.proofs.Common.{◌≡◌, ℕ, ◌<◌, List, [], ◌∷◌, ◌++◌, sym, ap, subst, ◌∙◌, arith, None, le_refl}
use Rattle.vc_machine.specs.Paths.{Carries, Net, Delivers}
use Rattle.vc_machine.specs.Machine.{State, ChanState, set_chan, enqueue}
use Rattle.vc_packets.specs.Functions.{put}
use Rattle.vc_machine.proofs.Basics.{put-same, every_put₂}
use Rattle.vc_machine.proofs.Labels.{Phase, Label, Labels, tally, On, ChanFits, Inv, goal_end, carried}
use Rattle.vc_machine.proofs.Ways.{WaysFit, set_fits, push_queue, retied, number_here, number_other}
use Rattle.vc_machine.proofs.Moves.{tally_queue}

-- the invariant but for channel c, none of whose packets is on a way
pub record Loose (net : Net) (s : State) (c : ℕ) : Type 0 where
  pub labels : ℕ → Labels
  pub phases : ℕ → Phase
  pub ways : WaysFit net phases s.chans s.ways labels
  pub none : tally c net.ways labels ≡ 0
  pub others : (d : ℕ) → (d ≡ c → ⊥) → Carries net d → ChanFits (net.chan d) (phases d) (s.chans d) (tally d net.ways labels)
  pub strays : s.strays ≡ 0
  pub lost : s.lost ≡ 0

pub loose_now : (net : Net) (s : State) (c : ℕ) (i : Inv net s) → tally c net.ways i.labels ≡ 0 → Loose net s c
loose_now net s c i none = record { labels = i.labels; phases = i.phases; ways = i.ways; none = none; others = λ d ne. i.chans d; strays = i.strays; lost = i.lost }

pub settle : (net : Net) (s : State) (c : ℕ) (l : Loose net s c) (f : Phase) (x : ChanState) → ChanFits (net.chan c) f x 0 → Inv net (set_chan s c x)
settle net s c l f x fits =
    record {
      labels = l.labels;
      phases = put l.phases c f;
      ways = retied net l.phases s.chans c f x s.ways l.labels l.none l.ways;
      chans = every_put₂ (λ d g y. Carries net d → ChanFits (net.chan d) g y (tally d net.ways l.labels)) l.phases s.chans c f x
          (λ h. subst (λ n. ChanFits (net.chan c) f x n) (sym l.none) fits)
          l.others;
      strays = l.strays;
      lost = l.lost;
    }

pub settle_queue : (net : Net) (s : State) (c : ℕ) (l : Loose net s c) (f : Phase) (x : ChanState) (out : ℕ) (stack : List ℕ) → Carries net c → out < net.ways →
    ChanFits (net.chan c) f x 1 → Delivers net 32 out stack (goal_end f (net.chan c)) → Inv net (enqueue (set_chan s c x) out (carried f x.unacked stack))
settle_queue net s c l f x out stack real within fits delivers =
    let ph = put l.phases c f in
    let ch = put s.chans c x in
    let label : Label = record { chan = c; stack = stack } in
    let tied = retied net l.phases s.chans c f x s.ways l.labels l.none l.ways in
    let pf : f ≡ ph c = sym (put-same l.phases c f) in
    let pc : x ≡ ch c = sym (put-same s.chans c x) in
    let on : On net ph ch out None label (carried f x.unacked stack) = record {
      real = real;
      fuel = 32;
      small = le_refl 32;
      delivers = subst (λ k. Delivers net 32 out stack (goal_end k (net.chan c))) pf delivers;
      is = ap (λ k. carried k x.unacked stack) pf ∙ ap (λ k. carried (ph c) k.unacked stack) pc;
    } in
    let L = put l.labels out (record (l.labels out) { queue = (l.labels out).queue ++ label ∷ [] }) in
    record {
      labels = L;
      phases = ph;
      ways = set_fits net ph ch s.ways l.labels out (record (s.ways out) { queue = (s.ways out).queue ++ carried f x.unacked stack ∷ [] })
          (record (l.labels out) { queue = (l.labels out).queue ++ label ∷ [] }) tied
          (push_queue net ph ch out (s.ways out) (l.labels out) label (carried f x.unacked stack) (tied out within) on);
      chans = every_put₂ (λ d g y. Carries net d → ChanFits (net.chan d) g y (tally d net.ways L)) l.phases s.chans c f x
          (λ h. subst (λ n. ChanFits (net.chan c) f x n)
          (let e = tally_queue c out net.ways l.labels label within in let k = number_here label [] in let z = l.none in omega arith) fits)
          (λ d ne h. subst (λ n. ChanFits (net.chan d) (l.phases d) (s.chans d) n)
          (let e = tally_queue d out net.ways l.labels label within in let k = number_other d label [] (λ q. ne (sym q)) in omega arith) (l.others d ne h));
      strays = l.strays;
      lost = l.lost;
    }
