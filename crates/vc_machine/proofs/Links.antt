-- A labelled plan of virtual links gives an accepted network.
use Rattle.std.proofs.Common.{◌≡◌, ℕ, ◌<◌, Bool, true, false, sym, subst, Option, not, refl}
use Rattle.std.proofs.Math.Bool.{not-not}
use Rattle.vc_machine.specs.Paths.{Carries, End, Channel, Net, Delivers, IsAtBlock, IsAccepted}
use Rattle.vc_switch.specs.Forward.{IsDrawn}

-- a virtual link, and a channel on it: on link `link`, from its end a where `ab`, otherwise from its end b
pub record Link : Type 0 where
  pub a : End
  pub b : End

pub record On : Type 0 where
  pub link : ℕ
  pub ab : Bool

abbrev pub end_of : Link → Bool → End
end_of l true = l.a
end_of l false = l.b

abbrev pub channel_on : (ℕ → Link) → On → Channel
channel_on links o = record { from = end_of (links o.link) o.ab; to = end_of (links o.link) (not o.ab) }

pub record IsLabelled (net : Net) (count : ℕ) (links : ℕ → Link) (ons : ℕ → On) : Type 0 where
  pub chan : (c : ℕ) → net.chan c ≡ channel_on links (ons c)
  pub on_link : (c : ℕ) → Carries net c → (ons c).link < count
  -- each way of a virtual link has at most one channel
  pub one_channel : (c d : ℕ) → Carries net c → Carries net d → (ons c).link ≡ (ons d).link → (ons c).ab ≡ (ons d).ab → c ≡ d
  -- no two ends have one node and block
  pub one_end : (i j : ℕ) (p q : Bool) → i < count → j < count → IsAtBlock (end_of (links i) p) (end_of (links j) q).node (end_of (links j) q).block → (i ≡ j) × (p ≡ q)
  pub sends : (i : ℕ) (p : Bool) → i < count → (end_of (links i) p).way < net.ways
  pub delivers : (i : ℕ) (p : Bool) → i < count → Delivers net 32 (end_of (links i) p).way (end_of (links i) p).route (end_of (links i) (not p))
  pub ranges : (n i : ℕ) → (v : Option ℕ) × IsDrawn ((net.switch n).random i) v

pub not_same : (p q : Bool) → not p ≡ not q → p ≡ q
not_same true true e = refl
not_same false false e = refl
not_same true false e = sym e
not_same false true e = sym e

pub labelled_accepted : (net : Net) (count : ℕ) (links : ℕ → Link) (ons : ℕ → On) → IsLabelled net count links ons → IsAccepted net
labelled_accepted net count links ons h =
    record {
      ways = λ c r. subst (λ k. (k.from.way < net.ways) × (k.to.way < net.ways)) (sym (h.chan c)) (h.sends (ons c).link (ons c).ab (h.on_link c r), h.sends (ons c).link (not (ons c).ab) (h.on_link c r));
      there = λ c r. subst (λ k. Delivers net 32 k.from.way k.from.route k.to) (sym (h.chan c)) (h.delivers (ons c).link (ons c).ab (h.on_link c r));
      back = λ c r. subst (λ k. Delivers net 32 k.to.way k.to.route k.from) (sym (h.chan c))
          (subst (λ p. Delivers net 32 (end_of (links (ons c).link) (not (ons c).ab)).way (end_of (links (ons c).link) (not (ons c).ab)).route (end_of (links (ons c).link) p)) (not-not (ons c).ab)
          (h.delivers (ons c).link (not (ons c).ab) (h.on_link c r)));
      one_in = λ c d r q e. (let g = subst (λ k. IsAtBlock k.to (channel_on links (ons d)).to.node (channel_on links (ons d)).to.block) (h.chan c) (subst (λ k. IsAtBlock (net.chan c).to k.to.node k.to.block) (h.chan d) e) in
          let s = h.one_end (ons c).link (ons d).link (not (ons c).ab) (not (ons d).ab) (h.on_link c r) (h.on_link d q) g in
          h.one_channel c d r q s.0 (not_same (ons c).ab (ons d).ab s.1));
      one_out = λ c d r q e. (let g = subst (λ k. IsAtBlock k.from (channel_on links (ons d)).from.node (channel_on links (ons d)).from.block) (h.chan c) (subst (λ k. IsAtBlock (net.chan c).from k.from.node k.from.block) (h.chan d) e) in
          let s = h.one_end (ons c).link (ons d).link (ons c).ab (ons d).ab (h.on_link c r) (h.on_link d q) g in
          h.one_channel c d r q s.0 s.1);
      ranges = h.ranges;
    }
