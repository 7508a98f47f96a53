-- What the token machine of ways can do its actors can do: each step of tokens is there for the node or the switch at which it is made.
use Rattle.std.proofs.Common.{◌≡◌, ℕ, ◌+◌, ◌<◌, ◌≤◌, inl, inr, List, ◌∷◌, ◌++◌, length, Option, Some, None, refl, sym, ap, subst, ◌∙◌}
use Rattle.std.proofs.lemmas.Bool.{cases_lt}
use Rattle.vc_network.specs.Actors.{Network}
use Rattle.vc_tokens.specs.Tokens.{Token, Byte, EndMark}
use Rattle.vc_credit.specs.Ends.{Sender, Puts, puts_byte, puts_mark}
use Rattle.vc_machine.specs.Paths.{AtNode, AtSwitch}
use Rattle.vc_machine.specs.Machine as net
use Rattle.vc_machine.specs.Links.{Tokens}
use Rattle.vc_machine.specs.PacketsOfTokens.{seen}
use Rattle.vc_machine.specs.TokenMachine as tok
use Rattle.vc_machine.proofs.Standing.{taken_whole}
use Rattle.vc_machine.proofs.Ports.{switch_same, not_both}
use Rattle.vc_switch.specs.Waiting.{Wormhole}
use Rattle.vc_switch.specs.Switch as switch
use Rattle.vc_switch.specs.Switch.{Switch, Input, with_header, passes_byte, drops_byte, passes_mark, loses}
use Rattle.vc_switch.specs.Able as switch_able
use Rattle.vc_vcp.specs.Able as node_able
use Rattle.vc_vcp.specs.Links as links
use Rattle.vc_vcp.specs.Links.{Vcp}
use Rattle.vc_vcp.specs.Steps.{takes}
use Rattle.vc_network.specs.Plan.{Plan, body_limit, ends, switch_plan, net_of, near, far, IsAccepted, IsOutOf, IsInto}
use Rattle.vc_network.specs.Network.{Actor}
use Rattle.vc_network.specs.Credit.{sender_at}
use Rattle.vc_network.specs.Views.{vcps, switches, queue_at}
use Rattle.vc_network.proofs.NodeLift.{taken_back}
use Rattle.vc_network.specs.Packets.{SameBound}
use Rattle.vc_network.proofs.TokenViews.{NodeEnd, SwitchEnd, SameReceiver, carriers, losses}
use Rattle.vc_network.proofs.Steps.{Good}
use Rattle.vc_network.proofs.SwitchLinks.{has_group, group_back, header_same, bound_some, bound_back}
use Rattle.vc_network.proofs.Wires.{one_near}

-- what leaves by a way of the network leaves by its link
pub body_back : (plan : Plan) (k o w : ℕ) (b d : List ℕ) → near plan w ≡ AtSwitch k o → net.BodyLeaves (net_of plan) k b w d → switch.BodyLeaves (switch_plan plan k) b o d
body_back plan k o w b d at h =
    let l = h.leaves in
    let same : l.link ≡ o = (switch_same k k l.link o (sym l.near ∙ at)).1 in
    subst (λ z. switch.BodyLeaves (switch_plan plan k) b z d) same
    (record {
      stack = h.stack;
      after = h.after;
      rest = h.rest;
      before_is = h.before_is;
      leaves = record { header = l.header; rest = l.rest; first = l.first; last = l.last; front = l.front; group = l.group; low = l.low; high = l.high; left = l.left };
      after_is = h.after_is;
    })

module _ {P : Type 0} (plan : Plan) (acc : IsAccepted plan) (s : Network (Actor P) Token) (t : Tokens) (g : Good plan s t) where
  abbrev vs : ℕ → Vcp
  vs = vcps s

  abbrev sw : ℕ → Switch
  sw = switches plan s

  node_end : (w n l : ℕ) → IsInto plan w (AtNode n l) → NodeEnd ((vs n).link l) (t.receiver w)
  node_end w n l into = subst (λ p. SameReceiver plan vs sw p (t.receiver w)) into.1 (g.shows.receiver w into.0)

  switch_end : (w k l : ℕ) → IsInto plan w (AtSwitch k l) → SwitchEnd plan k ((sw k).input l) (t.receiver w)
  switch_end w k l into = subst (λ p. SameReceiver plan vs sw p (t.receiver w)) into.1 (g.shows.receiver w into.0)

  -- at a node

  pub node_passes : (w n l : ℕ) (u : Tokens) → IsInto plan w (AtNode n l) → tok.Passes (net_of plan) t w u → node_able.CanPass (body_limit plan) (ends plan n) (vs n) l
  node_passes w n l u into (tok.node_byte m i b rest there front after) =
      let e = node_end w n l into in
      let here = sym e.buffer ∙ front in
      elim (cases_lt (length ((vs n).link l).passed) (body_limit plan)) [
        | inl less ↦ record { taken = None; new = _; passes = links.passes_byte b rest here refl less refl }
        | inr past ↦ record { taken = None; new = _; passes = links.drops_byte b rest here refl past refl }
      ]
  node_passes w n l u into (tok.node_mark m i mark rest v there front reach after) =
      let e = node_end w n l into in
      let k = taken_whole (net_of plan) t (seen (net_of plan) t) w n l mark rest g.sound.view g.sound.inv into.0 into.1 front in
      let j = taken_back plan (carriers vs) (losses sw) t.nodes n (record { body = ((vs n).link l).passed; mark = mark }) k.0 acc g.shows.nodes
      (subst (λ z. net.IsTaken (net_of plan) t.nodes n (record { body = z; mark = mark }) k.0) e.got k.1) in
      record { taken = Some j.0; new = _; passes = links.passes_mark mark rest j.0 j.1 (sym e.buffer ∙ front) refl (takes j.2) refl }
  node_passes w n l u into (tok.switch_byte m i b rest there none front after) = absurd (not_both n l m i (sym into.1 ∙ there))
  node_passes w n l u into (tok.switch_mark m i mark rest there none front closes) = absurd (not_both n l m i (sym into.1 ∙ there))

  pub node_puts : (w n l : ℕ) (u : Tokens) → IsOutOf plan w (AtNode n l) → 0 < (t.sender w).credit → tok.Puts (net_of plan) Wormhole t w u → node_able.CanPut (vs n) l
  node_puts w n l u out some (tok.node_byte m i p rest b more there front is after) =
      let a : t.sender w ≡ ((vs n).link l).sender = g.shows.sender w out.0 ∙ ap (sender_at vs sw) out.1 in
      let queue = sym (ap (queue_at (carriers vs)) out.1) ∙ sym (g.shows.nodes.queue w out.0) ∙ front in
      record {
        token = Byte b;
        new = _;
        sends = record {
          packet = p;
          rest = rest;
          sender = _;
          front = queue;
          puts = puts_byte b more (subst (λ (z : Sender). 0 < z.credit) a some) (is ∙ ap (λ (z : Sender). z.sent ++ b ∷ more) a) refl refl;
          after = refl;
        };
      }
  node_puts w n l u out some (tok.node_mark m i p rest there front is after) =
      let a : t.sender w ≡ ((vs n).link l).sender = g.shows.sender w out.0 ∙ ap (sender_at vs sw) out.1 in
      let queue = sym (ap (queue_at (carriers vs)) out.1) ∙ sym (g.shows.nodes.queue w out.0) ∙ front in
      record {
        token = EndMark p.mark;
        new = _;
        sends = record {
          packet = p;
          rest = rest;
          sender = _;
          front = queue;
          puts = puts_mark p.mark (subst (λ (z : Sender). 0 < z.credit) a some) (is ∙ ap (λ (z : Sender). z.sent) a) refl refl refl;
          after = refl;
        };
      }
  node_puts w n l u out some (tok.switch_byte m v d b more h is after) = absurd (let k = h.leaves in let j = k.leaves in not_both n l m j.link (sym out.1 ∙ j.near))
  node_puts w n l u out some (tok.switch_mark m v d mark h whole is after) = absurd (let k = h.leaves in let j = k.leaves in not_both n l m j.link (sym out.1 ∙ j.near))

  pub node_grants : (w n l : ℕ) → IsInto plan w (AtNode n l) → length (t.receiver w).buffer + (t.receiver w).promised + 8 ≤ 16 → node_able.CanGrant (vs n) l
  node_grants w n l into room =
      let e = node_end w n l into in (
        _,
        record {
          receiver = _;
          grants = record { room = subst (λ z. length z + ((vs n).link l).receiver.promised + 8 ≤ 16) e.buffer (subst (λ z. length (t.receiver w).buffer + z + 8 ≤ 16) e.promised room); after = refl };
          after = refl;
        },
      )

  -- at a switch

  pub switch_passes : (w k l : ℕ) (u : Tokens) → IsInto plan w (AtSwitch k l) → tok.Passes (net_of plan) t w u → switch_able.CanPass (body_limit plan) (switch_plan plan k) (sw k) l
  switch_passes w k l u into (tok.node_byte m i b rest there front after) = absurd (not_both m i k l (sym there ∙ into.1))
  switch_passes w k l u into (tok.node_mark m i mark rest v there front reach after) = absurd (not_both m i k l (sym there ∙ into.1))
  switch_passes w k l u into (tok.switch_byte m i b rest there none front after) =
      let e = switch_end w k l into in
      elim (cases_lt (length (with_header (switch_plan plan k) l ((sw k).input l))) (body_limit plan)) [
        | inl less ↦ (_, passes_byte b rest (sym e.mark ∙ none) (sym e.buffer ∙ front) less refl)
        | inr past ↦ (_, drops_byte b rest (sym e.mark ∙ none) (sym e.buffer ∙ front) past refl)
      ]
  switch_passes w k l u into (tok.switch_mark m i mark rest there none front (tok.keeps group after)) =
      let e = switch_end w k l into in
      let q = switch_same m k i l (sym there ∙ into.1) in
      let here : net.HasGroup (net_of plan) k (with_header (switch_plan plan k) l ((sw k).input l)) =
      subst (net.HasGroup (net_of plan) k) (header_same plan k l ((sw k).input l) (t.receiver w) e)
      (subst (λ z. net.HasGroup (net_of plan) k (tok.with_header (net_of plan) k z (t.receiver w))) q.1 (subst (λ z. net.HasGroup (net_of plan) z (tok.with_header (net_of plan) z i (t.receiver w))) q.0 group)) in
      (_, passes_mark mark rest (sym e.mark ∙ none) (sym e.buffer ∙ front) (group_back plan k (with_header (switch_plan plan k) l ((sw k).input l)) here) refl)
  switch_passes w k l u into (tok.switch_mark m i mark rest there none front (tok.loses alone after)) =
      let e = switch_end w k l into in
      let q = switch_same m k i l (sym there ∙ into.1) in
      let never : switch.HasGroup (switch_plan plan k) (with_header (switch_plan plan k) l ((sw k).input l)) → ⊥ = λ h. alone
      (subst (λ z. net.HasGroup (net_of plan) z (tok.with_header (net_of plan) z i (t.receiver w))) (sym q.0)
      (subst (λ z. net.HasGroup (net_of plan) k (tok.with_header (net_of plan) k z (t.receiver w))) (sym q.1)
      (subst (net.HasGroup (net_of plan) k) (sym (header_same plan k l ((sw k).input l) (t.receiver w) e)) (has_group plan k (with_header (switch_plan plan k) l ((sw k).input l)) h)))) in
      (_, loses mark rest (sym e.mark ∙ none) (sym e.buffer ∙ front) never refl)

  -- an input that is bound to the link of way w is at the end of a way that is bound to w
  bound_way : (w k o i : ℕ) → IsOutOf plan w (AtSwitch k o) → ((sw k).input i).bound ≡ Some o → (v : ℕ) × IsInto plan v (AtSwitch k i) × ((t.receiver v).bound ≡ Some w)
  bound_way w k o i out b = elim (g.switched k i) [
    | inl new ↦ absurd (let e : None ≡ Some o = sym (ap (λ (x : Input). x.bound) new) ∙ b in cc)
    | inr at ↦ (let e = switch_end at.0 k i at.1 in
        let q = bound_some plan k o ((sw k).input i).bound (t.receiver at.0).bound e.bound b in
        (at.0, at.1, q.1 ∙ ap Some (one_near plan acc q.0 w q.2.0 out.0 (q.2.1 ∙ sym out.1))))
  ]

  -- an input at the end of a way that is bound to none is bound to none
  unbound_input : (k : ℕ) (x b : Option ℕ) → SameBound plan k x b → b ≡ None → x ≡ None
  unbound_input k None b h e = refl
  unbound_input k (Some o) b h e = absurd (let f : None ≡ Some h.0 = sym e ∙ h.1 in cc)

  pub switch_routes : (w out k l : ℕ) (u : Tokens) → IsInto plan w (AtSwitch k l) → tok.Binds (net_of plan) Wormhole t w out u → (o : ℕ) × IsOutOf plan out (AtSwitch k o) × switch_able.CanRoute (switch_plan plan k) (sw k) l o
  switch_routes w out k l u into h =
      let e = switch_end w k l into in
      let q = switch_same h.switch k h.link l (sym h.far ∙ into.1) in
      let group : net.BodyLeaves (net_of plan) k (t.receiver w).got out h.body = subst (λ z. net.BodyLeaves (net_of plan) z (t.receiver w).got out h.body) q.0 h.group in
      let j = group.leaves in
      let to : IsOutOf plan out (AtSwitch k j.link) = (j.real, j.near) in (
        j.link,
        to,
        (
          _,
          record {
            body = h.body;
            unbound = unbound_input k ((sw k).input l).bound (t.receiver w).bound e.bound h.unbound;
            group = body_back plan k j.link out ((sw k).input l).got h.body j.near (subst (λ z. net.BodyLeaves (net_of plan) k z out h.body) e.got group);
            may_go = tt;
            free = λ i b. (let v = bound_way out k j.link i to b in h.free v.0 v.1.0 v.2);
            after = refl;
          },
        ),
      )

  -- a token of the packet that is bound to the output
  put_by : (w k o v : ℕ) (d : List ℕ) (token : Token) (sender : Sender) → IsOutOf plan w (AtSwitch k o) → (m : ℕ) → tok.IsBoundTo (net_of plan) Wormhole t m v w d →
      ((x : Input) → x.mark ≡ (t.receiver v).mark → Puts ((sw k).output o) d x.mark token sender) → switch_able.CanPut (switch_plan plan k) (sw k) o
  put_by w k o v d token sender out m h puts =
      let l1 = h.leaves in
      let l2 = l1.leaves in
      let sk : m ≡ k = (switch_same m k l2.link o (sym l2.near ∙ out.1)).0 in
      let into : IsInto plan v (AtSwitch k h.link) = (h.real, h.far ∙ ap (λ z. AtSwitch z h.link) sk) in
      let e = switch_end v k h.link into in
      let q = bound_back plan k w ((sw k).input h.link).bound (t.receiver v).bound e.bound h.bound in
      let here : ((sw k).input h.link).bound ≡ Some o = q.1 ∙ ap Some (switch_same k k q.0 o (sym q.2.1 ∙ out.1)).1 in
      record {
        token = token;
        new = _;
        sends = record {
          link = h.link;
          body = d;
          sender = sender;
          bound = here;
          only = λ i b. (let x = bound_way w k o i out b in
              let same : x.0 ≡ v = g.sound.bindings.one x.0 v w x.1.0 h.real x.2 h.bound in
              (switch_same k k i h.link (sym x.1.1 ∙ ap (far plan) same ∙ into.1)).1);
          leaves = body_back plan k o w ((sw k).input h.link).got d out.1 (subst (λ z. net.BodyLeaves (net_of plan) k z w d) e.got (subst (λ z. net.BodyLeaves (net_of plan) z (t.receiver v).got w d) sk h.leaves));
          may_go = tt;
          puts = puts ((sw k).input h.link) (sym e.mark);
          after = refl;
        };
      }

  pub switch_puts : (w k o : ℕ) (u : Tokens) → IsOutOf plan w (AtSwitch k o) → 0 < (t.sender w).credit → tok.Puts (net_of plan) Wormhole t w u → switch_able.CanPut (switch_plan plan k) (sw k) o
  switch_puts w k o u out some (tok.node_byte m i p rest b more there front is after) = absurd (not_both m i k o (sym there ∙ out.1))
  switch_puts w k o u out some (tok.node_mark m i p rest there front is after) = absurd (not_both m i k o (sym there ∙ out.1))
  switch_puts w k o u out some (tok.switch_byte m v d b more h is after) =
      let a : t.sender w ≡ (sw k).output o = g.shows.sender w out.0 ∙ ap (sender_at vs sw) out.1 in
      put_by w k o v d (Byte b) _ out m h (λ x same. puts_byte b more (subst (λ (z : Sender). 0 < z.credit) a some) (is ∙ ap (λ (z : Sender). z.sent ++ b ∷ more) a) refl refl)
  switch_puts w k o u out some (tok.switch_mark m v d mark h whole is after) =
      let a : t.sender w ≡ (sw k).output o = g.shows.sender w out.0 ∙ ap (sender_at vs sw) out.1 in
      put_by w k o v d (EndMark mark) _ out m h (λ x same. puts_mark mark (subst (λ (z : Sender). 0 < z.credit) a some) (is ∙ ap (λ (z : Sender). z.sent) a) (same ∙ whole) refl refl)

  pub switch_grants : (w k l : ℕ) → IsInto plan w (AtSwitch k l) → length (t.receiver w).buffer + (t.receiver w).promised + 8 ≤ 16 → switch_able.CanGrant (sw k) l
  switch_grants w k l into room =
      let e = switch_end w k l into in (
        _,
        record {
          receiver = _;
          grants = record { room = subst (λ z. length z + ((sw k).input l).receiver.promised + 8 ≤ 16) e.buffer (subst (λ z. length (t.receiver w).buffer + z + 8 ≤ 16) e.promised room); after = refl };
          after = refl;
        },
      )
