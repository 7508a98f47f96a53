-- What the code's network shows of a channel is its view.
use Rattle.std.proofs.Common.{◌≡◌, ℕ, Bool, true, slice_get, Option, Some, None, is_some, IsSome, refl, sym, ap, ◌∙◌, subst}
use Rattle.vc_machine.specs.Rendezvous.{View, nothing_yet}
use Rattle.vc_network.specs.Network as net
use Rattle.vc_network.specs.Plan.{Plan, Home, Way, Inside, home}
use Rattle.vc_network.specs.Views.{view_at, vcp_of, inner_of, halves_view, source_node, sink_node}
use Rattle.vc_plan.specs.declared.plan.Plan.{Plan as Checked}
use Rattle.vc_plan.specs.declared.channel.Channel.{Channel}
use Rattle.vc_core.specs.Channels.{IsChannelOf}
use Rattle.vc_core.specs.declared.channels.ChannelInfo.{ChannelInfo}
use Rattle.vc_accepted.specs.NetworkOf.{network_of}
use Rattle.vc_switch.specs.Switch.{new_switch}
use Rattle.vc_vcp.specs.Names.{named}
use Rattle.vc_packets.specs.Functions.{shown_or}
use Rattle.vc_vcp.specs.VcpView.{seen}
use Rattle.vc_actor.specs.OfPlan.{AreInside}
use Rattle.vc_actor.specs.ActorView.{Acting, OfNode, OfSwitch, actor_of, view_of, views_of}
use Rattle.vc_core.specs.State.{State, shown, IsNetworkOf}
use Rattle.vc_actor.specs.Private.Parts.{node_at}
use Rattle.vc_actor.specs.ChannelView.{by_inside, node_view, view_at_node}
use Rattle.vc_actor.specs.declared.inside.Internal.{Internal}
use Rattle.vc_actor.specs.declared.node.Node.{Node}

-- a channel inside the node
there : (o : Option Internal) (v : View) → is_some o ≡ true → shown_or nothing_yet view_of o ≡ by_inside o v
there (Some x) v h = refl
there None v h = absurd (cc)

-- a channel on a virtual link
elsewhere : (o : Option Internal) (v : View) → (is_some o ≡ true → ⊥) → v ≡ by_inside o v
elsewhere (Some x) v h = absurd (h refl)
elsewhere None v h = refl

abbrev halves_at : Node → ℕ → View
halves_at n c = halves_view ((seen n.vcp).carrier.out c) ((seen n.vcp).carrier.into c)

pub inner_view : (n : Node) (c : ℕ) → IsSome (named (λ x. x.chan) c n.inside) → views_of n.inside c ≡ node_view n c
inner_view n c h = there (named (λ x. x.chan) c n.inside) (halves_at n c) h

pub outer_view : (n : Node) (c : ℕ) → (IsSome (named (λ x. x.chan) c n.inside) → ⊥) → halves_at n c ≡ node_view n c
outer_view n c h = elsewhere (named (λ x. x.chan) c n.inside) (halves_at n c) h

no_way : (v n : ℕ) (ab : Bool) → Way v ab ≡ Inside n → ⊥
no_way v n ab e = absurd (cc)

-- the node is one that knows which channels are inside it
abbrev Knows : Plan → ℕ → Option Acting → Type 0
Knows plan k o = (n : Node) → o ≡ Some (OfNode n) → AreInside plan k n.inside

-- what the two halves of a channel show, each at its own node
pub record SourceShows (plan : Plan) (s : State) (c : ℕ) (h : Home) (o : Option Node) : Type 0 where
  pub offered : (view_at_node o c).offered ≡ (view_at plan (shown s) c h).offered
  pub finished : (view_at_node o c).finished ≡ (view_at plan (shown s) c h).finished

pub record SinkShows (plan : Plan) (s : State) (c : ℕ) (h : Home) (o : Option Node) : Type 0 where
  pub taken : (view_at_node o c).taken ≡ (view_at plan (shown s) c h).taken
  pub stopped : (view_at_node o c).stopped ≡ (view_at plan (shown s) c h).stopped

state_is : (s : State) (k : ℕ) (o : Option Acting) → slice_get s.actors k ≡ o → shown_or (net.IsSwitch new_switch) actor_of o ≡ (shown s).state k
state_is s k o e = ap (shown_or (net.IsSwitch new_switch) actor_of) (sym e)

-- a channel on a virtual link: by the halves of the node, where there is one
out_view : (plan : Plan) (k c : ℕ) (o : Option Acting) → Knows plan k o → (home plan c ≡ Inside k → ⊥) →
    let shows = shown_or (net.IsSwitch new_switch) actor_of o in halves_view ((vcp_of shows).carrier.out c) ((vcp_of shows).carrier.into c) ≡ view_at_node (node_at o) c
out_view plan k c None knows away = refl
out_view plan k c (Some (OfSwitch x)) knows away = refl
out_view plan k c (Some (OfNode n)) knows away = outer_view n c (λ here. away ((knows n refl c).0 here))

-- and one inside the node
in_view : (plan : Plan) (k c : ℕ) (o : Option Acting) → Knows plan k o → home plan c ≡ Inside k → inner_of (shown_or (net.IsSwitch new_switch) actor_of o) c ≡ view_at_node (node_at o) c
in_view plan k c None knows here = refl
in_view plan k c (Some (OfSwitch x)) knows here = refl
in_view plan k c (Some (OfNode n)) knows here = inner_view n c ((knows n refl c).1 here)

source_shows : (plan : Plan) (s : State) (c : ℕ) (h : Home) (o : Option Acting) → h ≡ home plan c → slice_get s.actors (source_node plan h) ≡ o → Knows plan (source_node plan h) o → SourceShows plan s c h (node_at o)
source_shows plan s c (Way v ab) o is e knows =
    let k = source_node plan (Way v ab) in
    let at = state_is s k o e in
    let out = out_view plan k c o knows (λ here. no_way v k ab (is ∙ here)) in
    record {
      offered = ap (λ z. z.offered) (sym out) ∙ ap (λ z. ((vcp_of z).carrier.out c).offered) at;
      finished = ap (λ z. z.finished) (sym out) ∙ ap (λ z. ((vcp_of z).carrier.out c).finished) at;
    }
source_shows plan s c (Inside n) o is e knows =
    let at = state_is s n o e in
    let into = in_view plan n c o knows (sym is) in
    record {
      offered = ap (λ z. z.offered) (sym into) ∙ ap (λ z. (inner_of z c).offered) at;
      finished = ap (λ z. z.finished) (sym into) ∙ ap (λ z. (inner_of z c).finished) at;
    }

sink_shows : (plan : Plan) (s : State) (c : ℕ) (h : Home) (o : Option Acting) → h ≡ home plan c → slice_get s.actors (sink_node plan h) ≡ o → Knows plan (sink_node plan h) o → SinkShows plan s c h (node_at o)
sink_shows plan s c (Way v ab) o is e knows =
    let k = sink_node plan (Way v ab) in
    let at = state_is s k o e in
    let out = out_view plan k c o knows (λ here. no_way v k ab (is ∙ here)) in
    record {
      taken = ap (λ z. z.taken) (sym out) ∙ ap (λ z. ((vcp_of z).carrier.into c).taken) at;
      stopped = ap (λ z. z.stopped) (sym out) ∙ ap (λ z. ((vcp_of z).carrier.into c).stopped) at;
    }
sink_shows plan s c (Inside n) o is e knows =
    let at = state_is s n o e in
    let into = in_view plan n c o knows (sym is) in
    record {
      taken = ap (λ z. z.taken) (sym into) ∙ ap (λ z. (inner_of z c).taken) at;
      stopped = ap (λ z. z.stopped) (sym into) ∙ ap (λ z. (inner_of z c).stopped) at;
    }

knows : (p : Checked) (s : State) (k : ℕ) (o : Option Acting) → IsNetworkOf p s → slice_get s.actors k ≡ o → Knows (network_of p) k o
knows p s k o is e n same = (is.actors k (OfNode n) (e ∙ same)).1.inside

pub source_view : (p : Checked) (s : State) (c : ℕ) (o : Option Acting) → IsNetworkOf p s → slice_get s.actors (source_node (network_of p) (home (network_of p) c)) ≡ o → SourceShows (network_of p) s c (home (network_of p) c) (node_at o)
source_view p s c o is e = source_shows (network_of p) s c (home (network_of p) c) o refl e (knows p s (source_node (network_of p) (home (network_of p) c)) o is e)

pub sink_view : (p : Checked) (s : State) (c : ℕ) (o : Option Acting) → IsNetworkOf p s → slice_get s.actors (sink_node (network_of p) (home (network_of p) c)) ≡ o → SinkShows (network_of p) s c (home (network_of p) c) (node_at o)
sink_view p s c o is e = sink_shows (network_of p) s c (home (network_of p) c) o refl e (knows p s (sink_node (network_of p) (home (network_of p) c)) o is e)

-- by what the code finds
pub source_found : (p : Checked) (s : State) (c : ℕ) (o : Option Node) → IsNetworkOf p s → node_at (slice_get s.actors (source_node (network_of p) (home (network_of p) c))) ≡ o → SourceShows (network_of p) s c (home (network_of p) c) o
source_found p s c o is e = subst (SourceShows (network_of p) s c (home (network_of p) c)) e (source_view p s c _ is refl)

pub sink_found : (p : Checked) (s : State) (c : ℕ) (o : Option Node) → IsNetworkOf p s → node_at (slice_get s.actors (sink_node (network_of p) (home (network_of p) c))) ≡ o → SinkShows (network_of p) s c (home (network_of p) c) o
sink_found p s c o is e = subst (SinkShows (network_of p) s c (home (network_of p) c)) e (sink_view p s c _ is refl)

-- the channel of this number is one
pub channel_is : (p : Checked) (c : ℕ) (info : ChannelInfo) (x : Channel) (is : IsChannelOf p c info) → slice_get p.channels c ≡ Some x → is.channel ≡ x
channel_is p c info x is there = let e : Some is.channel ≡ Some x = sym is.here ∙ there in cc
