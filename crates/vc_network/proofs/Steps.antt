-- One step of the network, as a step of the ways' machine and of one process.
use Rattle.std.proofs.Common.{◌≡◌, ◌≢◌, ℕ, ◌+◌, ◌<◌, ◌⊎◌, inl, inr, true, false, List, [], ◌∷◌, ◌++◌, length, refl, sym, ap, subst, ◌∙◌, arith, append-nil, if◌then◌else◌, ◌==◌, eq-eqb, ne_eqb}
use Rattle.std.proofs.lemmas.Bool.{cases_eq}
use Rattle.vc_network.specs.Actors.{Network}
use Rattle.vc_tokens.specs.Tokens.{Token}
use Rattle.vc_machine.specs.Links.{Tokens, no_tokens}
use Rattle.vc_switch.specs.Waiting.{Waiting, Wormhole}
use Rattle.vc_machine.specs.TokenMachine.{TokenEvent, TokenStep, TokenRun}
use Rattle.vc_machine.specs.TokenMachine as tok
use Rattle.vc_machine.specs.Paths.{Net}
use Rattle.vc_machine.specs.View.{TokenView, Bindings, stays, moves, enters_bound}
use Rattle.vc_machine.specs.Private.View.{Credited}
use Rattle.vc_machine.specs.PacketsOfTokens.{seen}
use Rattle.vc_machine.proofs.Functional.{seen_is}
use Rattle.vc_machine.proofs.Refinement.{step_view}
use Rattle.vc_machine.proofs.Bindings.{step_bindings}
use Rattle.vc_machine.proofs.CreditSum.{step_counts}
use Rattle.vc_machine.specs.Rendezvous.{View, Comm, DoesAll, part}
use Rattle.vc_machine.specs.Machine.{State, view_of, view as net_view, Event as NetEvent}
use Rattle.vc_packets.specs.Functions.{put}
use Rattle.vc_machine.proofs.Basics.{put-same, put-other, every_put}
use Rattle.vc_machine.proofs.Labels.{Inv}
use Rattle.vc_machine.proofs.Runs.{stepped, part_here, part_other}
use Rattle.vc_switch.specs.Switch.{Switch}
use Rattle.vc_network.specs.Plan.{Home, Inside, IsAccepted, Plan, Way, back, home, is_virtual, net_of}
use Rattle.vc_network.specs.Network.{Act, Node, Actor, IsNode, IsSwitch}
use Rattle.vc_network.specs.Views.{vcp_of, inner_of, switch_of, vcps, switches, source_node, sink_node, view_at, view}
use Rattle.vc_network.specs.Packets.{of_halves}
use Rattle.vc_network.proofs.TokenViews.{Shows, wires}
use Rattle.vc_network.proofs.Wiring.{net_accepted}
use Rattle.vc_network.proofs.ChannelSteps.{Says, silent, one, said}
use Rattle.vc_network.proofs.Homes.{VcpHomed, SwitchHomed}

-- an inner channel's view between its steps
pub record InnerFits (v : View) : Type 0 where
  pub taken : v.taken ≡ v.offered
  pub finished : v.finished ≡ length v.offered

-- tokens that stand for a state as it should be
pub record Sound (plan : Plan) (t : Tokens) : Type 0 where
  pub view : TokenView (net_of plan) t (seen (net_of plan) t)
  pub bindings : Bindings (net_of plan) t
  pub credited : Credited back t
  pub events : List TokenEvent
  pub run : TokenRun (net_of plan) back Wormhole no_tokens events t
  pub inv : Inv (net_of plan) (seen (net_of plan) t)

pub runs_joined : (net : Net) (waiting : Waiting) (t u v : Tokens) (es fs : List TokenEvent) → TokenRun net back waiting t es u → TokenRun net back waiting u fs v → TokenRun net back waiting t (es ++ fs) v
runs_joined net waiting t u v [] fs h k = subst (λ x. TokenRun net back waiting x fs v) h k
runs_joined net waiting t u v (e ∷ es) fs h k = (h.0, h.1, runs_joined net waiting h.0 u v es fs h.2 k)

-- what may be done in store and forward may be done in wormhole
pub bound_wormhole : (net : Net) (waiting : Waiting) (t : Tokens) (n v w : ℕ) (d : List ℕ) → tok.IsBoundTo net waiting t n v w d → tok.IsBoundTo net Wormhole t n v w d
bound_wormhole net waiting t n v w d h = record { real = h.real; link = h.link; far = h.far; bound = h.bound; leaves = h.leaves; may_go = tt }

pub puts_wormhole : (net : Net) (waiting : Waiting) (t : Tokens) (w : ℕ) (u : Tokens) → tok.Puts net waiting t w u → tok.Puts net Wormhole t w u
puts_wormhole net waiting t w u (tok.node_byte n i p rest b more near front is after) = tok.node_byte n i p rest b more near front is after
puts_wormhole net waiting t w u (tok.node_mark n i p rest near front is after) = tok.node_mark n i p rest near front is after
puts_wormhole net waiting t w u (tok.switch_byte n v d b more bound is after) = tok.switch_byte n v d b more (bound_wormhole net waiting t n v w d bound) is after
puts_wormhole net waiting t w u (tok.switch_mark n v d m bound mark is after) = tok.switch_mark n v d m (bound_wormhole net waiting t n v w d bound) mark is after

as_wormhole : (net : Net) (waiting : Waiting) (t : Tokens) (e : TokenEvent) (u : Tokens) → TokenStep net back waiting t e u → TokenStep net back Wormhole t e u
as_wormhole net waiting t (tok.Put w) u h = (h.0, h.1, puts_wormhole net waiting t w u h.2)
as_wormhole net waiting t (tok.Route w out) u h =
    record { body = h.body; switch = h.switch; link = h.link; real = h.real; far = h.far; unbound = h.unbound; group = h.group; may_go = tt; free = h.free; after = h.after }
as_wormhole net waiting t d u h = h

pub seen_sound : (plan : Plan) (t : Tokens) (s : State) → TokenView (net_of plan) t s → Bindings (net_of plan) t → Credited back t → (es : List TokenEvent) → TokenRun (net_of plan) back Wormhole no_tokens es t → Inv (net_of plan) s → Sound plan t
seen_sound plan t s view b c es run i =
    let e = seen_is (net_of plan) t s view in
    record { view = subst (TokenView (net_of plan) t) e view; bindings = b; credited = c; events = es; run = run; inv = subst (Inv (net_of plan)) e i }

pub sound_step : (plan : Plan) (waiting : Waiting) (t : Tokens) (e : TokenEvent) (u : Tokens) → IsAccepted plan → Sound plan t → TokenStep (net_of plan) back waiting t e u → Sound plan u
sound_step plan waiting t e u acc g h =
    let net = net_of plan in
    let ok = net_accepted plan acc in
    let s = seen net t in
    let b = step_bindings net back waiting t e u g.bindings h in
    let c = step_counts net back (wires plan) waiting t e u g.credited h in
    let es = g.events ++ e ∷ [] in
    let run = runs_joined net Wormhole no_tokens t u g.events (e ∷ []) g.run (u, as_wormhole net waiting t e u h, refl) in
    elim (step_view net back waiting (ok).ranges t s e u g.bindings g.view h) [
      | stays seen_as ↦ seen_sound plan u s seen_as b c es run g.inv
      | moves f v step seen_as ↦ seen_sound plan u v seen_as b c es run (stepped net s f v ok g.inv step)
      | enters_bound w out drawn v x first second seen_as ↦ seen_sound plan u x seen_as b c es run (stepped net v (NetEvent.Route w out) x ok (stepped net s (NetEvent.Enter w drawn) v ok g.inv first) second)
    ]

-- what holds of a state, which t shows
pub record Good {P : Type 0} (plan : Plan) (s : Network (Actor P) Token) (t : Tokens) : Type 0 where
  pub shows : Shows plan (vcps s) (switches plan s) s.way t
  pub sound : Sound plan t
  pub nodes : (n : ℕ) → VcpHomed plan n (vcps s n)
  pub switched : (k : ℕ) → SwitchHomed plan k (switches plan s k)
  pub inner : (n c : ℕ) → InnerFits (inner_of (s.state n) c)
  pub kinds : (n : ℕ) → n < plan.nodes → (a : Node P) × (s.state n ≡ IsNode a)

-- the ways
pub own_ways : {P : Type 0} (old new : Network (Actor P) Token) (act : Act) → ((v : ℕ) → [] ++ new.way v ≡ old.way v ++ []) → new.way ≡ old.way
own_ways old new act h = λ i v. (h v ∙ append-nil (old.way v)) i

pub take_front : (old new : ℕ → List Token) (w : ℕ) (p : Token) → ((v : ℕ) → (if w == v then p ∷ [] else []) ++ new v ≡ old v ++ []) → old w ≡ p ∷ new w
take_front old new w p h = sym (subst (λ b. (if b then p ∷ [] else []) ++ new w ≡ old w ++ []) (eq-eqb w w refl) (h w) ∙ append-nil (old w))

pub take_ways : (old new : ℕ → List Token) (w : ℕ) (p : Token) → ((v : ℕ) → (if w == v then p ∷ [] else []) ++ new v ≡ old v ++ []) → put old w (new w) ≡ new
take_ways old new w p h =
    λ i v. every_put (λ j y. y ≡ new j) old w (new w) refl
    (λ j ne. sym (subst (λ b. (if b then p ∷ [] else []) ++ new j ≡ old j ++ []) (ne_eqb w j (λ e. ne (sym e))) (h j) ∙ append-nil (old j))) v i

pub put_ways : (old new : ℕ → List Token) (w : ℕ) (p : Token) → ((v : ℕ) → [] ++ new v ≡ old v ++ (if w == v then p ∷ [] else [])) → put old w (old w ++ p ∷ []) ≡ new
put_ways old new w p h =
    λ i v. every_put (λ j y. y ≡ new j) old w (old w ++ p ∷ [])
    (sym (subst (λ b. [] ++ new w ≡ old w ++ (if b then p ∷ [] else [])) (eq-eqb w w refl) (h w)))
    (λ j ne. sym (subst (λ b. [] ++ new j ≡ old j ++ (if b then p ∷ [] else [])) (ne_eqb w j (λ e. ne (sym e))) (h j) ∙ append-nil (old j))) v i

inside_at : (h : Home) → (is_virtual h ≡ true) ⊎ ((n : ℕ) × (h ≡ Inside n))
inside_at (Way v ab) = inl refl
inside_at (Inside n) = inr (n, refl)

not_both : (plan : Plan) (c n : ℕ) → home plan c ≡ Inside n → is_virtual (home plan c) ≡ true → ⊥
not_both plan c n e f = let q : false ≡ true = sym (ap is_virtual e) ∙ f in absurd (cc)

-- nothing is said of an inner channel
not_said : (plan : Plan) (t u : State) (ks : List (ℕ × Comm)) (c n : ℕ) → home plan c ≡ Inside n → Says (net_of plan) t u ks → part c ks ≡ []
not_said plan t u ks c n e (silent quiet same) = ap (part c) quiet
not_said plan t u ks c n e (one d k x is carries may chans new) =
    ap (part c) is ∙ part_other c d k [] (λ q. not_both plan c n e (subst (λ z. is_virtual (home plan z) ≡ true) q carries.1))

says_seen : (plan : Plan) (t u : Tokens) (ks : List (ℕ × Comm)) → Says (net_of plan) t.nodes u.nodes ks → Says (net_of plan) (seen (net_of plan) t) (seen (net_of plan) u) ks
says_seen plan t u ks (silent quiet same) = silent quiet same
says_seen plan t u ks (one d k x is carries may chans new) = one d k x is carries may chans new

-- communications on one channel
abbrev pub on : ℕ → List Comm → List (ℕ × Comm)
on c [] = []
on c (k ∷ ks) = (c, k) ∷ on c ks

pub part_on : (c : ℕ) (ks : List Comm) → part c (on c ks) ≡ ks
part_on c [] = refl
part_on c (k ∷ ks) = part_here c k (on c ks) ∙ ap (λ z. k ∷ z) (part_on c ks)

pub part_off : (c d : ℕ) (ks : List Comm) → (d ≡ c → ⊥) → part c (on d ks) ≡ []
part_off c d [] ne = refl
part_off c d (k ∷ ks) ne = part_other c d k (on d ks) ne ∙ part_off c d ks ne

module _ {P : Type 0} (plan : Plan) where
  -- a node's step changes its carrier alone
  pub node_vcps : (s u : Network (Actor P) Token) (n : ℕ) (b : Node P) → u.state n ≡ IsNode b → ((m : ℕ) → m ≢ n → u.state m ≡ s.state m) → put (vcps s) n b.vcp ≡ vcps u
  node_vcps s u n b e others = λ i m. every_put (λ j y. y ≡ vcps u j) (vcps s) n b.vcp (sym (ap vcp_of e)) (λ j ne. sym (ap vcp_of (others j ne))) m i

  pub node_switches : (s u : Network (Actor P) Token) (n : ℕ) → n < plan.nodes → ((m : ℕ) → m ≢ n → u.state m ≡ s.state m) → switches plan s ≡ switches plan u
  node_switches s u n less others = λ i k. sym (ap switch_of (others (plan.nodes + k) (λ e. omega arith))) i

  pub switch_vcps : (s u : Network (Actor P) Token) (n : ℕ) (a b : Switch) → s.state n ≡ IsSwitch a → u.state n ≡ IsSwitch b → ((m : ℕ) → m ≢ n → u.state m ≡ s.state m) → vcps s ≡ vcps u
  switch_vcps s u n a b e f others = λ i m. (elim (cases_eq m n) as (λ z. vcps s m ≡ vcps u m) [
    | inl q ↦ ap (λ j. vcp_of (s.state j)) q ∙ ap vcp_of e ∙ sym (ap vcp_of f) ∙ sym (ap (λ j. vcp_of (u.state j)) q)
    | inr ne ↦ sym (ap vcp_of (others m ne))
  ]) i

  pub switch_switches : (s u : Network (Actor P) Token) (k : ℕ) (b : Switch) → u.state (plan.nodes + k) ≡ IsSwitch b → ((m : ℕ) → m ≢ plan.nodes + k → u.state m ≡ s.state m) → put (switches plan s) k b ≡ switches plan u
  switch_switches s u k b e others = λ i m. every_put (λ j y. y ≡ switches plan u j) (switches plan s) k b (sym (ap switch_of e)) (λ j ne. sym (ap switch_of (others (plan.nodes + j) (λ q. ne (omega arith))))) m i

  -- the views
  virtual_view : (s : Network (Actor P) Token) (c : ℕ) (h : Home) → is_virtual h ≡ true →
      view_at plan s c h ≡ view_of (of_halves ((vcps s (source_node plan h)).carrier.out c) ((vcps s (sink_node plan h)).carrier.into c))
  virtual_view s c (Way v ab) e = refl
  virtual_view s c (Inside n) e = absurd (cc)

  pub view_seen : (s : Network (Actor P) Token) (t : Tokens) (c : ℕ) → Shows plan (vcps s) (switches plan s) s.way t → is_virtual (home plan c) ≡ true → view plan s c ≡ net_view (seen (net_of plan) t) c
  view_seen s t c sees e = virtual_view s c (home plan c) e ∙ sym (ap view_of (sees.nodes.chan c))

  pub outer_views : (s s' : Network (Actor P) Token) (t u : Tokens) (ks : List (ℕ × Comm)) → Good plan s t → Sound plan u → Shows plan (vcps s') (switches plan s') s'.way u →
      Says (net_of plan) t.nodes u.nodes ks → ((n c : ℕ) → inner_of (s'.state n) c ≡ inner_of (s.state n) c) → (c : ℕ) → DoesAll (view plan s c) (part c ks) (view plan s' c)
  outer_views s s' t u ks g j sees says same c =
      elim (inside_at (home plan c)) [
        | inl e ↦ subst (λ v. DoesAll v (part c ks) (view plan s' c)) (sym (view_seen s t c g.shows e))
            (subst (DoesAll (net_view (seen (net_of plan) t) c) (part c ks)) (sym (view_seen s' u c sees e)) (said (net_of plan) (seen (net_of plan) t) (seen (net_of plan) u) ks g.sound.inv j.inv (says_seen plan t u ks says) c))
        | inr h ↦ subst (λ z. DoesAll (view plan s c) z (view plan s' c)) (sym (not_said plan t.nodes u.nodes ks c h.0 h.1 says))
            (ap (view_at plan s' c) h.1 ∙ same h.0 c ∙ sym (ap (view_at plan s c) h.1))
      ]

  pub inner_views : (s s' : Network (Actor P) Token) (t : Tokens) (n c : ℕ) (a b : Node P) (x : View) (ks : List Comm) → Good plan s t → Shows plan (vcps s') (switches plan s') s'.way t →
      home plan c ≡ Inside n → s.state n ≡ IsNode a → s'.state n ≡ IsNode b → ((m : ℕ) → m ≢ n → s'.state m ≡ s.state m) → b.inner ≡ put a.inner c x → DoesAll (a.inner c) ks x →
      (d : ℕ) → DoesAll (view plan s d) (part d (on c ks)) (view plan s' d)
  inner_views s s' t n c a b x ks g sees e ea eb others inner does d =
      elim (cases_eq d c) [
        | inl q ↦ subst (λ z. DoesAll (view plan s z) (part z (on c ks)) (view plan s' z)) (sym q)
            (subst (λ z. DoesAll (view plan s c) z (view plan s' c)) (sym (part_on c ks))
            (subst (λ v. DoesAll v ks (view plan s' c)) (sym (ap (view_at plan s c) e ∙ ap (λ z. inner_of z c) ea))
            (subst (DoesAll (a.inner c) ks) (sym (ap (view_at plan s' c) e ∙ ap (λ z. inner_of z c) eb ∙ ap (λ f. f c) inner ∙ put-same a.inner c x)) does)))
        | inr ne ↦ subst (λ z. DoesAll (view plan s d) z (view plan s' d)) (sym (part_off d c ks (λ q. ne (sym q))))
            (elim (inside_at (home plan d)) [
              | inl f ↦ view_seen s' t d sees f ∙ sym (view_seen s t d g.shows f)
              | inr h ↦ ap (view_at plan s' d) h.1 ∙ same ne h.0 ∙ sym (ap (view_at plan s d) h.1)
            ])
      ]
    where
      same : (d ≡ c → ⊥) → (m : ℕ) → inner_of (s'.state m) d ≡ inner_of (s.state m) d
      same ne m = elim (cases_eq m n) [
        | inl q ↦ subst (λ z. inner_of (s'.state z) d ≡ inner_of (s.state z) d) (sym q)
            (ap (λ z. inner_of z d) eb ∙ ap (λ f. f d) inner ∙ put-other a.inner c x d ne ∙ sym (ap (λ z. inner_of z d) ea))
        | inr r ↦ ap (λ z. inner_of z d) (others m r)
      ]
