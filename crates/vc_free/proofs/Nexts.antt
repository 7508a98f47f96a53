-- Each step of the network keeps what is good, and what it says is its process's part and each channel's part.
use Rattle.std.proofs.Common.{◌≡◌, ◌≢◌, ℕ, ◌+◌, ◌<◌, ◌≤◌, inl, inr, true, false, List, [], ◌∷◌, ◌++◌, length, Option, Some, None, refl, sym, ap, subst, ◌∙◌, arith, append-nil, length-append, slice_get}
use Rattle.std.proofs.lemmas.Bool.{cases_eq}
use Rattle.vc_network.specs.Actors.{Label, Network, taken_off, put_on, act_of}
use Rattle.vc_network.specs.Actors.Label.{Own, Takes, Puts}
use Rattle.vc_machine.specs.Paths.{Net, AtNode, AtSwitch}
use Rattle.vc_machine.specs.Rendezvous.{View, Comm, Out, In, Fin, Stp, DoesAll, part}
use Rattle.vc_packets.specs.Functions.{put}
use Rattle.vc_machine.specs.Machine.{Event as NetEvent, State as NetState}
use Rattle.vc_machine.specs.Machine as net
use Rattle.vc_machine.proofs.Basics.{every_put}
use Rattle.vc_machine.proofs.Runs.{part_here, part_other}
use Rattle.vc_machine.proofs.Views.{slice_get_end}
use Rattle.vc_tokens.specs.Tokens.{Token}
use Rattle.vc_tokens.specs.Tokens as tokens
use Rattle.vc_machine.specs.Links.{Tokens}
use Rattle.vc_switch.specs.Waiting.{Waiting}
use Rattle.vc_machine.specs.TokenMachine.{TokenEvent, TokenRun, IsProc}
use Rattle.vc_machine.specs.TokenMachine as tok
use Rattle.vc_machine.specs.Still.{MovesTokens}
use Rattle.vc_vcp.specs.Steps as node
use Rattle.vc_vcp.specs.Links as links
use Rattle.vc_vcp.specs.Links.{Vcp}
use Rattle.vc_switch.specs.Switch.{Switch}
use Rattle.vc_switch.specs.Switch as switch
use Rattle.vc_network.specs.Plan.{body_limit, Plan, Inside, home, ends, way_from, back, switch_plan, net_of, IsAccepted, IsInto}
use Rattle.vc_network.specs.Processes.{Move, Offer, Want, Choose, Stopch, Inner, Quiet, StepRelation, Trace, none, more, comms, input_of}
use Rattle.vc_process.specs.ProcessStep.{ProcessStep, Offers, Wants, Chooses, Stops, Meets, Rests, Finishes, Receives}
use Rattle.vc_network.specs.Network.{Act, Proc, Take, Put, Route, Fct, Pass, Node, Actor, IsNode, IsSwitch, exchanged, ByHalves, Moves, GoesOn, NodeStep, SwitchStep}
use Rattle.vc_network.specs.Still.{IsNoMove}
use Rattle.vc_network.specs.Views.{vcp_of, inner_of, switch_of, vcps, switches, view}
use Rattle.vc_network.proofs.Backs.{back_into}
use Rattle.vc_network.proofs.Seen.{Sees}
use Rattle.vc_network.proofs.ChannelSteps.{Says, silent, one}
use Rattle.vc_network.specs.Headline.{ByOneEvent, no_step, one_step, exchange}
use Rattle.vc_network.proofs.NodeLift.{Lifted, offers, wants, chooses, stops}
use Rattle.vc_network.proofs.TokenViews.{Shows, carriers, losses, halves_shown, is_due, SameReceiver, link_here, input_here}
use Rattle.vc_credit.specs.Ends.{IsDue}
use Rattle.vc_network.proofs.PacketSizes.{fits}
use Rattle.vc_network.proofs.NodeLinks.{TokenLifted, new_carriers, said_by_pass, comes, passes_a_byte, passes_a_mark, sends, sends_fct}
use Rattle.vc_network.proofs.SwitchLinks as at_switch
use Rattle.vc_network.proofs.Homes.{CarrierHomed, VcpHomed, SwitchHomed, offers_homed, wants_homed, fetches_homed, stops_homed, unqueued_homed, passes_carrier, link_homed, halves_homed, link_way, input_homed, input_way, routed_way}
use Rattle.vc_network.proofs.Steps.{InnerFits, Good, sound_step, own_ways, take_front, take_ways, put_ways, node_vcps, node_switches, switch_vcps, switch_switches, outer_views, inner_views, on, part_on, part_off}

abbrev pub process_of : {P : Type 0} → P → Actor P → P
process_of d (IsNode a) = a.process
process_of d (IsSwitch s) = d

-- what the step of a node says
abbrev pub said_in : {P : Type 0} (plan : Plan) (Does : StepRelation P) (n : ℕ) (a b : Node P) (label : Label Act Token) → NodeStep plan Does n a label b → List (ℕ × Comm)
said_in plan Does n a b (Own (Proc (Offer i c))) h = (c, Out h.0) ∷ []
said_in plan Does n a b (Own (Proc (Want i c))) h = input_of c h.0
said_in plan Does n a b (Own (Proc (Choose i k c))) h = input_of c h.0
said_in plan Does n a b (Own (Proc (Stopch i c))) h = (c, Stp) ∷ []
said_in plan Does n a b (Own (Proc (Inner i j k c))) h = (c, Out h.0) ∷ (c, In h.0) ∷ (c, Fin) ∷ []
said_in plan Does n a b (Own (Proc (Quiet i))) h = []
said_in plan Does n a b (Own (Pass l)) h = said_by_pass h.0
said_in plan Does n a b (Takes (Take l word) w k) h = []
said_in plan Does n a b (Puts (Put l) w k) h = []
said_in plan Does n a b (Puts (Fct l) w k) h = []
said_in plan Does n a b d h = absurd h

-- the step of an actor, and what it says
pub record Next {P : Type 0} (plan : Plan) (waiting : Waiting) (Does : StepRelation P) (s u : Network (Actor P) Token) (t : Tokens) (n : ℕ) (act : Act) (ks : List (ℕ × Comm)) : Type 0 where
  pub new : Tokens
  pub events : List TokenEvent
  pub single : length events ≤ 1
  pub moves : IsNoMove act → (e : TokenEvent) × (events ≡ e ∷ []) × MovesTokens e
  pub run : TokenRun (net_of plan) back waiting t events new
  pub good : Good plan u new
  pub views : (c : ℕ) → DoesAll (view plan s c) (part c ks) (view plan u c)
  pub short : (c : ℕ) → ByOneEvent (home plan c) (part c ks)
  pub trace : (d : P) → Trace Does (process_of d (s.state n)) ks (process_of d (u.state n))
  pub by_no_other : plan.nodes ≤ n → ks ≡ []

-- what one event of the ways says is of one channel at most
short_said : (plan : Plan) (net : Net) (t u : NetState) (ks : List (ℕ × Comm)) → Says net t u ks → (c : ℕ) → ByOneEvent (home plan c) (part c ks)
short_said plan net t u ks (silent e same) c = subst (λ z. ByOneEvent (home plan c) (part c z)) (sym e) no_step
short_said plan net t u ks (one d k x e r may chans new) c =
    subst (λ z. ByOneEvent (home plan c) (part c z)) (sym e)
    (elim (cases_eq d c) [
      | inl q ↦ subst (λ z. ByOneEvent (home plan c) (part z ((d, k) ∷ []))) q (subst (ByOneEvent (home plan c)) (sym (part_here d k [])) (one_step k))
      | inr ne ↦ subst (ByOneEvent (home plan c)) (sym (part_other c d k [] ne)) no_step
    ])

-- what is said of a channel inside a node is said of it alone
short_on : (plan : Plan) (c : ℕ) (ks : List Comm) → ByOneEvent (home plan c) ks → (d : ℕ) → ByOneEvent (home plan d) (part d (on c ks))
short_on plan c ks h d = elim (cases_eq d c) [
  | inl q ↦ subst (λ z. ByOneEvent (home plan z) (part z (on c ks))) (sym q) (subst (ByOneEvent (home plan c)) (sym (part_on c ks)) h)
  | inr ne ↦ subst (ByOneEvent (home plan d)) (sym (part_off d c ks (λ q. ne (sym q)))) no_step
]

exchanges : (v : View) (m : List ℕ) → InnerFits v → v.stopped ≡ false → DoesAll v (Out m ∷ In m ∷ Fin ∷ []) (exchanged v m)
exchanges v m f live = (
  record v { offered = v.offered ++ m ∷ [] },
  (sym f.finished, refl),
  (
    record v { offered = v.offered ++ m ∷ []; taken = v.taken ++ m ∷ [] },
    (ap (λ k. slice_get (v.offered ++ m ∷ []) (length k)) f.taken ∙ slice_get_end v.offered m [], live, refl),
    (exchanged v m, ((let a = f.finished in let b = ap length f.taken in let c = length-append v.taken (m ∷ []) in omega arith), refl), refl),
  ),
)

exchanged_fits : (v : View) (m : List ℕ) → InnerFits v → InnerFits (exchanged v m)
exchanged_fits v m f = record { taken = ap (λ k. k ++ m ∷ []) f.taken; finished = (let a = f.finished in let b = length-append v.offered (m ∷ []) in omega arith) }

-- a move is a step of the halves
moves_lifted : (plan : Plan) (waiting : Waiting) (vs : ℕ → Vcp) (sw : ℕ → Switch) (lines : ℕ → List Token) (t : Tokens) (n : ℕ) (b : Vcp) (e : NetEvent) (ks : List (ℕ × Comm)) → Shows plan vs sw lines t → IsProc e →
    b.link ≡ (vs n).link → Lifted plan (put (carriers vs) n b.carrier) (losses sw) t.nodes e ks → TokenLifted plan waiting (put vs n b) sw lines t (tok.Proc e) ks
moves_lifted plan waiting vs sw lines t n b e ks s is same l =
    let u = record t { nodes = l.new } in
    record {
      new = u;
      step = (is, (l.new, l.step, refl));
      shows = halves_shown plan vs sw lines t u n b s same (subst (λ z. Sees plan z (losses sw) l.new) (new_carriers vs n b) l.sees) refl refl refl;
      says = l.says;
    }

past_limit : (limit : ℕ) (xs : List ℕ) (c : ℕ) → length (xs ++ c ∷ []) ≤ limit → limit ≤ length xs → ⊥
past_limit limit xs c h long = let l = length-append xs (c ∷ []) in omega arith

-- a byte that came to pass at a full packet would make it too long
in_node : {P : Type 0} (plan : Plan) (waiting : Waiting) (acc : IsAccepted plan) (s : Network (Actor P) Token) (t : Tokens) (g : Good plan s t) (n l w c : ℕ) (rest : List Token) → IsInto plan w (AtNode n l) →
    ((vcps s n).link l).receiver.buffer ≡ tokens.Byte c ∷ rest → body_limit plan ≤ length ((vcps s n).link l).passed → ⊥
in_node plan waiting acc s t g n l w c rest into front long =
    let x = (vcps s n).link l in
    let y = links.passing x rest (x.passed ++ c ∷ []) in
    let b = links.set_link (vcps s n) l y in
    let f = passes_a_byte plan waiting acc (vcps s) (switches plan s) s.way t g.shows n l w c rest b into front refl in
    let short = fits plan f.new acc (sound_step plan waiting t (tok.Pass w) f.new acc g.sound f.step) w into.0 in
    let e = subst (λ p. SameReceiver plan (put (vcps s) n b) (switches plan s) p (f.new.receiver w)) into.1 (f.shows.receiver w into.0) in
    past_limit (body_limit plan) x.passed c (subst (λ z. length z ≤ body_limit plan) (e.got ∙ ap (λ z. z.passed) (link_here (vcps s) n l b y refl)) short) long

in_switch : {P : Type 0} (plan : Plan) (waiting : Waiting) (acc : IsAccepted plan) (s : Network (Actor P) Token) (t : Tokens) (g : Good plan s t) (k l w c : ℕ) (rest : List Token) → IsInto plan w (AtSwitch k l) →
    ((switches plan s k).input l).mark ≡ None → ((switches plan s k).input l).receiver.buffer ≡ tokens.Byte c ∷ rest →
    body_limit plan ≤ length (switch.with_header (switch_plan plan k) l ((switches plan s k).input l)) → ⊥
in_switch plan waiting acc s t g k l w c rest into unmarked front long =
    let x = (switches plan s k).input l in
    let got = switch.with_header (switch_plan plan k) l x in
    let y = switch.passing x rest (got ++ c ∷ []) None in
    let b = switch.set_input (switches plan s k) l y in
    let f = at_switch.passes_a_byte plan waiting acc (vcps s) (switches plan s) s.way t g.shows k l w c rest b into unmarked front refl in
    let short = fits plan f.new acc (sound_step plan waiting t (tok.Pass w) f.new acc g.sound f.step) w into.0 in
    let e = subst (λ p. SameReceiver plan (vcps s) (put (switches plan s) k b) p (f.new.receiver w)) into.1 (f.shows.receiver w into.0) in
    past_limit (body_limit plan) got c (subst (λ z. length z ≤ body_limit plan) (e.got ∙ ap (λ z. z.got) (input_here (switches plan s) k l b y refl)) short) long

module _ {P : Type 0} (plan : Plan) (waiting : Waiting) (Does : StepRelation P) (acc : IsAccepted plan) (s u : Network (Actor P) Token) (t : Tokens) (g : Good plan s t) (n : ℕ) (others : (m : ℕ) → m ≢ n → u.state m ≡ s.state m) where
  module _ (less : n < plan.nodes) (a b : Node P) (ea : s.state n ≡ IsNode a) (eb : u.state n ≡ IsNode b) where
    did : (d : ProcessStep) → Does a.process d b.process → Trace Does a.process (comms d) b.process
    did d h = subst (λ z. Trace Does a.process z b.process) (append-nil (comms d)) (more h none)

    traced : (ks : List (ℕ × Comm)) → Trace Does a.process ks b.process → (d : P) → Trace Does (process_of d (s.state n)) ks (process_of d (u.state n))
    traced ks h d = subst (λ z. Trace Does z ks (process_of d (u.state n))) (sym (ap (process_of d) ea)) (subst (Trace Does a.process ks) (sym (ap (process_of d) eb)) h)

    homed : VcpHomed plan n a.vcp
    homed = subst (VcpHomed plan n) (ap vcp_of ea) (g.nodes n)

    all_homed : VcpHomed plan n b.vcp → (m : ℕ) → VcpHomed plan m (vcps u m)
    all_homed h m = subst (λ f. VcpHomed plan m (f m)) (node_vcps plan s u n b eb others) (every_put (VcpHomed plan) (vcps s) n b.vcp h (λ j ne. g.nodes j) m)

    all_kinds : (m : ℕ) → m < plan.nodes → (x : Node P) × (u.state m ≡ IsNode x)
    all_kinds m h = elim (cases_eq m n) [ inl e ↦ (b, ap u.state e ∙ eb) | inr ne ↦ (let k = g.kinds m h in (k.0, others m ne ∙ k.1)) ]

    inner_kept : b.inner ≡ a.inner → (m c : ℕ) → inner_of (u.state m) c ≡ inner_of (s.state m) c
    inner_kept e m c = elim (cases_eq m n) [
      | inl q ↦ subst (λ z. inner_of (u.state z) c ≡ inner_of (s.state z) c) (sym q) (ap (λ z. inner_of z c) eb ∙ ap (λ f. f c) e ∙ sym (ap (λ z. inner_of z c) ea))
      | inr ne ↦ ap (λ z. inner_of z c) (others m ne)
    ]

    -- a step that a step of the token machine of ways follows
    outer : (act : Act) (e : TokenEvent) → (IsNoMove act → MovesTokens e) → (ks : List (ℕ × Comm)) (lines : ℕ → List Token) → lines ≡ u.way → b.inner ≡ a.inner → VcpHomed plan n b.vcp → Trace Does a.process ks b.process →
        TokenLifted plan waiting (put (vcps s) n b.vcp) (switches plan s) lines t e ks → Next plan waiting Does s u t n act ks
    outer act e own ks lines el same home tr l =
        let sound = sound_step plan waiting t e l.new acc g.sound l.step in
        let shows : Shows plan (vcps u) (switches plan u) u.way l.new =
        subst (λ z. Shows plan z (switches plan u) u.way l.new) (node_vcps plan s u n b eb others)
        (subst (λ z. Shows plan (put (vcps s) n b.vcp) z u.way l.new) (node_switches plan s u n less others)
        (subst (λ z. Shows plan (put (vcps s) n b.vcp) (switches plan s) z l.new) el l.shows)) in
        record {
          new = l.new;
          events = e ∷ [];
          single = omega arith;
          moves = λ h. (e, refl, own h);
          run = (l.new, l.step, refl);
          good = record {
            shows = shows;
            sound = sound;
            nodes = all_homed home;
            switched = λ k. subst (λ f. SwitchHomed plan k (f k)) (node_switches plan s u n less others) (g.switched k);
            inner = λ m c. subst InnerFits (sym (inner_kept same m c)) (g.inner m c);
            kinds = all_kinds;
          };
          views = outer_views plan s u t l.new ks g sound shows l.says (inner_kept same);
          short = short_said plan (net_of plan) t.nodes l.new.nodes ks l.says;
          trace = traced ks tr;
          by_no_other = λ past. absurd (omega arith);
        }

    same_vcps : b.vcp ≡ a.vcp → vcps s ≡ vcps u
    same_vcps e = subst (λ z. z ≡ vcps u) (λ i m. every_put (λ j y. y ≡ vcps s j) (vcps s) n b.vcp (e ∙ sym (ap vcp_of ea)) (λ j ne. refl) m i) (node_vcps plan s u n b eb others)

    same_shows : u.way ≡ s.way → b.vcp ≡ a.vcp → Shows plan (vcps u) (switches plan u) u.way t
    same_shows el e =
        subst (λ z. Shows plan z (switches plan u) u.way t) (same_vcps e)
        (subst (λ z. Shows plan (vcps s) z u.way t) (node_switches plan s u n less others)
        (subst (λ z. Shows plan (vcps s) (switches plan s) z t) (sym el) g.shows))

    -- a step inside the node
    inside : (move : Move) → u.way ≡ s.way → (c : ℕ) (x : View) (ks : List Comm) → home plan c ≡ Inside n → ByOneEvent (home plan c) ks → b.vcp ≡ a.vcp → b.inner ≡ put a.inner c x → DoesAll (a.inner c) ks x → InnerFits x →
        Trace Does a.process (on c ks) b.process → Next plan waiting Does s u t n (Proc move) (on c ks)
    inside move el c x ks e few carrier inner does fits tr =
        let shows = same_shows el carrier in
        record {
          new = t;
          events = [];
          single = omega arith;
          moves = λ h. absurd h;
          run = refl;
          good = record {
            shows = shows;
            sound = g.sound;
            nodes = all_homed (subst (VcpHomed plan n) (sym carrier) homed);
            switched = λ k. subst (λ f. SwitchHomed plan k (f k)) (node_switches plan s u n less others) (g.switched k);
            inner = λ m d. elim (cases_eq m n) [
              | inl q ↦ subst (λ z. InnerFits (inner_of (u.state z) d)) (sym q)
                  (subst (λ z. InnerFits (inner_of z d)) (sym eb) (subst (λ f. InnerFits (f d)) (sym inner)
                  (every_put (λ j y. InnerFits y) a.inner c x fits (λ j ne. subst (λ z. InnerFits (inner_of z j)) ea (g.inner n j)) d)))
              | inr ne ↦ subst (λ z. InnerFits (inner_of z d)) (sym (others m ne)) (g.inner m d)
            ];
            kinds = all_kinds;
          };
          views = inner_views plan s u t n c a b x ks g shows e ea eb others inner does;
          short = short_on plan c ks few;
          trace = traced (on c ks) tr;
          by_no_other = λ past. absurd (omega arith);
        }

    -- nothing but the process changes
    alone : (move : Move) → u.way ≡ s.way → b.vcp ≡ a.vcp → b.inner ≡ a.inner → Trace Does a.process [] b.process → Next plan waiting Does s u t n (Proc move) []
    alone move el carrier inner tr =
        let shows = same_shows el carrier in
        record {
          new = t;
          events = [];
          single = omega arith;
          moves = λ h. absurd h;
          run = refl;
          good = record {
            shows = shows;
            sound = g.sound;
            nodes = all_homed (subst (VcpHomed plan n) (sym carrier) homed);
            switched = λ k. subst (λ f. SwitchHomed plan k (f k)) (node_switches plan s u n less others) (g.switched k);
            inner = λ m c. subst InnerFits (sym (inner_kept inner m c)) (g.inner m c);
            kinds = all_kinds;
          };
          views = outer_views plan s u t t [] g g.sound shows (silent refl (λ c. refl)) (inner_kept inner);
          short = λ c. no_step;
          trace = traced [] tr;
          by_no_other = λ past. refl;
        }

    abbrev here : vcps s n ≡ a.vcp
    here = ap vcp_of ea

    abbrev here_carrier : carriers (vcps s) n ≡ a.vcp.carrier
    here_carrier = ap (λ z. (vcp_of z).carrier) ea

    -- a move that changes the halves
    halves : (move : Move) (e : NetEvent) (ks : List (ℕ × Comm)) → IsProc e → u.way ≡ s.way → ByHalves a b → CarrierHomed plan n b.vcp.carrier → Trace Does a.process ks b.process →
        Lifted plan (put (carriers (vcps s)) n b.vcp.carrier) (losses (switches plan s)) t.nodes e ks → Next plan waiting Does s u t n (Proc move) ks
    halves move e ks is el h home tr l =
        outer (Proc move) (tok.Proc e) (λ h. absurd h) ks s.way (sym el) h.inner (halves_homed plan n a.vcp b.vcp h.link home homed) tr
        (moves_lifted plan waiting (vcps s) (switches plan s) s.way t n b.vcp e ks g.shows is (h.link ∙ sym (ap (λ z. z.link) here)) l)

    moved : (move : Move) → u.way ≡ s.way → (h : Moves plan Does n a move b) → Next plan waiting Does s u t n (Proc move) (said_in plan Does n a b (Own (Proc move)) h)
    moved (Offer site c) el h =
        halves (Offer site c) (net.Offer c h.0) ((c, Out h.0) ∷ []) tt el h.3 (offers_homed plan n c h.0 a.vcp.carrier b.vcp.carrier acc h.2 homed.carrier) (did (Offers site c h.0) h.1)
        (offers plan (carriers (vcps s)) (losses (switches plan s)) t.nodes n c h.0 b.vcp.carrier acc g.shows.nodes (subst (λ z. node.Offers (ends plan n) z c h.0 b.vcp.carrier) (sym here_carrier) h.2))
    moved (Want site c) el h =
        halves (Want site c) (net.Want c) (input_of c h.0) tt el h.5 (wants_homed plan n c h.1 h.0 a.vcp.carrier b.vcp.carrier acc h.3 h.4 homed.carrier) (did (Wants site c h.0) h.2)
        (wants plan (carriers (vcps s)) (losses (switches plan s)) t.nodes n c h.1 h.0 b.vcp.carrier acc g.shows.nodes (subst (λ z. node.IsOpen (ends plan n) z c h.1) (sym here_carrier) h.3) (subst (λ z. node.Wants z c h.1 h.0 b.vcp.carrier) (sym here_carrier) h.4))
    moved (Choose site guard c) el h =
        halves (Choose site guard c) (net.Choose c) (input_of c h.0) tt el h.5 (fetches_homed plan n c h.1 h.0 a.vcp.carrier b.vcp.carrier acc h.3 h.4 homed.carrier) (did (Chooses site guard c h.0) h.2)
        (chooses plan (carriers (vcps s)) (losses (switches plan s)) t.nodes n c h.1 h.0 b.vcp.carrier acc g.shows.nodes (subst (λ z. node.IsOpen (ends plan n) z c h.1) (sym here_carrier) h.3) (subst (λ z. node.Fetches z c h.1 h.0 b.vcp.carrier) (sym here_carrier) h.4))
    moved (Stopch site c) el (d, inl h) =
        halves (Stopch site c) (net.Stop c) ((c, Stp) ∷ []) tt el h.1 (stops_homed plan n c a.vcp.carrier b.vcp.carrier h.0 homed.carrier) (did (Stops site c) d)
        (stops plan (carriers (vcps s)) (losses (switches plan s)) t.nodes n c b.vcp.carrier acc g.shows.nodes (subst (λ z. node.Stops (ends plan n) z c b.vcp.carrier) (sym here_carrier) h.0))
    moved (Stopch site c) el (d, inr h) =
        let f = subst (λ z. InnerFits (inner_of z c)) ea (g.inner n c) in
        inside (Stopch site c) el c (record (a.inner c) { stopped = true }) (Stp ∷ []) h.0 (one_step Stp) h.1 h.2 (record (a.inner c) { stopped = true }, refl, refl) (record { taken = f.taken; finished = f.finished }) (did (Stops site c) d)
    moved (Inner i j guard c) el h =
        let f = subst (λ z. InnerFits (inner_of z c)) ea (g.inner n c) in
        inside (Inner i j guard c) el c (exchanged (a.inner c) h.0) (Out h.0 ∷ In h.0 ∷ Fin ∷ []) h.2 (exchange n h.0 h.2) h.4 h.5 (exchanges (a.inner c) h.0 f h.3) (exchanged_fits (a.inner c) h.0 f) (did (Meets i j guard c h.0) h.1)
    moved (Quiet site) el h = alone (Quiet site) el h.1 h.2 (did (Rests site) h.0)

    goes_on : (taken : Option node.Taken) → GoesOn Does a.process taken b.process → Trace Does a.process (said_by_pass taken) b.process
    goes_on (Some (node.Complete c m)) h = did (Receives c m) h
    goes_on (Some (node.Finished c)) h = did (Finishes c) h
    goes_on o h = subst (Trace Does a.process []) (sym h) none

    quiet : b.process ≡ a.process → Trace Does a.process [] b.process
    quiet e = subst (Trace Does a.process []) (sym e) none

    node_passes : (l w : ℕ) (taken : Option node.Taken) → IsInto plan w (AtNode n l) → links.Passes (body_limit plan) (ends plan n) (vcps s n) l taken b.vcp →
        TokenLifted plan waiting (put (vcps s) n b.vcp) (switches plan s) s.way t (tok.Pass w) (said_by_pass taken)
    node_passes l w taken into (links.passes_byte c rest front is short after) =
        subst (TokenLifted plan waiting (put (vcps s) n b.vcp) (switches plan s) s.way t (tok.Pass w)) (sym (ap said_by_pass is))
        (passes_a_byte plan waiting acc (vcps s) (switches plan s) s.way t g.shows n l w c rest b.vcp into front after)
    node_passes l w taken into (links.drops_byte c rest front is long after) = absurd (in_node plan waiting acc s t g n l w c rest into front long)
    node_passes l w taken into (links.passes_mark m rest what carrier front is arrives after) =
        subst (TokenLifted plan waiting (put (vcps s) n b.vcp) (switches plan s) s.way t (tok.Pass w)) (sym (ap said_by_pass is))
        (passes_a_mark plan waiting acc (vcps s) (switches plan s) s.way t g.shows n l w m rest what carrier b.vcp into front arrives after)

    link_passes_homed : (l w : ℕ) (taken : Option node.Taken) → IsInto plan w (AtNode n l) → links.Passes (body_limit plan) (ends plan n) a.vcp l taken b.vcp → VcpHomed plan n b.vcp
    link_passes_homed l w taken into p = by_token p (passes_carrier plan n l taken a.vcp b.vcp acc p homed.carrier)
      where
        by_token : links.Passes (body_limit plan) (ends plan n) a.vcp l taken b.vcp → CarrierHomed plan n b.vcp.carrier → VcpHomed plan n b.vcp
        by_token (links.passes_byte c rest front is short after) h = link_homed plan n l w a.vcp b.vcp _ into (ap (λ z. z.link) after) h homed
        by_token (links.drops_byte c rest front is long after) h = link_homed plan n l w a.vcp b.vcp _ into (ap (λ z. z.link) after) h homed
        by_token (links.passes_mark m rest what carrier front is arrives after) h = link_homed plan n l w a.vcp b.vcp _ into (ap (λ z. z.link) after) h homed

    pub node_next : (label : Label Act Token) → ((v : ℕ) → taken_off v label ++ u.way v ≡ s.way v ++ put_on v label) → (h : NodeStep plan Does n a label b) → Next plan waiting Does s u t n (act_of label) (said_in plan Does n a b label h)
    node_next (Own (Proc move)) ways h = moved move (own_ways s u (Proc move) ways) h
    node_next (Own (Pass l)) ways h =
        let w = link_way plan n l a.vcp b.vcp h.0 homed h.1 in
        let p = subst (λ z. links.Passes (body_limit plan) (ends plan n) z l h.0 b.vcp) (sym here) h.1 in
        outer (Pass l) (tok.Pass w.0) (λ h. tt) (said_by_pass h.0) s.way (sym (own_ways s u (Pass l) ways)) h.3
        (link_passes_homed l w.0 h.0 w.1 h.1) (goes_on h.0 h.2)
        (node_passes l w.0 h.0 w.1 p)
    node_next (Takes (Take l word) w k) ways h =
        let front = take_front s.way u.way w k ways in
        elim h.1 [
          | links.due d after ↦ outer (Take l word) (tok.Take w word) (λ h. tt) [] (put s.way w (u.way w)) (take_ways s.way u.way w k ways) h.2.inner
              (link_homed plan n l w a.vcp b.vcp (links.with_token (a.vcp.link l) k) h.0 (ap (λ z. z.link) after) (subst (CarrierHomed plan n) (sym (ap (λ z. z.carrier) after)) homed.carrier) homed) (quiet h.2.process)
              (comes plan waiting acc (vcps s) (switches plan s) s.way t g.shows n l w word k (u.way w) b.vcp h.0 front (subst (λ z. b.vcp ≡ links.set_link z l (links.with_token (z.link l) k)) (sym here) after))
          | links.not_due no_place after ↦ absurd (no_place (subst (λ z. IsDue (z.link l).sender (z.link l).receiver k) here (is_due plan (vcps s) (switches plan s) s.way t w (AtNode n l) k (u.way w) g.sound.credited g.shows h.0 front)))
        ]
    node_next (Puts (Put l) w k) ways h =
        outer (Put l) (tok.Put w) (λ h. tt) [] (put s.way w (s.way w ++ k ∷ [])) (put_ways s.way u.way w k ways) h.2.inner
        (link_homed plan n l (back w) a.vcp b.vcp (record (a.vcp.link l) { sender = h.1.sender }) (back_into plan w (AtNode n l) h.0) (ap (λ z. z.link) h.1.after)
        (subst (CarrierHomed plan n) (sym (ap (λ z. z.carrier) h.1.after)) (unqueued_homed plan n l a.vcp.carrier h.1.packet h.1.rest k h.1.front homed.carrier)) homed) (quiet h.2.process)
        (sends plan waiting acc (vcps s) (switches plan s) s.way t g.shows n l w k b.vcp h.0 (subst (λ z. links.Sends z l k b.vcp) (sym here) h.1))
    node_next (Puts (Fct l) w k) ways h =
        outer (Fct l) (tok.PutFct (back w)) (λ h. tt) [] (put s.way w (s.way w ++ tokens.Fct ∷ [])) (ap (λ z. put s.way w (s.way w ++ z ∷ [])) (sym h.1) ∙ put_ways s.way u.way w k ways) h.3.inner
        (link_homed plan n l (back w) a.vcp b.vcp (record (a.vcp.link l) { receiver = h.2.receiver }) (back_into plan w (AtNode n l) h.0) (ap (λ z. z.link) h.2.after)
        (subst (CarrierHomed plan n) (sym (ap (λ z. z.carrier) h.2.after)) homed.carrier) homed) (quiet h.3.process)
        (sends_fct plan waiting acc (vcps s) (switches plan s) s.way t g.shows n l w b.vcp h.0 (subst (λ z. links.SendsFct z l b.vcp) (sym here) h.2))
    node_next d ways h = absurd h

  module _ (k : ℕ) (at : n ≡ plan.nodes + k) (a b : Switch) (ea : s.state n ≡ IsSwitch a) (eb : u.state n ≡ IsSwitch b) where
    was : switches plan s k ≡ a
    was = ap (λ m. switch_of (s.state m)) (sym at) ∙ ap switch_of ea

    cars : vcps s ≡ vcps u
    cars = switch_vcps plan s u n a b ea eb others

    sws : put (switches plan s) k b ≡ switches plan u
    sws = switch_switches plan s u k b (ap u.state (sym at) ∙ eb) (λ m ne. others m (λ e. ne (e ∙ at)))

    switch_homed : SwitchHomed plan k a
    switch_homed = subst (SwitchHomed plan k) was (g.switched k)

    same_inner : (m c : ℕ) → inner_of (u.state m) c ≡ inner_of (s.state m) c
    same_inner m c = elim (cases_eq m n) [
      | inl q ↦ subst (λ z. inner_of (u.state z) c ≡ inner_of (s.state z) c) (sym q) (ap (λ z. inner_of z c) eb ∙ sym (ap (λ z. inner_of z c) ea))
      | inr ne ↦ ap (λ z. inner_of z c) (others m ne)
    ]

    switched : (act : Act) (e : TokenEvent) → (IsNoMove act → MovesTokens e) → (lines : ℕ → List Token) → lines ≡ u.way → SwitchHomed plan k b → TokenLifted plan waiting (vcps s) (put (switches plan s) k b) lines t e [] → Next plan waiting Does s u t n act []
    switched act e own lines el home l =
        let sound = sound_step plan waiting t e l.new acc g.sound l.step in
        let shows : Shows plan (vcps u) (switches plan u) u.way l.new =
        subst (λ z. Shows plan z (switches plan u) u.way l.new) cars
        (subst (λ z. Shows plan (vcps s) z u.way l.new) sws
        (subst (λ z. Shows plan (vcps s) (put (switches plan s) k b) z l.new) el l.shows)) in
        record {
          new = l.new;
          events = e ∷ [];
          single = omega arith;
          moves = λ h. (e, refl, own h);
          run = (l.new, l.step, refl);
          good = record {
            shows = shows;
            sound = sound;
            nodes = λ m. subst (λ f. VcpHomed plan m (f m)) cars (g.nodes m);
            switched = λ m. subst (λ f. SwitchHomed plan m (f m)) sws (every_put (SwitchHomed plan) (switches plan s) k b home (λ j ne. g.switched j) m);
            inner = λ m c. subst InnerFits (sym (same_inner m c)) (g.inner m c);
            kinds = λ m h. (let x = g.kinds m h in (x.0, others m (λ e. omega arith) ∙ x.1));
          };
          views = outer_views plan s u t l.new [] g sound shows l.says same_inner;
          short = λ c. no_step;
          trace = λ d. subst (λ z. Trace Does z [] (process_of d (u.state n))) (sym (ap (process_of d) ea)) (subst (Trace Does d []) (sym (ap (process_of d) eb)) none);
          by_no_other = λ past. refl;
        }

    comes_homed : (l word w : ℕ) (c : Token) → IsInto plan w (AtSwitch k l) → b ≡ switch.with_token a l word c → SwitchHomed plan k b
    comes_homed l word w (tokens.Byte c) into h = input_homed plan k l w a b _ into (ap (λ z. z.input) h) switch_homed
    comes_homed l word w t into h = input_homed plan k l w a b _ into (ap (λ z. z.input) h) switch_homed

    passes_homed : (l w : ℕ) → IsInto plan w (AtSwitch k l) → switch.Passes (body_limit plan) (switch_plan plan k) a l b → SwitchHomed plan k b
    passes_homed l w into (switch.passes_byte c rest unmarked front short h) = input_homed plan k l w a b _ into (ap (λ z. z.input) h) switch_homed
    passes_homed l w into (switch.drops_byte c rest unmarked front long h) = input_homed plan k l w a b _ into (ap (λ z. z.input) h) switch_homed
    passes_homed l w into (switch.passes_mark m rest unmarked front group h) = input_homed plan k l w a b _ into (ap (λ z. z.input) h) switch_homed
    passes_homed l w into (switch.loses m rest unmarked front group h) = input_homed plan k l w a b _ into (ap (λ z. z.input) h) switch_homed

    released_homed : (l w : ℕ) (c : Token) → IsInto plan w (AtSwitch k l) → SwitchHomed plan k (switch.released a l c)
    released_homed l w (tokens.Byte c) into = switch_homed
    released_homed l w (tokens.EndMark m) into = input_homed plan k l w a (switch.released a l (tokens.EndMark m)) _ into refl switch_homed
    released_homed l w tokens.Fct into = switch_homed

    pub switch_next : (label : Label Act Token) → ((v : ℕ) → taken_off v label ++ u.way v ≡ s.way v ++ put_on v label) → SwitchStep plan waiting k a label b → Next plan waiting Does s u t n (act_of label) []
    switch_next (Own (Route i o)) ways h =
        let r = subst (λ z. switch.Routes (switch_plan plan k) waiting z i o b) (sym was) h in
        let w = routed_way plan k i o a h.body switch_homed h.group in
        switched (Route i o) (tok.Route w.0 (way_from plan (AtSwitch k o))) (λ h. tt) s.way (sym (own_ways s u (Route i o) ways)) (input_homed plan k i w.0 a b _ w.1 (ap (λ z. z.input) h.after) switch_homed)
        (at_switch.routes plan waiting acc (vcps s) (switches plan s) s.way t g.shows k i o w.0 b w.1 r)
    switch_next (Own (Pass l)) ways h =
        let w = input_way plan k l a b switch_homed h in
        switched (Pass l) (tok.Pass w.0) (λ h. tt) s.way (sym (own_ways s u (Pass l) ways)) (passes_homed l w.0 w.1 h)
        (at_switch.passes_rest plan waiting acc (vcps s) (switches plan s) s.way t g.shows k l w.0 b w.1 (subst (λ z. switch.Passes (body_limit plan) (switch_plan plan k) z l b) (sym was) h)
        (λ c rest front long unmarked. in_switch plan waiting acc s t g k l w.0 c rest w.1 unmarked front long))
    switch_next (Takes (Take l word) w c) ways h =
        let front = take_front s.way u.way w c ways in
        elim h.1 [
          | switch.due d after ↦ switched (Take l word) (tok.Take w word) (λ h. tt) (put s.way w (u.way w)) (take_ways s.way u.way w c ways) (comes_homed l word w c h.0 after)
              (at_switch.comes plan waiting acc (vcps s) (switches plan s) s.way t g.shows k l w word c (u.way w) b h.0 front (subst (λ z. b ≡ switch.with_token z l word c) (sym was) after))
          | switch.not_due no_place after ↦ absurd (no_place (subst (λ z. IsDue (z.output l) (z.input l).receiver c) was (is_due plan (vcps s) (switches plan s) s.way t w (AtSwitch k l) c (u.way w) g.sound.credited g.shows h.0 front)))
        ]
    switch_next (Puts (Put o) w c) ways h =
        let v = routed_way plan k h.1.link o a h.1.body switch_homed h.1.leaves in
        let r = subst (λ z. switch.Sends (switch_plan plan k) waiting z o c b) (sym was) h.1 in
        let rv = routed_way plan k r.link o (switches plan s k) r.body (g.switched k) r.leaves in
        switched (Put o) (tok.Put w) (λ h. tt) (put s.way w (s.way w ++ c ∷ [])) (put_ways s.way u.way w c ways)
        (subst (SwitchHomed plan k) (sym h.1.after) (released_homed h.1.link v.0 c v.1))
        (at_switch.sends plan waiting acc (vcps s) (switches plan s) s.way t g.shows k o w rv.0 c b h.0 r rv.1)
    switch_next (Puts (Fct l) w c) ways h =
        switched (Fct l) (tok.PutFct (back w)) (λ h. tt) (put s.way w (s.way w ++ tokens.Fct ∷ [])) (ap (λ z. put s.way w (s.way w ++ z ∷ [])) (sym h.1) ∙ put_ways s.way u.way w c ways)
        (input_homed plan k l (back w) a b _ (back_into plan w (AtSwitch k l) h.0) (ap (λ z. z.input) h.2.after) switch_homed)
        (at_switch.sends_fct plan waiting acc (vcps s) (switches plan s) s.way t g.shows k l w b h.0 (subst (λ z. switch.SendsFct z l b) (sym was) h.2))
    switch_next d ways h = absurd h
