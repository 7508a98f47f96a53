-- The one node runs what it can do: each meeting, stop and step of its process is an event of its network.
use Rattle.std.proofs.Common.{◌≡◌, ℕ, zero, suc, ◌+◌, ◌≤◌, ◌<◌, ◌==◌, Bool, true, false, ◌||◌, nat_eq, nat_lt, refl, sym, ap, ap₂, subst, ◌∙◌, List, [], ◌∷◌, ◌++◌, length, append_assoc, map, get_or, slice_get, append-nil, Some, inl, inr, arith, eq-eqb, ne_eqb, if◌then◌else◌}
use Rattle.std.proofs.lemmas.Bool.{cases_eq, cases_lt, lt-ltb, eqb-true}
use Rattle.std.proofs.lemmas.Bool.Decides.{nat_tests}
use Rattle.std.proofs.lemmas.List.{length-map, map-append}
use Rattle.vc_accepted.specs.Begin.{node_plan, no_node, begin_of, numbers_inside}
use Rattle.vc_accepted.specs.NetworkOf.{network_of, home_in}
use Rattle.vc_accepted.specs.OneList.{to_channel, on, by, IsMadeBy, IsTold, IsToldAlong}
use Rattle.vc_accepted.specs.Process.{Process, does}
use Rattle.vc_machine.specs.Rendezvous as rendezvous
use Rattle.vc_machine.specs.Rendezvous.{View, DoesAll, part, nothing_yet}
use Rattle.vc_network.specs.Actors.{Network, ActBy, Step}
use Rattle.vc_network.specs.Actors.Label.{Own}
use Rattle.vc_network.specs.Network.{Act, Proc, Node, Actor, IsNode, IsSwitch, Local, Moves, exchanged, begins, Happens, HappenAll}
use Rattle.vc_network.specs.Plan as network
use Rattle.vc_network.specs.Plan.{home}
use Rattle.vc_network.specs.Processes as moves
use Rattle.vc_network.proofs.Main.{part_append, does_append}
use Rattle.vc_network.specs.Views.{view, view_at, inner_of}
use Rattle.vc_process.specs.Lawful.{Lawfully}
use Rattle.vc_occam.proofs.Exchanges.{exchanges_are_meetings}
use Rattle.vc_occam.proofs.CutTraces.{steps_make_traces}
use Rattle.vc_occam.specs.Completeness.{Steps, no_more as no_steps, one_more as a_step, EndsAs}
use Rattle.vc_occam.specs.Exchanges.{AreExchanges, UsesOnly, IsMade, no_more, one_more}
use Rattle.vc_occam.specs.Exchanges as exchanges
use Rattle.vc_occam.specs.NodeTraces as node_traces
use Rattle.vc_occam.specs.SiteActions.{SiteAction}
use Rattle.vc_occam.specs.States.{State, StepsTo}
use Rattle.vc_occam.specs.Traces.{Comm, Out, Fin, In, Stp}
use Rattle.vc_placement.proofs.Ends.{output_use, input_use}
use Rattle.vc_placement.proofs.OneNode.{one_node_can}
use Rattle.vc_placement.specs.Linearization.{Atomic, Exchange, Stop, all_comms, AreFaithful, completed}
use Rattle.vc_placement.specs.OneNode.{of_one, OneNodeRunsIt}
use Rattle.vc_placement.specs.Parallel.{without_nodes}
use Rattle.vc_plan.specs.Accepted.{IsAccepted}
use Rattle.vc_plan.specs.Limits.{kinds_of}
use Rattle.vc_plan.specs.OneNode.{inside, IsOneNodeOf}
use Rattle.vc_plan.specs.declared.channel.Channel.{Channel}
use Rattle.vc_plan.specs.declared.plan.Plan.{Plan}
use Rattle.vc_process.specs.Messages.{message}
use Rattle.vc_process.specs.Numbering.{written}
use Rattle.vc_process.specs.ProcessStep.{Offers, Wants, Chooses, Stops, Meets, Rests, Finishes, Receives}
use Rattle.vc_process.specs.Usage.{Set, among}
use Rattle.vc_switch.specs.Switch.{new_switch}
use Rattle.vc_switch.specs.Waiting.{Waiting}
use Rattle.vc_tokens.specs.Tokens.{Token}
use Rattle.vc_vcp.specs.Links.{Vcp, new_vcp}

-- ---- channels inside the node

-- their numbers are those below their count
inside_there : (cs : List Channel) (k c : ℕ) → among (numbers_inside 0 k (map inside cs)) c ≡ true → c < k + length cs
inside_there [] k c h = absurd (let z : false ≡ true = h in cc)
inside_there (x ∷ cs) k c h = at (nat_eq k c) refl h (λ g. inside_there cs (suc k) c g)
  where
    at : (b : Bool) → nat_eq k c ≡ b → (b || among (numbers_inside 0 (suc k) (map inside cs)) c) ≡ true → (among (numbers_inside 0 (suc k) (map inside cs)) c ≡ true → c < suc k + length cs) → c < k + length (x ∷ cs)
    at true e g f = let same : k ≡ c = eqb-true k c e in omega arith
    at false e g f = let l = f g in omega arith

there_inside : (cs : List Channel) (k c : ℕ) → k ≤ c → c < k + length cs → among (numbers_inside 0 k (map inside cs)) c ≡ true
there_inside [] k c l h = absurd (omega arith)
there_inside (x ∷ cs) k c l h = elim (cases_eq k c) [
  | inl e ↦ ap (λ b. b || among (numbers_inside 0 (suc k) (map inside cs)) c) (eq-eqb k c e)
  | inr e ↦ ap (λ b. b || among (numbers_inside 0 (suc k) (map inside cs)) c) (ne_eqb k c e) ∙ there_inside cs (suc k) c (omega arith) (omega arith)
]

home_there : (cs : List Channel) (c n : ℕ) → c < length cs → get_or (map home_in (map inside cs)) c (network.Inside n) ≡ network.Inside 0
home_there [] c n h = absurd (omega arith)
home_there (x ∷ cs) zero n h = refl
home_there (x ∷ cs) (suc c) n h = home_there cs c n (omega arith)

below : {A : Type 0} (xs : List A) (k : ℕ) (x : A) → slice_get xs k ≡ Some x → k < length xs
below [] k x h = absurd (cc)
below (y ∷ ys) zero x h = omega arith
below (y ∷ ys) (suc k) x h = let l = below ys k x h in omega arith

-- ---- views

-- a channel's part of a list of communications
abbrev pub of_channel : ℕ → List Comm → List rendezvous.Comm
of_channel c ks = part c (map to_channel ks)

pub without_is : (c : ℕ) (ks : List (ℕ × Comm)) → of_channel c (without_nodes ks) ≡ on c ks
without_is c [] = refl
without_is c ((n, k) ∷ ks) = ap (λ r. if nat_eq (to_channel k).0 c then (to_channel k).1 ∷ r else r) (without_is c ks)

are_exchanges : (hs : List Atomic) → AreFaithful hs → AreExchanges (without_nodes (all_comms hs))
are_exchanges [] h = tt
are_exchanges (Exchange n m c x y ∷ hs) h = (refl, h.0, refl, are_exchanges hs h.1)
are_exchanges (Stop n c ∷ hs) h = are_exchanges hs h.1

-- what an exchange leads to on a channel, which is the one that it is on or another
abbrev pub If : Bool → rendezvous.Comm → List rendezvous.Comm → List rendezvous.Comm
If b k l = if b then k ∷ l else l

pub exchange_shown : (b : Bool) (v u : View) (m n : List ℕ) (l : List rendezvous.Comm) → m ≡ n → DoesAll v (If b (rendezvous.Out m) (If b (rendezvous.In n) (If b rendezvous.Fin l))) u → DoesAll (if b then exchanged v m else v) l u × (b ≡ true → v.stopped ≡ false)
exchange_shown false v u m n l e h = (h, λ q. absurd (cc))
exchange_shown true v u m n l e (x, (a, is), (y, (got, going, is2), (z, (less, is3), rest))) =
    let same : z ≡ exchanged v m =
    is3 ∙ ap (λ (w : View). record w { finished = suc w.finished }) (is2 ∙ ap (λ (w : View). record w { taken = w.taken ++ n ∷ [] }) is)
    ∙ ap (λ (k : List ℕ). record v { offered = v.offered ++ m ∷ []; taken = v.taken ++ k ∷ []; finished = suc v.finished }) (sym e) in
    (subst (λ (w : View). DoesAll w l u) same rest, λ q. sym (ap (λ (w : View). w.stopped) is) ∙ going)

pub stop_shown : (b : Bool) (v u : View) (l : List rendezvous.Comm) → DoesAll v (If b rendezvous.Stp l) u → DoesAll (if b then record v { stopped = true } else v) l u
stop_shown false v u l h = h
stop_shown true v u l (w, is, rest) = subst (λ (z : View). DoesAll z l u) is rest

-- these views with one of them changed
abbrev put : (ℕ → View) → ℕ → View → ℕ → View
put f i x j = if nat_eq j i then x else f j

-- the view of a channel after one is changed
after_put : (f : ℕ → View) (d c : ℕ) (g : View → View) (P : View → Type 0) → P (if nat_eq d c then g (f c) else f c) → P (put f d (g (f d)) c)
after_put f d c g P h = elim (cases_eq d c) [
  | inl e ↦ subst P (ap (λ b. if b then g (f c) else f c) (eq-eqb d c e) ∙ ap (λ z. g (f z)) (sym e) ∙ sym (ap (λ b. if b then g (f d) else f c) (eq-eqb c d (sym e)))) h
  | inr e ↦ subst P (ap (λ b. if b then g (f c) else f c) (ne_eqb d c e) ∙ sym (ap (λ b. if b then g (f d) else f c) (ne_eqb c d (λ q. e (sym q))))) h
]

-- ---- what the events tell

put_behind : (ks ls : List Comm) → of_one (ks ++ ls) ≡ of_one ks ++ of_one ls
put_behind ks ls = map-append (λ k. (0, k)) ks ls

by_one : (ks : List Comm) → by 0 (of_one ks) ≡ ks
by_one [] = refl
by_one (k ∷ ks) = ap (λ z. k ∷ z) (by_one ks)

by_none : (n : ℕ) (ks : List Comm) → 1 ≤ n → by n (of_one ks) ≡ []
by_none n [] l = refl
by_none n (k ∷ ks) l = ap (λ b. if b then k ∷ by n (of_one ks) else by n (of_one ks)) (ne_eqb 0 n (λ e. omega arith)) ∙ by_none n ks l

on_one_list : (c : ℕ) (ks : List Comm) → on c (of_one ks) ≡ of_channel c ks
on_one_list c [] = refl
on_one_list c (k ∷ ks) = ap (λ r. if nat_eq (to_channel k).0 c then (to_channel k).1 ∷ r else r) (on_one_list c ks)

channel_append : (c : ℕ) (ks ls : List Comm) → of_channel c (ks ++ ls) ≡ of_channel c ks ++ of_channel c ls
channel_append c ks ls = ap (part c) (map-append to_channel ks ls) ∙ part_append c (map to_channel ks) (map to_channel ls)

exchanges_append : (ks ls : List Comm) → AreExchanges ks → AreExchanges ls → AreExchanges (ks ++ ls)
exchanges_append [] ls h g = g
exchanges_append (Out c x ∷ In d y ∷ Fin f ∷ t) ls h g = (h.0, h.1, h.2, exchanges_append t ls h.3 g)
exchanges_append (Stp c ∷ t) ls h g = exchanges_append t ls h g
exchanges_append k ls h g = absurd h

they_meet : (inside : Set) (ks : List Comm) → AreExchanges ks → node_traces.Meets inside ks
they_meet inside [] h = tt
they_meet inside (Out c x ∷ In d y ∷ Fin f ∷ t) h = (λ i. (h.0, h.1, h.2), they_meet inside t h.3)
they_meet inside (Stp c ∷ t) h = they_meet inside t h
they_meet inside k h = absurd h

-- a run of a channel in two
halved : (xs ys : List rendezvous.Comm) (v u : View) → DoesAll v (xs ++ ys) u → (w : View) × DoesAll v xs w × DoesAll w ys u
halved [] ys v u h = (v, refl, h)
halved (x ∷ xs) ys v u h = let r = halved xs ys h.0 u h.2 in (r.0, (h.0, h.1, r.1), r.2)

-- steps of a process
one_step : {s t : State} {i : ℕ} {d : SiteAction} {ks : List Comm} → StepsTo s i d ks t → Steps s ks t
one_step {s} {t} {ks = ks} st = subst (λ z. Steps s z t) (append-nil ks) (a_step st no_steps)

three_steps : {s t u w : State} {i j k : ℕ} {d e f : SiteAction} {x y z : Comm} → StepsTo s i d (x ∷ []) t → StepsTo t j e (y ∷ []) u → StepsTo u k f (z ∷ []) w → Steps s (x ∷ y ∷ z ∷ []) w
three_steps a b c = a_step a (a_step b (a_step c no_steps))

steps_append : {s t u : State} {ks ls : List Comm} → Steps s ks t → Steps t ls u → Steps s (ks ++ ls) u
steps_append no_steps g = g
steps_append {s} {t} {u} {ls = ls} (a_step {ks = ks} {ls = ms} st h) g = subst (λ z. Steps s z u) (sym (append_assoc ks ms ls)) (a_step st (steps_append h g))

stop_alone : (b : Bool) (v : View) → DoesAll v (If b rendezvous.Stp []) (if b then record v { stopped = true } else v)
stop_alone true v = (record v { stopped = true }, refl, refl)
stop_alone false v = refl

module _ (p one : Plan) (waiting : Waiting) (is : IsOneNodeOf p one) where
  abbrev plan : network.Plan
  plan = network_of one

  abbrev within : Set
  within = (begin_of one 0).inside

  abbrev count : ℕ
  count = length p.channels

  inside_below : (c : ℕ) → within c ≡ true → c < count
  inside_below c h =
      let l = inside_there p.channels 0 c (subst (λ cs. among (numbers_inside 0 0 cs) c ≡ true) is.channels h) in
      omega arith

  below_inside : (c : ℕ) → c < count → within c ≡ true
  below_inside c h = subst (λ cs. among (numbers_inside 0 0 cs) c ≡ true) (sym is.channels) (there_inside p.channels 0 c (omega arith) (omega arith))

  at_home : (c : ℕ) → c < count → home plan c ≡ network.Inside 0
  at_home c h = ap (λ cs. get_or (map home_in cs) c (network.Inside (length one.nodes))) is.channels ∙ home_there p.channels c (length one.nodes) h

  one_there : 0 < length one.nodes
  one_there = let e = ap length is.is.nodes in omega arith

  -- the node as it stands
  abbrev node : Vcp → State → (ℕ → View) → Node Process
  node vcp u f = record { vcp = vcp; process = record { inside = within; state = u }; inner = f }

  abbrev after : Network (Actor Process) Token → Node Process → Network (Actor Process) Token
  after s a = record { state = λ n. if n == 0 then IsNode a else s.state n; way = s.way }

  -- a move of the node's process is an event of its network
  happens : (s : Network (Actor Process) Token) (a b : Node Process) (m : moves.Move) → s.state 0 ≡ IsNode a → Moves plan does 0 a m b → Step (Local plan waiting does) s 0 (Own (Proc m)) (after s b)
  happens s a b m e h = record {
    local = subst (λ z. Local plan waiting does 0 z (Own (Proc m)) (IsNode b)) (sym e) (one_there, h);
    others = λ n ne. ap (λ (z : Bool). if z then IsNode b else s.state n) (ne_eqb n 0 ne);
    ways = λ w. sym (append-nil (s.way w));
  }

  -- events from a state, to one in which the process stands so and each channel shows this, and what they tell
  record Ran (s : Network (Actor Process) Token) (done : List Comm) (last : State) (g : ℕ → View) (total : List Comm) : Type 0 where
    events : List (ActBy Act)
    end : Network (Actor Process) Token
    happen : HappenAll plan waiting does s events end
    along : IsToldAlong one waiting (of_one done) s events end (of_one total)
    vcp : Vcp
    inner : ℕ → View
    here : end.state 0 ≡ IsNode (node vcp last inner)
    shows : (c : ℕ) → c < count → inner c ≡ g c

  first_event : (s : Network (Actor Process) Token) (done more : List Comm) (a b : Node Process) (m : moves.Move) (last : State) (g : ℕ → View) (total : List Comm) → IsTold one s (of_one done) → s.state 0 ≡ IsNode a → Moves plan does 0 a m b → Ran (after s b) (done ++ more) last g total → Ran s done last g total
  first_event s done more a b m last g total told e h r =
      let first : Happens plan waiting does s (record { actor = 0; act = Proc m }) (after s b) = (Own (Proc m), refl, happens s a b m e h) in
      record {
        events = record { actor = 0; act = Proc m } ∷ r.events;
        end = r.end;
        happen = (after s b, first, r.happen);
        along = (told, (after s b, first, (of_one more, subst (λ z. IsToldAlong one waiting z (after s b) r.events r.end (of_one total)) (put_behind done more) r.along)));
        vcp = r.vcp;
        inner = r.inner;
        here = r.here;
        shows = r.shows;
      }

  abbrev Leads : (ℕ → View) → List Comm → (ℕ → View) → Type 0
  Leads f ks g = (c : ℕ) → c < count → DoesAll (f c) (of_channel c ks) (g c)

  abbrev first_state : State
  first_state = (begin_of one 0).state

  -- where the run is: what was done, and what each channel shows
  record Here (s : Network (Actor Process) Token) (v : Vcp) (u : State) (f : ℕ → View) (done : List Comm) : Type 0 where
    at : s.state 0 ≡ IsNode (node v u f)
    others : (n : ℕ) → (n ≡ 0 → ⊥) → s.state n ≡ (begins plan (begin_of one)).state n
    steps : Steps first_state done u
    exchanges_so : AreExchanges done
    sees : (c : ℕ) → c < count → DoesAll nothing_yet (of_channel c done) (f c)
    no_more_channels : (c : ℕ) → count ≤ c → of_channel c done ≡ []

  past_home : (cs : List Channel) (c n : ℕ) → length cs ≤ c → get_or (map home_in (map inside cs)) c (network.Inside n) ≡ network.Inside n
  past_home [] c n h = refl
  past_home (x ∷ cs) zero n h = absurd (omega arith)
  past_home (x ∷ cs) (suc c) n h = past_home cs c n (omega arith)

  past_view : (s : Network (Actor Process) Token) → ((n : ℕ) → (n ≡ 0 → ⊥) → s.state n ≡ (begins plan (begin_of one)).state n) → (c : ℕ) → count ≤ c → view plan s c ≡ nothing_yet
  past_view s others c h =
      let n = length one.nodes in
      let e : home plan c ≡ network.Inside n = ap (λ cs. get_or (map home_in cs) c (network.Inside n)) is.channels ∙ past_home p.channels c n h in
      let one_node = one_there in
      ap (view_at plan s c) e ∙ ap (λ a. inner_of a c) (others n (λ q. omega arith))
      ∙ ap (λ (b : Bool). inner_of (if b then IsNode (record { vcp = new_vcp; process = begin_of one n; inner = λ c. nothing_yet }) else IsSwitch new_switch) c) (let z : nat_lt n n ≡ false = grind (arith, nat_tests) in z)

  module _ (lawful : Lawfully (written (node_plan one 0).process)) where
    told_here : (s : Network (Actor Process) Token) (v : Vcp) (u : State) (f : ℕ → View) (done : List Comm) → Here s v u f done → IsTold one s (of_one done)
    told_here s v u f done h = record {
      by_node = λ n l. (let z : 0 ≡ n = (let k = ap length is.is.nodes in omega arith) in
          subst (λ m. (a : Node Process) × (s.state m ≡ IsNode a) × IsMadeBy one m (by m (of_one done)) a.process.state) z (
            node v u f,
            h.at,
            subst (λ ks. IsMadeBy one 0 ks u) (sym (by_one done))
                (steps_make_traces (written (node_plan one 0).process) (begin_of one 0).state.store done u lawful h.steps, they_meet within done h.exchanges_so),
          ));
      by_no_other = λ n l. by_none n done (let k = ap length is.is.nodes in omega arith);
      on_channel = λ c. subst (λ z. DoesAll nothing_yet z (view plan s c)) (sym (on_one_list c done)) (elim (cases_lt c count) [
        | inl l ↦ subst (DoesAll nothing_yet (of_channel c done)) (sym (ap (view_at plan s c) (at_home c l) ∙ ap (λ a. inner_of a c) h.at)) (h.sees c l)
        | inr past ↦ subst (λ z. DoesAll nothing_yet z (view plan s c)) (sym (h.no_more_channels c past)) (past_view s h.others c past)
      ]);
    }

    -- one event more
    next_here : (s : Network (Actor Process) Token) (v : Vcp) (u t : State) (f new : ℕ → View) (done more : List Comm) → Here s v u f done → Steps u more t → AreExchanges more → ((c : ℕ) → c < count → DoesAll (f c) (of_channel c more) (new c)) → ((c : ℕ) → count ≤ c → of_channel c more ≡ []) →
        Here (after s (node v t new)) v t new (done ++ more)
    next_here s v u t f new done more h st ex leads none = record {
      at = refl;
      others = λ n ne. ap (λ (z : Bool). if z then IsNode (node v t new) else s.state n) (ne_eqb n 0 ne) ∙ h.others n ne;
      steps = steps_append h.steps st;
      exchanges_so = exchanges_append done more h.exchanges_so ex;
      sees = λ c l. subst (λ z. DoesAll nothing_yet z (new c)) (sym (channel_append c done more)) (does_append nothing_yet (f c) (new c) (of_channel c done) (of_channel c more) (h.sees c l) (leads c l));
      no_more_channels = λ c l. channel_append c done more ∙ ap₂ (λ x y. x ++ y) (h.no_more_channels c l) (none c l);
    }

    not_on : (c d : ℕ) → c < count → count ≤ d → (to : ℕ) → to ≡ c → nat_eq to d ≡ false
    not_on c d l h to e = ne_eqb to d (λ q. omega arith)

    run : {u last : State} {ks : List Comm} → exchanges.Moves within u ks last → (s : Network (Actor Process) Token) (v : Vcp) (f g : ℕ → View) (done : List Comm) → Here s v u f done → AreExchanges ks → Leads f ks g → Ran s done last g (done ++ ks)
    run {u = u} no_more s v f g done here x h = record {
      events = [];
      end = s;
      happen = record { states = λ n. refl; ways = λ w. refl };
      along = (told_here s v u f done here, record { states = λ n. refl; ways = λ w. refl }, ap of_one (sym (append-nil done)));
      vcp = v;
      inner = f;
      here = here.at;
      shows = λ c l. sym (h c l);
    }
    run {u = u} (one_more {t = t} {ls = ls} (Rests i) ks listed did rest) s v f g done here x h =
        let a = node v u f in
        let b = node v t f in
        let nothing : ks ≡ [] = did.0 in
        let next = next_here s v u t f f done ks here (one_step did.1) (subst AreExchanges (sym nothing) tt) (λ c l. subst (λ z. DoesAll (f c) (of_channel c z) (f c)) (sym nothing) refl) (λ c l. ap (of_channel c) nothing) in
        subst (Ran s done _ g) (append_assoc done ks ls)
        (first_event s done ks a b (moves.Quiet i) _ g ((done ++ ks) ++ ls) (told_here s v u f done here) here.at ((listed, record { comms = ks; does = did; inside = refl }), refl, refl)
        (run rest (after s b) v f g (done ++ ks) next (subst (λ z. AreExchanges (z ++ ls)) nothing x) (subst (λ z. Leads f (z ++ ls) g) nothing h)))
    run {u = u} (one_more {t = t} {ls = ls} (Stops i c) ks listed did rest) s v f g done here x h =
        let a = node v u f in
        let stop : View → View = λ w. record w { stopped = true } in
        let new = put f c (stop (f c)) in
        let b = node v t new in
        let leads : Leads f (Stp c ∷ ls) g = subst (λ z. Leads f (z ++ ls) g) did.0 h in
        let now : (d : ℕ) → d < count → DoesAll (f d) (of_channel d (Stp c ∷ [])) (new d) =
        λ d l. after_put f c d stop (λ w. DoesAll (f d) (of_channel d (Stp c ∷ [])) w) (stop_alone (nat_eq c d) (f d)) in
        let less = inside_below c listed.0 in
        let next = next_here s v u t f new done ks here (one_step did.1) (subst AreExchanges (sym did.0) tt) (λ d l. subst (λ z. DoesAll (f d) (of_channel d z) (new d)) (sym did.0) (now d l))
        (λ d l. ap (of_channel d) did.0 ∙ ap (λ q. if q then rendezvous.Stp ∷ [] else []) (not_on c d less l c refl)) in
        subst (Ran s done _ g) (append_assoc done ks ls)
        (first_event s done ks a b (moves.Stopch i c) _ g ((done ++ ks) ++ ls) (told_here s v u f done here) here.at ((listed.1, record { comms = ks; does = did; inside = refl }), inr (at_home c less, refl, refl))
        (run rest (after s b) v new g (done ++ ks) next (subst (λ z. AreExchanges (z ++ ls)) did.0 x)
        (λ d l. after_put f c d stop (λ w. DoesAll w (of_channel d ls) (g d)) (stop_shown (nat_eq c d) (f d) (g d) (of_channel d ls) (leads d l)))))
    run {u = u} (one_more {t = t} {ls = ls} (Meets i j k c m) ks listed did rest) s v f g done here x h =
        let a = node v u f in
        let pass : View → View = λ w. exchanged w m in
        let new = put f c (pass (f c)) in
        let b = node v t new in
        let three = Out c did.0 ∷ In c did.1 ∷ Fin c ∷ [] in
        let leads : Leads f (Out c did.0 ∷ In c did.1 ∷ Fin c ∷ ls) g = subst (λ z. Leads f (z ++ ls) g) did.5 h in
        let ex : AreExchanges (Out c did.0 ∷ In c did.1 ∷ Fin c ∷ ls) = subst (λ z. AreExchanges (z ++ ls)) did.5 x in
        let shown = λ (d : ℕ) (l : d < count). exchange_shown (nat_eq c d) (f d) (g d) m (message did.1) (of_channel d ls) (did.4 ∙ ex.1)
        (subst (λ z. DoesAll (f d) (If (nat_eq c d) (rendezvous.Out z) (If (nat_eq c d) (rendezvous.In (message did.1)) (If (nat_eq c d) rendezvous.Fin (of_channel d ls)))) (g d)) (sym did.4) (leads d l)) in
        let less = inside_below c listed.0 in
        let now : (d : ℕ) → d < count → DoesAll (f d) (of_channel d three) (new d) =
        λ d l. (let r = halved (of_channel d three) (of_channel d ls) (f d) (g d) (subst (λ z. DoesAll (f d) z (g d)) (channel_append d three ls) (leads d l)) in
        let w = (exchange_shown (nat_eq c d) (f d) r.0 m (message did.1) [] (did.4 ∙ ex.1)
        (subst (λ z. DoesAll (f d) (If (nat_eq c d) (rendezvous.Out z) (If (nat_eq c d) (rendezvous.In (message did.1)) (If (nat_eq c d) rendezvous.Fin []))) r.0) (sym did.4) r.1)).0 in
        after_put f c d pass (λ z. DoesAll (f d) (of_channel d three) z) (subst (DoesAll (f d) (of_channel d three)) w r.1)) in
        let next = next_here s v u t f new done ks here (subst (λ z. Steps u z t) (sym did.5) (three_steps did.6 did.7 did.8)) (subst AreExchanges (sym did.5) (refl, ex.1, refl, tt))
        (λ d l. subst (λ z. DoesAll (f d) (of_channel d z) (new d)) (sym did.5) (now d l))
        (λ d l. ap (of_channel d) did.5 ∙ ap (λ q. If q (rendezvous.Out (message did.0)) (If q (rendezvous.In (message did.1)) (If q rendezvous.Fin []))) (not_on c d less l c refl)) in
        subst (Ran s done _ g) (append_assoc done ks ls)
        (first_event s done ks a b (moves.Inner i j k c) _ g ((done ++ ks) ++ ls) (told_here s v u f done here) here.at
        (m, (listed.1, record { comms = ks; does = did; inside = refl }), at_home c less, (shown c less).1 (eq-eqb c c refl), refl, refl)
        (run rest (after s b) v new g (done ++ ks) next ex.3 (λ d l. after_put f c d pass (λ w. DoesAll w (of_channel d ls) (g d)) (shown d l).0)))
    run (one_more (Offers i c m) ks listed did rest) s v f g done here x h = absurd listed
    run (one_more (Wants i c m) ks listed did rest) s v f g done here x h = absurd listed
    run (one_more (Chooses i k c m) ks listed did rest) s v f g done here x h = absurd listed
    run (one_more (Finishes c) ks listed did rest) s v f g done here x h = absurd listed
    run (one_more (Receives c m) ks listed did rest) s v f g done here x h = absurd listed

  module _ (acc : IsAccepted one) where
    here_is : slice_get one.nodes 0 ≡ Some (node_plan one 0)
    here_is = subst (λ ns. slice_get ns 0 ≡ Some (get_or ns 0 no_node)) (sym is.is.nodes) refl

    on_one : (c : ℕ) (x : Channel) → slice_get one.channels c ≡ Some x → c < count
    on_one c x h = let l = below one.channels c x h in let e = ap length is.channels in let k = length-map p.channels inside in omega arith

    uses_only : UsesOnly within (written (node_plan one 0).process)
    uses_only =
        let kinds = kinds_of (node_plan one 0).vars in
        record {
          outputs = λ c h.
              (let u = output_use kinds c (written (node_plan one 0).process) h in
              let r = acc.uses 0 u.0 (node_plan one 0) u.1 here_is u.2 in
              below_inside c (on_one c r.channel (subst (λ d. slice_get one.channels d ≡ Some r.channel) u.3 r.there)));
          inputs = λ c h.
              (let u = input_use kinds c (written (node_plan one 0).process) h in
              let r = acc.uses 0 u.0 (node_plan one 0) u.1 here_is u.2 in
              below_inside c (on_one c r.channel (subst (λ d. slice_get one.channels d ≡ Some r.channel) u.3 r.there)));
        }

pub one_node_runs : OneNodeRunsIt
one_node_runs p one waiting s hs acc is acc1 lin =
    let ks = without_nodes (all_comms hs) in
    let could = one_node_can p one s hs acc is.is lin in
    let exchanges_of = are_exchanges hs lin.faithful in
    let node = node_plan one 0 in
    let lawful = acc1.lawful_use 0 node (here_is p one waiting is acc1) in
    let made = exchanges_are_meetings (begin_of one 0).inside (written node.process) (begin_of one 0).state.store ks could.0 lawful (uses_only p one waiting is acc1) exchanges_of could.1.0 in
    let opens = begins (network_of one) (begin_of one) in
    let start = ap (λ b. if b then IsNode (record { vcp = new_vcp; process = begin_of one 0; inner = λ c. nothing_yet }) else IsSwitch new_switch) (lt-ltb 0 (length one.nodes) (one_there p one waiting is)) in
    let r = run p one waiting is lawful made.moves opens new_vcp (λ c. nothing_yet) (λ c. completed (view (network_of p) s c)) []
    (record { at = start; others = λ n ne. refl; steps = no_steps; exchanges_so = tt; sees = λ c l. refl; no_more_channels = λ c l. refl })
    exchanges_of (λ c l. subst (λ z. DoesAll nothing_yet z (completed (view (network_of p) s c))) (sym (without_is c (all_comms hs))) (lin.on_channel c l)) in
    let now : Node Process = record { vcp = r.vcp; process = record { inside = (begin_of one 0).inside; state = made.last }; inner = r.inner } in
    record {
      events = r.events;
      end = r.end;
      happen = r.happen;
      node = now;
      is_node = r.here;
      told = r.along;
      on_channel = λ c l. ap (view_at (network_of one) r.end c) (at_home p one waiting is c l) ∙ ap (λ a. inner_of a c) r.here ∙ r.shows c l;
      ended = λ all. (let end = could.2 all in (subst (EndsAs made.last) end.1 made.ends).0);
    }
