-- One exchange on a virtual link: what was offered is taken where its receiver inputs, and then its output is finished.
use Rattle.std.proofs.Common.{◌≡◌, ◌≢◌, ℕ, suc, ◌<◌, ◌≤◌, Bool, true, false, List, [], ◌∷◌, ◌++◌, length, Some, None, inl, inr, sym, ap, subst, ◌∙◌, arith, length-append}
use Rattle.std.specs.List.{AllByRecursion}
use Rattle.std.proofs.lemmas.Bool.{cases_eq}
use Rattle.vc_accepted.proofs.Determinate.{one_state}
use Rattle.vc_accepted.specs.Determinate.{IsLawful}
use Rattle.vc_accepted.specs.NetworkOf.{network_of}
use Rattle.vc_accepted.specs.Process.{Process, does, Goes}
use Rattle.vc_free.proofs.Places.{Arrived, happened}
use Rattle.vc_free.proofs.Stages.{State, got_more, finished_more, IsAt, stays_there, comes, ended, leads}
use Rattle.vc_free.specs.Delivery.{HasDelivered}
use Rattle.vc_machine.proofs.Basics.{put-same, put-other}
use Rattle.vc_machine.proofs.Labels.{Phase, Waiting as WaitingPhase, PhaseFits}
use Rattle.vc_machine.specs.Machine.{ChanState}
use Rattle.vc_machine.specs.Paths.{Channel}
use Rattle.vc_machine.specs.Rendezvous.{View}
use Rattle.vc_network.proofs.Main.{faithful}
use Rattle.vc_network.proofs.Steps.{view_seen}
use Rattle.vc_network.proofs.Wiring.{carried}
use Rattle.vc_network.specs.Actors.{ActBy}
use Rattle.vc_network.specs.Headline.{IsFaithful}
use Rattle.vc_network.specs.Network.{Act, HappenAll, Happens}
use Rattle.vc_network.specs.Plan as network
use Rattle.vc_network.specs.Plan.{Way, home, net_of}
use Rattle.vc_network.specs.Still.{IsNoMove}
use Rattle.vc_network.specs.Views.{source_node, sink_node, view}
use Rattle.vc_packets.specs.Functions.{put}
use Rattle.vc_packets.specs.declared.packet.Packet.{Packet}
use Rattle.vc_plan.specs.Accepted.{IsAccepted}
use Rattle.vc_plan.specs.declared.plan.Plan.{Plan}
use Rattle.vc_process.specs.ProcessStep.{Finishes, Receives}
use Rattle.vc_switch.specs.Waiting.{Waiting}

-- ---- lists

no_longer : (xs : List (List ℕ)) (x : List ℕ) → xs ≡ xs ++ x ∷ [] → ⊥
no_longer xs x e = let a = ap length e in let b = length-append xs (x ∷ []) in omega arith

next_one : (xs rest : List (List ℕ)) (x y : List ℕ) → (xs ++ x ∷ []) ++ rest ≡ xs ++ y ∷ [] → x ≡ y
next_one [] rest x y e = cc
next_one (z ∷ zs) rest x y e = next_one zs rest x y (let h : (zs ++ x ∷ []) ++ rest ≡ zs ++ y ∷ [] = cc in h)

-- ---- a channel by its halves

-- a piece that is held is of a message that is not taken
not_taken : (ch : Channel) (f : Phase) (x : ChanState) (n : ℕ) (q : Packet) → PhaseFits ch f x n → x.held ≡ Some q → x.taken ≡ x.offered → ⊥
not_taken ch WaitingPhase x n q h e s = let g = h.3 in no_longer x.taken g.message (s ∙ g.offered)
not_taken ch y x n q h e s = let k : None ≡ Some q = sym h.1 ∙ e in absurd cc

module _ (p : Plan) (waiting : Waiting) (acc : IsAccepted p) where
  abbrev N : network.Plan
  N = network_of p

  real : (d v : ℕ) (ab : Bool) → home N d ≡ Way v ab → d < length N.channels
  real d v ab h = (carried N d v ab h).0

  its_faith : (u : State) (a : Arrived p waiting u) (d v : ℕ) (ab : Bool) → home N d ≡ Way v ab → IsFaithful N u d
  its_faith u a d v ab h = faithful N u a.tokens a.good d (real d v ab h)

  -- no output is finished of which nothing is taken
  no_end : (u : State) (a : Arrived p waiting u) (d v : ℕ) (ab : Bool) → home N d ≡ Way v ab → (x : View) → view N u d ≡ finished_more x → x.finished ≡ length x.taken → ⊥
  no_end u a d v ab h x e same =
      let f = its_faith u a d v ab h in
      let k = subst (λ (z : View). z.finished ≤ length z.taken) e f.finished in
      omega arith

  -- ---- where no process inputs, nothing comes and no output is finished

  abbrev AreEven : (ℕ → View) → Type 0
  AreEven views = (d v : ℕ) (ab : Bool) → home N d ≡ Way v ab → (views d).finished ≡ length (views d).taken

  pub calm : (events : List (ActBy Act)) (s u : State) (procs : ℕ → Process) (views : ℕ → View) (wants : ℕ → Bool) → Arrived p waiting s → IsAt p s procs views wants → AreEven views → ((d : ℕ) → wants d ≡ false) →
      AllByRecursion (λ e. IsNoMove e.act) events → HappenAll N waiting does s events u → Arrived p waiting u × IsAt p u procs views wants
  calm [] s u procs views wants a at even idle none h =
      let same : s ≡ u = λ i. record { state = λ n. sym (h.states n) i; way = λ w. sym (h.ways w) i } in
      (subst (Arrived p waiting) same a, subst (λ z. IsAt p z procs views wants) same at)
  calm (e ∷ es) s u procs views wants a at even idle none h =
      let mid = h.0 in
      let b = happened p waiting acc s mid e a h.1 in
      let l = leads p waiting s mid e.actor h.1.0 h.1.2 procs views wants at (subst IsNoMove (sym h.1.1) none.0) in
      elim l [
        | stays_there x ↦ calm es mid u procs views wants b x even idle none.1 h.2
        | comes d v ab m q home wanted goes x ↦ absurd (let z : false ≡ true = sym (idle d) ∙ wanted in cc)
        | ended d v ab q home goes x ↦ absurd (no_end mid b d v ab home (views d) (x.shows d ∙ put-same views d (finished_more (views d))) (even d v ab home))
      ]

  -- ---- an exchange

  module _ (procs : ℕ → Process) (views : ℕ → View) (wants : ℕ → Bool) (c v : ℕ) (ab : Bool) (here : home N c ≡ Way v ab) (sent : List ℕ) (after_out after_in : Process) where
    abbrev src : ℕ
    src = source_node N (Way v ab)

    abbrev snk : ℕ
    snk = sink_node N (Way v ab)

    abbrev got : ℕ → View
    got = put views c (got_more (views c) sent)

    abbrev procs_got : ℕ → Process
    procs_got = put procs snk after_in

    abbrev over_views : ℕ → View
    over_views = put got c (finished_more (got c))

    abbrev over_procs : ℕ → Process
    over_procs = put procs_got src after_out

    pub data Exchanging (u : State) : Type 0 where
      before : wants c ≡ true → Goes (procs snk) (Receives c sent) after_in → IsLawful (procs snk) → IsAt p u procs views wants → Exchanging u
      taken : IsAt p u procs_got got (put wants c false) → Exchanging u
      over : IsAt p u over_procs over_views (put wants c false) → Exchanging u

    module _ (apart : src ≢ snk) (goes_out : Goes (procs src) (Finishes c) after_out) (lawful : IsLawful (procs src)) (others : (d : ℕ) → (d ≡ c → ⊥) → wants d ≡ false) (even : AreEven views)
        (offers : (views c).offered ≡ (views c).taken ++ sent ∷ []) where
      idle : (d : ℕ) → put wants c false d ≡ false
      idle d = elim (cases_eq d c) [
        | inl e ↦ ap (put wants c false) e ∙ put-same wants c false
        | inr ne ↦ put-other wants c false d ne ∙ others d ne
      ]

      same_end : (w : ℕ) (f : Bool) → home N c ≡ Way w f → Way w f ≡ Way v ab
      same_end w f h = sym h ∙ here

      got_same : got c ≡ got_more (views c) sent
      got_same = put-same views c (got_more (views c) sent)

      -- the message that came is the one that was sent
      one_came : (u : State) → Arrived p waiting u → (d w : ℕ) (f : Bool) (m : List ℕ) (q : Process) → d ≡ c → home N d ≡ Way w f → Goes (procs (sink_node N (Way w f))) (Receives d m) q → Goes (procs snk) (Receives c sent) after_in → IsLawful (procs snk) →
          IsAt p u (put procs (sink_node N (Way w f)) q) (put views d (got_more (views d) m)) (put wants d false) → Exchanging u
      one_came u a d w f m q e h goes gives law at =
          let h2 : home N c ≡ Way w f = sym (ap (home N) e) ∙ h in
          let snk_is : sink_node N (Way w f) ≡ snk = ap (sink_node N) (same_end w f h2) in
          let at2 : IsAt p u (put procs snk q) (put views c (got_more (views c) m)) (put wants c false) =
          subst (λ z. IsAt p u (put procs z q) (put views c (got_more (views c) m)) (put wants c false)) snk_is (subst (λ z. IsAt p u (put procs (sink_node N (Way w f)) q) (put views z (got_more (views z) m)) (put wants z false)) e at) in
          let goes2 : Goes (procs snk) (Receives c m) q = subst (λ z. Goes (procs z) (Receives c m) q) snk_is (subst (λ z. Goes (procs (sink_node N (Way w f))) (Receives z m) q) e goes) in
          let faith = its_faith u a c v ab here in
          let order = subst (λ (z : View). (rest : List (List ℕ)) × (z.taken ++ rest ≡ z.offered)) (at2.shows c ∙ put-same views c (got_more (views c) m)) faith.in_order in
          let is : m ≡ sent = next_one (views c).taken order.0 m sent (order.1 ∙ offers) in
          let q_is : q ≡ after_in = one_state.next (procs snk) q after_in (Receives c sent) (law, subst (λ z. Goes (procs snk) (Receives c z) q) is goes2) (law, gives) in
          taken (subst (λ z. IsAt p u (put procs snk z) got (put wants c false)) q_is (subst (λ z. IsAt p u (put procs snk q) (put views c (got_more (views c) z)) (put wants c false)) is at2))

      -- the output that is finished is the one
      one_ended : (u : State) → (d w : ℕ) (f : Bool) (q : Process) → d ≡ c → home N d ≡ Way w f → Goes (procs_got (source_node N (Way w f))) (Finishes d) q →
          IsAt p u (put procs_got (source_node N (Way w f)) q) (put got d (finished_more (got d))) (put wants c false) → Exchanging u
      one_ended u d w f q e h goes at =
          let h2 : home N c ≡ Way w f = sym (ap (home N) e) ∙ h in
          let src_is : source_node N (Way w f) ≡ src = ap (source_node N) (same_end w f h2) in
          let at2 : IsAt p u (put procs_got src q) over_views (put wants c false) =
          subst (λ z. IsAt p u (put procs_got z q) over_views (put wants c false)) src_is (subst (λ z. IsAt p u (put procs_got (source_node N (Way w f)) q) (put got z (finished_more (got z))) (put wants c false)) e at) in
          let goes2 : Goes (procs_got src) (Finishes c) q = subst (λ z. Goes (procs_got z) (Finishes c) q) src_is (subst (λ z. Goes (procs_got (source_node N (Way w f))) (Finishes z) q) e goes) in
          let goes3 : Goes (procs src) (Finishes c) q = subst (λ z. Goes z (Finishes c) q) (put-other procs snk after_in src apart) goes2 in
          let q_is : q ≡ after_out = one_state.next (procs src) q after_out (Finishes c) (lawful, goes3) (lawful, goes_out) in
          over (subst (λ z. IsAt p u (put procs_got src z) over_views (put wants c false)) q_is at2)

      got_even : (d w : ℕ) (f : Bool) → (d ≡ c → ⊥) → home N d ≡ Way w f → (got d).finished ≡ length (got d).taken
      got_even d w f ne h = subst (λ (z : View). z.finished ≡ length z.taken) (sym (put-other views c (got_more (views c) sent) d ne)) (even d w f h)

      over_even : AreEven over_views
      over_even d w f h = elim (cases_eq d c) [
        | inl e ↦ (let k = even c v ab here in
            let n = length-append (views c).taken (sent ∷ []) in
            let z : (over_views c).finished ≡ length (over_views c).taken =
            subst (λ (y : View). y.finished ≡ length y.taken) (sym (put-same got c (finished_more (got c)))) (subst (λ (y : View). suc y.finished ≡ length y.taken) (sym got_same) (omega arith)) in
            subst (λ y. (over_views y).finished ≡ length (over_views y).taken) (sym e) z)
        | inr ne ↦ subst (λ (z : View). z.finished ≡ length z.taken) (sym (put-other got c (finished_more (got c)) d ne)) (got_even d w f ne h)
      ]

      next_stage : (s u : State) (e : ActBy Act) → Arrived p waiting u → Happens N waiting does s e u → IsNoMove e.act → Exchanging s → Exchanging u
      next_stage s u e b h none (before wanted gives law at) =
          elim (leads p waiting s u e.actor h.0 h.2 procs views wants at (subst IsNoMove (sym h.1) none)) [
            | stays_there x ↦ before wanted gives law x
            | comes d w f m q home wanted2 goes x ↦ elim (cases_eq d c) [
              | inl is ↦ one_came u b d w f m q is home goes gives law x
              | inr ne ↦ absurd (let z : false ≡ true = sym (others d ne) ∙ wanted2 in cc)
            ]
            | ended d w f q home goes x ↦ absurd (no_end u b d w f home (views d) (x.shows d ∙ put-same views d (finished_more (views d))) (even d w f home))
          ]
      next_stage s u e b h none (taken at) =
          elim (leads p waiting s u e.actor h.0 h.2 procs_got got (put wants c false) at (subst IsNoMove (sym h.1) none)) [
            | stays_there x ↦ taken x
            | comes d w f m q home wanted2 goes x ↦ absurd (let z : false ≡ true = sym (idle d) ∙ wanted2 in cc)
            | ended d w f q home goes x ↦ elim (cases_eq d c) [
              | inl is ↦ one_ended u d w f q is home goes x
              | inr ne ↦ absurd (no_end u b d w f home (got d) (x.shows d ∙ put-same got d (finished_more (got d))) (got_even d w f ne home))
            ]
          ]
      next_stage s u e b h none (over at) =
          elim (leads p waiting s u e.actor h.0 h.2 over_procs over_views (put wants c false) at (subst IsNoMove (sym h.1) none)) [
            | stays_there x ↦ over x
            | comes d w f m q home wanted2 goes x ↦ absurd (let z : false ≡ true = sym (idle d) ∙ wanted2 in cc)
            | ended d w f q home goes x ↦ absurd (no_end u b d w f home (over_views d) (x.shows d ∙ put-same over_views d (finished_more (over_views d))) (over_even d w f home))
          ]

      all_stages : (events : List (ActBy Act)) (s u : State) → Arrived p waiting s → Exchanging s → AllByRecursion (λ e. IsNoMove e.act) events → HappenAll N waiting does s events u → Arrived p waiting u × Exchanging u
      all_stages [] s u a x none h =
          let same : s ≡ u = λ i. record { state = λ n. sym (h.states n) i; way = λ w. sym (h.ways w) i } in
          (subst (Arrived p waiting) same a, subst Exchanging same x)
      all_stages (e ∷ es) s u a x none h =
          let b = happened p waiting acc s h.0 e a h.1 in
          all_stages es h.0 u b (next_stage s h.0 e b h.1 none.0 x) none.1 h.2

      -- it is over where the network has delivered
      is_over : (u : State) → Arrived p waiting u → HasDelivered p waiting u → c < length p.channels → Exchanging u → IsAt p u over_procs over_views (put wants c false)
      is_over u a d less (over at) = at
      is_over u a d less (before wanted gives law at) =
          let t = d.asked c v ab here less (at.inputs c v ab here ∙ wanted) in
          let k = subst (λ (z : View). z.taken ≡ z.offered) (at.shows c) t.taken in
          absurd (no_longer (views c).taken sent (k ∙ offers))
      is_over u a d less (taken at) =
          let shown : view N u c ≡ got_more (views c) sent = at.shows c ∙ got_same in
          let k = even c v ab here in
          let n = ap length offers in
          let n2 = length-append (views c).taken (sent ∷ []) in
          let q = d.unasked c v ab here less (subst (λ (z : View). length z.offered ≡ suc z.finished) (sym shown) (omega arith)) in
          let chan = a.good.shows.nodes.chan c in
          let all2 : (a.tokens.nodes.chans c).taken ≡ (a.tokens.nodes.chans c).offered =
          subst (λ (z : View). z.taken ≡ z.offered) (sym shown ∙ view_seen N u a.tokens c a.good.shows (carried N c v ab here).1) (sym offers) in
          let inv = a.good.sound.inv in
          absurd (not_taken ((net_of N).chan c) (inv.phases c) (a.tokens.nodes.chans c) _ q.packet (inv.chans c (carried N c v ab here)).phase (ap (λ (x : ChanState). x.held) chan ∙ q.held) all2)

      pub exchanged : (events : List (ActBy Act)) (s u : State) → Arrived p waiting s → Exchanging s → AllByRecursion (λ e. IsNoMove e.act) events → HappenAll N waiting does s events u → HasDelivered p waiting u → c < length p.channels →
          Arrived p waiting u × IsAt p u over_procs over_views (put wants c false)
      exchanged events s u a x none h d less = let r = all_stages events s u a x none h in (r.0, is_over u r.0 d less r.1)
