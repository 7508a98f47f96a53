-- What processes come to by a list of communications, a schedule of their program comes to: the steps between an output, its input and its
-- end that communicate nothing are made before the output, or after its end.
use Rattle.std.proofs.Common.{◌≡◌, ◌≢◌, ℕ, zero, suc, ◌≤◌, ◌<◌, Bool, true, false, ◌==◌, nat_eq, ◌⊎◌, inl, inr, List, [], ◌∷◌, ◌++◌, length, Option, Some, None, refl, sym, ap, subst, ◌∙◌, arith, eq-eqb, ne_eqb, if◌then◌else◌}
use Rattle.std.proofs.lemmas.Bool.{cases_eq, cases_lt}
use Rattle.std.specs.List.{Contains}
use Rattle.vc_accepted.specs.Begin.{begin_of}
use Rattle.vc_accepted.specs.OneList.{by, on}
use Rattle.vc_free.proofs.Begun.{Path, still, quiet, tells, Tells, tells_out, tells_end, tells_want, tells_choose, tells_stop, as_path, Offering, Early, early}
use Rattle.vc_free.proofs.Delays.{delay}
use Rattle.vc_free.proofs.Fins.{none_here, none_tail}
use Rattle.vc_free.proofs.PlanChannels.{is_declared}
use Rattle.vc_free.specs.NeverStuck.{ComesTo, GetsStuck, NeverStuck, IsScheduled, ListsAreSchedules}
use Rattle.vc_free.specs.Private.Delays.{after_output}
use Rattle.vc_free.specs.Rest.{NothingGoesOn, TakesFrom}
use Rattle.vc_machine.proofs.Basics.{put-same, put-other, every_put}
use Rattle.vc_machine.specs.Rendezvous as rendezvous
use Rattle.vc_machine.specs.Rendezvous.{View, Does, DoesAll, nothing_yet}
use Rattle.vc_occam.proofs.Determinate.{finishing_one}
use Rattle.vc_occam.proofs.GoingOn.{finishes}
use Rattle.vc_occam.proofs.Insertion.{is_inserted}
use Rattle.vc_occam.proofs.Offers.{offer_own}
use Rattle.vc_occam.proofs.Preservation.{lawful, step_uses}
use Rattle.vc_occam.proofs.Receipt.{received_sent}
use Rattle.vc_occam.proofs.SiteMoves.{quiet_own, stop_own, want_own, choose_own, offer_on}
use Rattle.vc_occam.proofs.Sites.{clash}
use Rattle.vc_occam.proofs.StepWaits.{step_waits}
use Rattle.vc_occam.specs.First.{own}
use Rattle.vc_occam.specs.InUse.{UsesLawfully, outputs_rest}
use Rattle.vc_occam.specs.Private.MoveSites.{partner}
use Rattle.vc_occam.specs.Remains.{Rest, Done, Step, does_input, does_choose, in_then, in_turns, in_left, in_right}
use Rattle.vc_occam.specs.SiteActions as action
use Rattle.vc_occam.specs.SiteActions.{SiteAction}
use Rattle.vc_occam.specs.States.{State, StepsTo, meeting, waiting, output}
use Rattle.vc_occam.specs.Traces.{Comm, Out, Fin, In, Stp, SameKind}
use Rattle.vc_occam.specs.declared.moves.Move.TheVariants as move
use Rattle.vc_packets.specs.Functions.{put}
use Rattle.vc_placement.specs.Linearization.{Atomic, Exchange, Stop, all_comms, AreFaithful}
use Rattle.vc_plan.specs.Accepted.{IsAccepted}
use Rattle.vc_plan.specs.declared.plan.Plan.{Plan}
use Rattle.vc_process.proofs.Bytes.{number_within}
use Rattle.vc_process.specs.Messages.{message, received}
use Rattle.vc_process.specs.Values.{Store}
use Rattle.vc_process.specs.declared.datum.Datum.{Datum}
use Rattle.vc_process.specs.declared.datum.Datum.TheVariants as datum
use Rattle.vc_program.proofs.Reached.{reached}
use Rattle.vc_program.specs.Program as program
use Rattle.vc_program.specs.Program.{Program, program_of, Move, Goes, Stops, Passes, Makes, goes, stops, passes, MakesAll, no_more, one_more, Reaches, IsQuiet, HasEnded}

-- ---- the steps of one node

-- what comes first of a path, after steps that communicate nothing
record Front (s : State) (k : Comm) (ks : List Comm) (u : State) : Type 0 where
  before : State
  rests : Path s [] before
  site : ℕ
  action : SiteAction
  after : State
  says : Tells action k
  step : StepsTo before site action (k ∷ []) after
  rest : Path after ks u

front : {s u : State} {k : Comm} {ks : List Comm} → Path s (k ∷ ks) u → Front s k ks u
front (quiet st h) = let r = front h in record { before = r.before; rests = quiet st r.rests; site = r.site; action = r.action; after = r.after; says = r.says; step = r.step; rest = r.rest }
front {s = s} (tells {t = t} {i = i} {d = d} w st h) = record { before = s; rests = still; site = i; action = d; after = t; says = w; step = st; rest = h }

-- what comes first after an output began, with the steps between them made before both
record Adjacent (s : State) (i c : ℕ) (x : Datum) (k : Comm) (ks : List Comm) (u : State) : Type 0 where
  before : State
  rests : Path s [] before
  begun : State
  offer : Offering before i c x begun
  site : ℕ
  action : SiteAction
  after : State
  says : Tells action k
  step : StepsTo begun site action (k ∷ []) after
  rest : Path after ks u

no_end : (c : ℕ) → [] ≡ Fin c ∷ [] → ⊥
no_end c e = cc

abbrev state : Rest → Store → State
state r e = record { rest = r; store = e }

adjacent : {s t u : State} {i c : ℕ} {x : Datum} {k : Comm} {ks : List Comm} → Offering s i c x t → Path t (k ∷ ks) u → UsesLawfully s.rest → Adjacent s i c x k ks u
adjacent {s = s} {t = t} st (tells {t = v} {i = j} {d = d} w st2 r) l = record { before = s; rests = still; begun = t; offer = st; site = j; action = d; after = v; says = w; step = st2; rest = r }
adjacent {s = s} {c = c} st (quiet st2 r) l =
    let q = delay (after_output (no_end c)) st st2 (lawful s.rest l) in
    let z = adjacent {s = state q.rest q.store} q.after r (step_uses q.first l) in
    record { before = z.before; rests = quiet q.first z.rests; begun = z.begun; offer = z.offer; site = z.site; action = z.action; after = z.after; says = z.says; step = z.step; rest = z.rest }

-- an input or a guard gets the message that carries what it got
received_kind : (d : Datum) (m : List ℕ) (x : Datum) → x ≡ received d m → SameKind x d
received_kind (datum.Int z) m x h = subst (λ y. SameKind y (datum.Int z)) (sym h) (number_within m)
received_kind (datum.Bytes xs) m x h = subst (λ y. SameKind y (datum.Bytes xs)) (sym h) tt

got_again : (d : Datum) (m : List ℕ) (x : Datum) → x ≡ received d m → x ≡ received d (message x)
got_again d m x h = sym (received_sent x d (received_kind d m x h))

wants_again : {r q : Rest} {e f : Store} {i b c : ℕ} {m : List ℕ} {y : Datum} → Step r e i (action.Want b (Some m)) (In c y ∷ []) q f → Step r e i (action.Want c (Some (message y))) (In c y ∷ []) q f
wants_again (does_input {v = v} {e = e} {m = m} {x = x} h) = does_input (got_again (e v) m x h)
wants_again (in_then st) = in_then (wants_again st)
wants_again (in_turns st) = in_turns (wants_again st)
wants_again (in_left st) = in_left (wants_again st)
wants_again (in_right st) = in_right (wants_again st)

chooses_again : {r q : Rest} {e f : Store} {i k b c : ℕ} {m : List ℕ} {y : Datum} → Step r e i (action.Choose k b (Some m)) (In c y ∷ []) q f → Step r e i (action.Choose k c (Some (message y))) (In c y ∷ []) q f
chooses_again (does_choose {v = v} {e = e} {m = m} {x = x} dec g h k) = does_choose dec g h (got_again (e v) m x k)
chooses_again (in_then st) = in_then (chooses_again st)
chooses_again (in_turns st) = in_turns (chooses_again st)
chooses_again (in_left st) = in_left (chooses_again st)
chooses_again (in_right st) = in_right (chooses_again st)

taking : {s t : State} {j c : ℕ} {d : SiteAction} {y : Datum} → Tells d (In c y) → StepsTo s j d (In c y ∷ []) t → (k : Option ℕ) × StepsTo s j (meeting k c (message y)) (In c y ∷ []) t
taking tells_want st = (None, wants_again st)
taking (tells_choose {k = k}) st = (Some k, chooses_again st)

outputs : {s t : State} {i c : ℕ} {d : SiteAction} {x : Datum} → Tells d (Out c x) → StepsTo s i d (Out c x ∷ []) t → Offering s i c x t
outputs tells_out st = st

stopping : {s t : State} {i c : ℕ} {d : SiteAction} → Tells d (Stp c) → StepsTo s i d (Stp c ∷ []) t → StepsTo s i (action.StopChannel c) (Stp c ∷ []) t
stopping tells_stop st = st

-- the end of an output that waits is the output's own
pub own_end : {s t : State} {i j c : ℕ} → Contains (waiting s.rest) (output i c) → StepsTo s j action.Finish (Fin c ∷ []) t → UsesLawfully s.rest → StepsTo s i action.Finish (Fin c ∷ []) t
own_end {s} {t} {i} {j} {c} there st l = subst (λ z. StepsTo s z action.Finish (Fin c ∷ []) t) (finishing_one st (finishes s.rest s.store i c there).2 refl l) st

-- ---- parts of a list

pub by_here : (n : ℕ) (k : Comm) (ks : List (ℕ × Comm)) → by n ((n, k) ∷ ks) ≡ k ∷ by n ks
by_here n k ks = ap (λ b. if b then k ∷ by n ks else by n ks) (eq-eqb n n refl)

pub by_past : (n m : ℕ) (k : Comm) (ks : List (ℕ × Comm)) → (m ≡ n → ⊥) → by n ((m, k) ∷ ks) ≡ by n ks
by_past n m k ks ne = ap (λ b. if b then k ∷ by n ks else by n ks) (ne_eqb m n ne)

-- ---- what a channel shows

abbrev Did : Bool → View → rendezvous.Comm → View → Type 0
Did true v k w = Does v k w
Did false v k w = w ≡ v

one_done : (b : Bool) (k : rendezvous.Comm) (l : List rendezvous.Comm) (v u : View) → DoesAll v (if b then k ∷ l else l) u → (w : View) × Did b v k w × DoesAll w l u
one_done true k l v u h = h
one_done false k l v u h = (v, refl, h)

-- whether it is stopped, and what was taken
record Shows (s : Program) (c : ℕ) (v : View) : Type 0 where
  stopped : v.stopped ≡ s.stopped c
  taken : v.taken ≡ s.passed c

passes_on : (s : Program) (c d : ℕ) (a m : List ℕ) (v w1 w2 w3 : View) → Shows s d v → Did (c == d) v (rendezvous.Out a) w1 → Did (c == d) w1 (rendezvous.In m) w2 → Did (c == d) w2 rendezvous.Fin w3 →
    (w3.stopped ≡ s.stopped d) × (w3.taken ≡ put s.passed c (s.passed c ++ m ∷ []) d) × (c ≡ d → s.stopped c ≡ false)
passes_on s c d a m v w1 w2 w3 shows h1 h2 h3 = elim (cases_eq c d) [
  | inl e ↦ here e (subst (λ b. Did b v (rendezvous.Out a) w1) (eq-eqb c d e) h1) (subst (λ b. Did b w1 (rendezvous.In m) w2) (eq-eqb c d e) h2) (subst (λ b. Did b w2 rendezvous.Fin w3) (eq-eqb c d e) h3)
  | inr ne ↦ apart ne (subst (λ b. Did b v (rendezvous.Out a) w1) (ne_eqb c d ne) h1) (subst (λ b. Did b w1 (rendezvous.In m) w2) (ne_eqb c d ne) h2) (subst (λ b. Did b w2 rendezvous.Fin w3) (ne_eqb c d ne) h3)
]
  where
    here : c ≡ d → Does v (rendezvous.Out a) w1 → Does w1 (rendezvous.In m) w2 → Does w2 rendezvous.Fin w3 →
        (w3.stopped ≡ s.stopped d) × (w3.taken ≡ put s.passed c (s.passed c ++ m ∷ []) d) × (c ≡ d → s.stopped c ≡ false)
    here e d1 d2 d3 =
        let same_stop : w3.stopped ≡ v.stopped = ap (λ (z : View). z.stopped) d3.1 ∙ ap (λ (z : View). z.stopped) d2.2 ∙ ap (λ (z : View). z.stopped) d1.1 in
        let free : v.stopped ≡ false = sym (ap (λ (z : View). z.stopped) d1.1) ∙ d2.1 in
        let took : w3.taken ≡ v.taken ++ m ∷ [] = ap (λ (z : View). z.taken) d3.1 ∙ ap (λ (z : View). z.taken) d2.2 ∙ ap (λ (z : View). z.taken ++ m ∷ []) d1.1 in (
          same_stop ∙ shows.stopped,
          subst (λ z. w3.taken ≡ put s.passed c (s.passed c ++ m ∷ []) z) e (took ∙ ap (λ z. z ++ m ∷ []) (shows.taken ∙ ap s.passed (sym e)) ∙ sym (put-same s.passed c (s.passed c ++ m ∷ []))),
          λ q. ap s.stopped e ∙ sym shows.stopped ∙ free,
        )

    apart : (c ≡ d → ⊥) → w1 ≡ v → w2 ≡ w1 → w3 ≡ w2 → (w3.stopped ≡ s.stopped d) × (w3.taken ≡ put s.passed c (s.passed c ++ m ∷ []) d) × (c ≡ d → s.stopped c ≡ false)
    apart ne e1 e2 e3 =
        let same : w3 ≡ v = e3 ∙ e2 ∙ e1 in (
          ap (λ (z : View). z.stopped) same ∙ shows.stopped,
          ap (λ (z : View). z.taken) same ∙ shows.taken ∙ sym (put-other s.passed c (s.passed c ++ m ∷ []) d (λ q. ne (sym q))),
          λ q. absurd (ne q),
        )

stops_on : (s : Program) (c d : ℕ) (v w : View) → Shows s d v → Did (c == d) v rendezvous.Stp w → (w.stopped ≡ put s.stopped c true d) × (w.taken ≡ s.passed d)
stops_on s c d v w shows h = elim (cases_eq c d) [
  | inl e ↦ (let done : w ≡ record v { stopped = true } = subst (λ b. Did b v rendezvous.Stp w) (eq-eqb c d e) h in
      (ap (λ (z : View). z.stopped) done ∙ subst (λ z. true ≡ put s.stopped c true z) e (sym (put-same s.stopped c true)), ap (λ (z : View). z.taken) done ∙ shows.taken))
  | inr ne ↦ (let same : w ≡ v = subst (λ b. Did b v rendezvous.Stp w) (ne_eqb c d ne) h in
      (ap (λ (z : View). z.stopped) same ∙ shows.stopped ∙ sym (put-other s.stopped c true d (λ q. ne (sym q))), ap (λ (z : View). z.taken) same ∙ shows.taken))
]

-- ---- moves, one after another

pub after_all : {p : Plan} {s t u : Program} {m : Move} {ms : List Move} → MakesAll p s ms t → Makes p t m u → MakesAll p s (ms ++ m ∷ []) u
after_all no_more st = one_more st no_more
after_all (one_more st2 rest) st = one_more st2 (after_all rest st)

module _ (p : Plan) (acc : IsAccepted p) (stands : ℕ → State) (shown : ℕ → View) where
  abbrev count : ℕ
  count = length p.nodes

  abbrev Comes : Program → Type 0
  Comes s = (ms : List Move) × Reaches p ms s

  next : {s t : Program} {m : Move} → Comes s → Makes p s m t → Comes t
  next {m = m} h st = (h.0 ++ m ∷ [], after_all h.1 st)

  uses : {s : Program} → Comes s → (n : ℕ) → n < count → UsesLawfully (s.part n).rest
  uses {s} h n few = (reached p h.0 s acc h.1).uses n few

  -- one node has come to a state by steps that communicate nothing
  record Went (s : Program) (n : ℕ) (u : State) : Type 0 where
    to : Program
    comes : Comes to
    here : to.part n ≡ u
    others : (m : ℕ) → (m ≡ n → ⊥) → to.part m ≡ s.part m
    stopped : to.stopped ≡ s.stopped
    passed : to.passed ≡ s.passed

  went : (s : Program) (n : ℕ) {z u : State} → n < count → s.part n ≡ z → Path z [] u → Comes s → Went s n u
  went s n few e still c = record { to = s; comes = c; here = e; others = λ m ne. refl; stopped = refl; passed = refl }
  went s n few e (quiet {t = t} {i = i} st h) c =
      let r = went (record s { part = put s.part n t }) n few (put-same s.part n t) h (next c (goes n i t few (subst (λ z. StepsTo z i action.Quiet [] t) (sym e) st))) in
      record { to = r.to; comes = r.comes; here = r.here; others = λ m ne. r.others m ne ∙ put-other s.part n t m ne; stopped = r.stopped; passed = r.passed }

  -- what each node has still to do of a list, and what each channel shows where it is done
  abbrev AllGo : List (ℕ × Comm) → Program → Type 0
  AllGo ks s = (n : ℕ) → n < count → Path (s.part n) (by n ks) (stands n)

  abbrev AllShow : List (ℕ × Comm) → Program → Type 0
  AllShow ks s = (c : ℕ) → c < length p.channels → (v : View) × Shows s c v × DoesAll v (on c ks) (shown c)

  record Scheduled : Type 0 where
    to : Program
    comes : Comes to
    parts : (n : ℕ) → n < count → to.part n ≡ stands n
    stopped : (c : ℕ) → c < length p.channels → to.stopped c ≡ (shown c).stopped
    passed : (c : ℕ) → c < length p.channels → to.passed c ≡ (shown c).taken

  -- ---- nothing more is communicated

  record Settled (k : ℕ) (s : Program) : Type 0 where
    to : Program
    comes : Comes to
    done : (n : ℕ) → n < k → to.part n ≡ stands n
    others : (n : ℕ) → k ≤ n → to.part n ≡ s.part n
    stopped : to.stopped ≡ s.stopped
    passed : to.passed ≡ s.passed

  settle : (k : ℕ) (s : Program) → k ≤ count → Comes s → ((n : ℕ) → n < count → Path (s.part n) [] (stands n)) → Settled k s
  settle zero s few c go = record { to = s; comes = c; done = λ n l. absurd (omega arith); others = λ n l. refl; stopped = refl; passed = refl }
  settle (suc k) s few c go =
      let r = settle k s (omega arith) c go in
      let w = went r.to k (omega arith) (r.others k (omega arith)) (go k (omega arith)) r.comes in
      record {
        to = w.to;
        comes = w.comes;
        done = λ n l. elim (cases_eq n k) [ inl e ↦ subst (λ z. w.to.part z ≡ stands z) (sym e) w.here | inr ne ↦ w.others n ne ∙ r.done n (omega (arith, ne)) ];
        others = λ n l. w.others n (λ e. omega arith) ∙ r.others n (omega arith);
        stopped = w.stopped ∙ r.stopped;
        passed = w.passed ∙ r.passed;
      }

  at_end : (s : Program) → Comes s → AllGo [] s → AllShow [] s → Scheduled
  at_end s c go show =
      let r = settle count s (omega arith) c go in
      record {
        to = r.to;
        comes = r.comes;
        parts = r.done;
        stopped = λ d l. (let z = show d l in ap (λ f. f d) r.stopped ∙ sym z.1.stopped ∙ sym (ap (λ (v : View). v.stopped) z.2));
        passed = λ d l. (let z = show d l in ap (λ f. f d) r.passed ∙ sym z.1.taken ∙ sym (ap (λ (v : View). v.taken) z.2));
      }

  -- ---- a channel is stopped

  stop_next : (ks : List (ℕ × Comm)) (s : Program) (n c : ℕ) → n < count → Comes s → AllGo ((n, Stp c) ∷ ks) s → AllShow ((n, Stp c) ∷ ks) s → (t : Program) × Comes t × AllGo ks t × AllShow ks t
  stop_next ks s n c few h go show =
      let f = front (subst (λ z. Path (s.part n) z (stands n)) (by_here n (Stp c) ks) (go n few)) in
      let w = went s n few refl f.rests h in
      let st = stopping f.says f.step in (
        record w.to { part = put w.to.part n f.after; stopped = put w.to.stopped c true },
        next w.comes (stops n f.site c f.after few (subst (λ z. StepsTo z f.site (action.StopChannel c) (Stp c ∷ []) f.after) (sym w.here) st)),
        every_put (λ m z. m < count → Path z (by m ks) (stands m)) w.to.part n f.after (λ l. f.rest)
            (λ m ne l. subst (λ z. Path z (by m ks) (stands m)) (sym (w.others m ne)) (subst (λ z. Path (s.part m) z (stands m)) (by_past m n (Stp c) ks (λ q. ne (sym q))) (go m l))),
        λ d l. (let z = show d l in
            let r = one_done (c == d) rendezvous.Stp (on d ks) z.0 (shown d) z.2 in
            let q = stops_on s c d z.0 r.0 z.1 r.1 in
            (r.0, record { stopped = q.0 ∙ ap (λ f. put f c true d) (sym w.stopped); taken = q.1 ∙ ap (λ f. f d) (sym w.passed) }, r.2)),
      )

  -- ---- a message passes

  -- what the two nodes have come to, and their steps
  record Meeting (ks : List (ℕ × Comm)) (s : Program) (n m c : ℕ) (x y : Datum) : Type 0 where
    from : Program
    comes : Comes from
    stopped : from.stopped ≡ s.stopped
    passed : from.passed ≡ s.passed
    site : ℕ
    input : ℕ
    guard : Option ℕ
    begun : State
    taken : State
    ended : State
    one : StepsTo (from.part n) site (action.Offer c) (Out c x ∷ []) begun
    two : StepsTo (put from.part n begun m) input (meeting guard c (message y)) (In c y ∷ []) taken
    three : StepsTo (put (put from.part n begun) m taken n) site action.Finish (Fin c ∷ []) ended
    sender : Path ended (by n ks) (stands n)
    receiver : (m ≡ n → ⊥) → Path taken (by m ks) (stands m)
    others : (l : ℕ) → (l ≡ n → ⊥) → (l ≡ m → ⊥) → from.part l ≡ s.part l

  abbrev exchange : ℕ → ℕ → ℕ → Datum → Datum → List (ℕ × Comm) → List (ℕ × Comm)
  exchange n m c x y ks = (n, Out c x) ∷ (m, In c y) ∷ (n, Fin c) ∷ ks

  by_others : (n m c : ℕ) (x y : Datum) (ks : List (ℕ × Comm)) (l : ℕ) → (l ≡ n → ⊥) → (l ≡ m → ⊥) → by l (exchange n m c x y ks) ≡ by l ks
  by_others n m c x y ks l ne ne2 =
      by_past l n (Out c x) ((m, In c y) ∷ (n, Fin c) ∷ ks) (λ q. ne (sym q)) ∙ by_past l m (In c y) ((n, Fin c) ∷ ks) (λ q. ne2 (sym q)) ∙ by_past l n (Fin c) ks (λ q. ne (sym q))

  pass_next : (ks : List (ℕ × Comm)) (s : Program) (n m c : ℕ) (x y : Datum) → n < count → m < count → message x ≡ message y → AllGo (exchange n m c x y ks) s → AllShow (exchange n m c x y ks) s → Meeting ks s n m c x y →
      (t : Program) × Comes t × AllGo ks t × AllShow ks t
  pass_next ks s n m c x y few few2 same go show r =
      let declared : c < length p.channels = is_declared p r.comes.0 r.from acc r.comes.1 n c few (offer_on r.one) in
      let free : r.from.stopped c ≡ false = ap (λ f. f c) r.stopped ∙ (shows c declared).2.2 refl in
      let part = put (put (put r.from.part n r.begun) m r.taken) n r.ended in (
        record r.from { part = part; passed = put r.from.passed c (r.from.passed c ++ message x ∷ []) },
        next r.comes (passes c n r.site m r.input r.guard x y r.begun r.taken r.ended few few2 free r.one
            (subst (λ z. StepsTo (put r.from.part n r.begun m) r.input (meeting r.guard c z) (In c y ∷ []) r.taken) (sym same) r.two) r.three),
        every_put (λ l z. l < count → Path z (by l ks) (stands l)) (put (put r.from.part n r.begun) m r.taken) n r.ended (λ l. r.sender)
            (λ l ne. every_put (λ j z. (j ≡ n → ⊥) → j < count → Path z (by j ks) (stands j)) (put r.from.part n r.begun) m r.taken (λ ne3 few3. r.receiver ne3)
            (λ j ne2 ne3 few3. subst (λ z. Path z (by j ks) (stands j)) (sym (put-other r.from.part n r.begun j ne3 ∙ r.others j ne3 ne2))
            (subst (λ z. Path (s.part j) z (stands j)) (by_others n m c x y ks j ne3 ne2) (go j few3))) l ne),
        λ d l. (let z = shows d l in
            (z.0, record { stopped = z.2.0 ∙ ap (λ f. f d) (sym r.stopped); taken = z.2.1 ∙ ap (λ f. put f c (f c ++ message y ∷ []) d) (sym r.passed) ∙ ap (λ a. put r.from.passed c (r.from.passed c ++ a ∷ []) d) (sym same) }, z.1)),
      )
    where
      shows : (d : ℕ) → d < length p.channels → (w : View) × DoesAll w (on d ks) (shown d) × ((w.stopped ≡ s.stopped d) × (w.taken ≡ put s.passed c (s.passed c ++ message y ∷ []) d) × (c ≡ d → s.stopped c ≡ false))
      shows d l =
          let z = show d l in
          let r1 = one_done (c == d) (rendezvous.Out (message x)) (on d ((m, In c y) ∷ (n, Fin c) ∷ ks)) z.0 (shown d) z.2 in
          let r2 = one_done (c == d) (rendezvous.In (message y)) (on d ((n, Fin c) ∷ ks)) r1.0 (shown d) r1.2 in
          let r3 = one_done (c == d) rendezvous.Fin (on d ks) r2.0 (shown d) r2.2 in
          (r3.0, r3.2, passes_on s c d (message x) (message y) z.0 r1.0 r2.0 r3.0 z.1 r1.1 r2.1 r3.1)

  -- between two nodes
  meet_apart : (ks : List (ℕ × Comm)) (s : Program) (n m c : ℕ) (x y : Datum) → n < count → m < count → (m ≡ n → ⊥) → Comes s → AllGo (exchange n m c x y ks) s → Meeting ks s n m c x y
  meet_apart ks s n m c x y few few2 ne h go =
      let by_n : by n (exchange n m c x y ks) ≡ Out c x ∷ Fin c ∷ by n ks =
      by_here n (Out c x) ((m, In c y) ∷ (n, Fin c) ∷ ks) ∙ ap (λ z. Out c x ∷ z) (by_past n m (In c y) ((n, Fin c) ∷ ks) ne ∙ by_here n (Fin c) ks) in
      let by_m : by m (exchange n m c x y ks) ≡ In c y ∷ by m ks =
      by_past m n (Out c x) ((m, In c y) ∷ (n, Fin c) ∷ ks) (λ q. ne (sym q)) ∙ by_here m (In c y) ((n, Fin c) ∷ ks) ∙ ap (λ z. In c y ∷ z) (by_past m n (Fin c) ks (λ q. ne (sym q))) in
      let f = front (subst (λ z. Path (s.part n) z (stands n)) by_n (go n few)) in
      let g = front (subst (λ z. Path (s.part m) z (stands m)) by_m (go m few2)) in
      let w = went s n few refl f.rests h in
      let v = went w.to m few2 (w.others m ne) g.rests w.comes in
      let at_n : v.to.part n ≡ f.before = v.others n (λ q. ne (sym q)) ∙ w.here in
      let offer = outputs f.says f.step in
      let l : UsesLawfully f.before.rest = subst (λ (z : State). UsesLawfully z.rest) at_n (uses v.comes n few) in
      let e = early f.rest (step_uses offer l) in
      let ends = own_end (is_inserted (step_waits offer)) e.ends (step_uses offer l) in
      let got = taking g.says g.step in
      record {
        from = v.to;
        comes = v.comes;
        stopped = v.stopped ∙ w.stopped;
        passed = v.passed ∙ w.passed;
        site = f.site;
        input = g.site;
        guard = got.0;
        begun = f.after;
        taken = g.after;
        ended = e.next;
        one = subst (λ z. StepsTo z f.site (action.Offer c) (Out c x ∷ []) f.after) (sym at_n) offer;
        two = subst (λ z. StepsTo z g.site (meeting got.0 c (message y)) (In c y ∷ []) g.after) (sym (put-other v.to.part n f.after m ne ∙ v.here)) got.1;
        three = subst (λ z. StepsTo z f.site action.Finish (Fin c ∷ []) e.next) (sym (put-other (put v.to.part n f.after) m g.after n (λ q. ne (sym q)) ∙ put-same v.to.part n f.after)) ends;
        sender = e.rest;
        receiver = λ q. g.rest;
        others = λ k ne2 ne3. v.others k ne3 ∙ w.others k ne2;
      }

  -- inside a node
  meet_inside : (ks : List (ℕ × Comm)) (s : Program) (n c : ℕ) (x y : Datum) → n < count → Comes s → AllGo (exchange n n c x y ks) s → Meeting ks s n n c x y
  meet_inside ks s n c x y few h go =
      let by_n : by n (exchange n n c x y ks) ≡ Out c x ∷ In c y ∷ Fin c ∷ by n ks =
      by_here n (Out c x) ((n, In c y) ∷ (n, Fin c) ∷ ks) ∙ ap (λ z. Out c x ∷ z) (by_here n (In c y) ((n, Fin c) ∷ ks) ∙ ap (λ z. In c y ∷ z) (by_here n (Fin c) ks)) in
      let f = front (subst (λ z. Path (s.part n) z (stands n)) by_n (go n few)) in
      let w = went s n few refl f.rests h in
      let l : UsesLawfully f.before.rest = subst (λ (z : State). UsesLawfully z.rest) w.here (uses w.comes n few) in
      let a = adjacent (outputs f.says f.step) f.rest l in
      let v = went w.to n few w.here a.rests w.comes in
      let k : UsesLawfully a.before.rest = subst (λ (z : State). UsesLawfully z.rest) v.here (uses v.comes n few) in
      let got = taking a.says a.step in
      let u = step_uses got.1 (step_uses a.offer k) in
      let e = early a.rest u in
      let there = subst (λ ws. Contains ws (output f.site c)) (sym (keeps got.0 got.1)) (is_inserted (step_waits a.offer)) in
      let ends = own_end there e.ends u in
      record {
        from = v.to;
        comes = v.comes;
        stopped = v.stopped ∙ w.stopped;
        passed = v.passed ∙ w.passed;
        site = f.site;
        input = a.site;
        guard = got.0;
        begun = a.begun;
        taken = a.after;
        ended = e.next;
        one = subst (λ z. StepsTo z f.site (action.Offer c) (Out c x ∷ []) a.begun) (sym v.here) a.offer;
        two = subst (λ z. StepsTo z a.site (meeting got.0 c (message y)) (In c y ∷ []) a.after) (sym (put-same v.to.part n a.begun)) got.1;
        three = subst (λ z. StepsTo z f.site action.Finish (Fin c ∷ []) e.next) (sym (put-same (put v.to.part n a.begun) n a.after)) ends;
        sender = e.rest;
        receiver = λ q. absurd (q refl);
        others = λ j ne2 ne3. v.others j ne2 ∙ w.others j ne2;
      }
    where
      keeps : {b t : State} {j : ℕ} (o : Option ℕ) → StepsTo b j (meeting o c (message y)) (In c y ∷ []) t → waiting t.rest ≡ waiting b.rest
      keeps None st = step_waits st
      keeps (Some g) st = step_waits st

  -- ---- the list, one communication at a time

  abbrev NoOthers : List (ℕ × Comm) → Type 0
  NoOthers ks = (m : ℕ) → count ≤ m → by m ks ≡ []

  is_node : (n : ℕ) (k : Comm) (ks : List (ℕ × Comm)) → NoOthers ((n, k) ∷ ks) → n < count
  is_node n k ks none = elim (cases_lt n count) [ inl l ↦ l | inr past ↦ absurd (none_here n k ks (none n past)) ]

  tail : (n : ℕ) (k : Comm) (ks : List (ℕ × Comm)) → NoOthers ((n, k) ∷ ks) → NoOthers ks
  tail n k ks none m past = none_tail m n k ks (none m past)

  schedule : (hs : List Atomic) (s : Program) → Comes s → AreFaithful hs → NoOthers (all_comms hs) → AllGo (all_comms hs) s → AllShow (all_comms hs) s → Scheduled
  schedule [] s h faithful none go show = at_end s h go show
  schedule (Stop n c ∷ hs) s h faithful none go show =
      let r = stop_next (all_comms hs) s n c (is_node n (Stp c) (all_comms hs) none) h go show in
      schedule hs r.0 r.1 faithful.1 (tail n (Stp c) (all_comms hs) none) r.2 r.3
  schedule (Exchange n m c x y ∷ hs) s h faithful none go show =
      let ks = all_comms hs in
      let few = is_node n (Out c x) ((m, In c y) ∷ (n, Fin c) ∷ ks) none in
      let none2 = tail n (Out c x) ((m, In c y) ∷ (n, Fin c) ∷ ks) none in
      let few2 = is_node m (In c y) ((n, Fin c) ∷ ks) none2 in
      let none3 = tail n (Fin c) ks (tail m (In c y) ((n, Fin c) ∷ ks) none2) in
      let r = pass_next ks s n m c x y few few2 faithful.0 go show (meets few few2 (cases_eq m n)) in
      schedule hs r.0 r.1 faithful.1 none3 r.2 r.3
    where
      meets : n < count → m < count → (m ≡ n) ⊎ (m ≡ n → ⊥) → Meeting (all_comms hs) s n m c x y
      meets few few2 (inr ne) = meet_apart (all_comms hs) s n m c x y few few2 ne h go
      meets few few2 (inl e) = subst (λ z. Meeting (all_comms hs) s n z c x y) (sym e) (meet_inside (all_comms hs) s n c x y few h (subst (λ z. AllGo (exchange n z c x y (all_comms hs)) s) e go))

  pub scheduled : (hs : List Atomic) → ComesTo p hs stands shown → IsScheduled p stands shown
  scheduled hs h =
      let r = schedule hs (program_of p) ([], no_more) h.faithful h.by_no_other (λ n few. as_path (h.made n few)) (λ c few. (nothing_yet, record { stopped = refl; taken = refl }, h.on_channel c few)) in
      record { moves = r.comes.0; state = r.to; reaches = r.comes.1; parts = r.parts; stopped = r.stopped; passed = r.passed }

pub lists_are_schedules : ListsAreSchedules
lists_are_schedules p hs stands shown acc h = scheduled p acc stands shown hs h

-- ---- where nothing goes on, no move can be made

took_own : {s : State} {t : State} {j : ℕ} {ks : List Comm} (k : Option ℕ) (c : ℕ) (m : List ℕ) → StepsTo s j (meeting k c m) ks t → Contains (own s.rest s.store) (partner j k c)
took_own None c m st = want_own st
took_own (Some g) c m st = choose_own st

takes_from : (k : Option ℕ) (j c : ℕ) → TakesFrom c (partner j k c)
takes_from None j c = refl
takes_from (Some g) j c = refl

-- an input that can begin after an output began can begin before it
before_offer : {s t u : State} {i j c : ℕ} {x y : Datum} (k : Option ℕ) (m : List ℕ) → Offering s i c x t → StepsTo t j (meeting k c m) (In c y ∷ []) u → UsesLawfully s.rest → Contains (own s.rest s.store) (partner j k c)
before_offer {s} {u = u} {j = j} {c = c} {y = y} k m st st2 l = let q = delay (after_output (λ e. cc)) st st2 (lawful s.rest l) in took_own {s = s} {t = state q.rest q.store} k c m q.first

pub is_quiet : (p : Plan) → IsAccepted p → (stands : ℕ → State) (shown : ℕ → View) (r : IsScheduled p stands shown) → NothingGoesOn (length p.nodes) stands (λ c. (shown c).stopped) → IsQuiet p r.state
is_quiet p acc stands shown r rest = no_move
  where
    offered : (n i c : ℕ) (x : Datum) (a : State) → n < length p.nodes → Offering (r.state.part n) i c x a → Contains (own (stands n).rest (stands n).store) (move.Offer i c)
    offered n i c x a few st = subst (λ (z : State). Contains (own z.rest z.store) (move.Offer i c)) (r.parts n few) (offer_own st)

    taken : (n i m j c : ℕ) (k : Option ℕ) (x y : Datum) (a b : State) → n < length p.nodes → m < length p.nodes → Offering (r.state.part n) i c x a → StepsTo (put r.state.part n a m) j (meeting k c (message x)) (In c y ∷ []) b →
        Contains (own (stands m).rest (stands m).store) (partner j k c)
    taken n i m j c k x y a b few few2 st st2 = subst (λ (z : State). Contains (own z.rest z.store) (partner j k c)) (r.parts m few2) (elim (cases_eq m n) [
      | inl e ↦ subst (λ z. Contains (own (r.state.part z).rest (r.state.part z).store) (partner j k c)) (sym e)
          (before_offer k (message x) st (subst (λ z. StepsTo z j (meeting k c (message x)) (In c y ∷ []) b) (ap (put r.state.part n a) e ∙ put-same r.state.part n a) st2) ((reached p r.moves r.state acc r.reaches).uses n few))
      | inr ne ↦ took_own k c (message x) (subst (λ z. StepsTo z j (meeting k c (message x)) (In c y ∷ []) b) (put-other r.state.part n a m ne) st2)
    ])

    no_move : IsQuiet p r.state
    no_move m t (goes n i u few st) = rest.alone n (move.Quiet i) few (subst (λ (z : State). Contains (own z.rest z.store) (move.Quiet i)) (r.parts n few) (quiet_own st)) tt
    no_move m t (stops n i c u few st) = rest.alone n (move.Stopch i c) few (subst (λ (z : State). Contains (own z.rest z.store) (move.Stopch i c)) (r.parts n few) (stop_own st)) tt
    no_move mv t (passes c n i m j k x y a b d few few2 free one two three) =
        let declared = is_declared p r.moves r.state acc r.reaches n c few (offer_on one) in
        let is_stopped = rest.met n m i c (partner j k c) few few2 (offered n i c x a few one) (taken n i m j c k x y a b few few2 one two) (takes_from k j c) in
        clash is_stopped (sym (r.stopped c declared) ∙ free)

pub never_by_lists : (p : Plan) → IsAccepted p → program.NeverStuck p → NeverStuck p
never_by_lists p acc never hs h = never r.moves r.state r.reaches (is_quiet p acc h.stands h.shown r h.rest, not_ended)
  where
    r : IsScheduled p h.stands h.shown
    r = scheduled p acc h.stands h.shown hs h.comes

    not_ended : HasEnded p r.state → ⊥
    not_ended ended = let w = h.waits in w.2 (ap (λ (z : State). z.rest) (sym (r.parts w.0 w.1)) ∙ ended w.0 w.1)
