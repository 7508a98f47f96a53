-- What a schedule of moves leads to, the processes come to by a list of communications: a move that passes a message is an exchange.
use Rattle.std.proofs.Common.{◌≡◌, ℕ, suc, ◌≤◌, ◌<◌, Bool, true, false, ◌==◌, List, [], ◌∷◌, ◌++◌, length, slice_get, Option, Some, None, inl, inr, ◌⊎◌, refl, sym, ap, subst, ◌∙◌, arith, append-nil, length-append, eq-eqb, ne_eqb, if◌then◌else◌}
use Rattle.std.proofs.lemmas.Bool.{cases_eq}
use Rattle.vc_accepted.proofs.Processes.{kind_on, begins_good}
use Rattle.vc_accepted.specs.Begin.{node_plan, begin_of}
use Rattle.vc_accepted.specs.OneList.{by, on}
use Rattle.vc_free.proofs.Begun.{Path, still, quiet, tells, tells_out, tells_end, tells_want, tells_choose, tells_stop, append, at_once}
use Rattle.vc_free.proofs.NodePaths.{by_append}
use Rattle.vc_free.proofs.Orders.{all_more, on_last}
use Rattle.vc_free.proofs.Schedules.{by_here, by_past}
use Rattle.vc_free.specs.NeverStuck.{ComesTo, SchedulesAreLists, shown_by}
use Rattle.vc_machine.proofs.Basics.{put-same, put-other}
use Rattle.vc_machine.proofs.Views.{slice_get_end}
use Rattle.vc_machine.specs.Rendezvous as rendezvous
use Rattle.vc_machine.specs.Rendezvous.{View, DoesAll, part, nothing_yet}
use Rattle.vc_network.proofs.Main.{does_append}
use Rattle.vc_occam.proofs.KindPreservation.{value_as, carries, Sound, StoreHasKinds, doing_tells, doing_stays}
use Rattle.vc_occam.specs.SiteActions as action
use Rattle.vc_occam.specs.States.{State, StepsTo, Does, meeting}
use Rattle.vc_occam.specs.Traces.{Comm, Out, Fin, In, Stp}
use Rattle.vc_packets.specs.Functions.{put}
use Rattle.vc_placement.specs.Linearization.{Atomic, Exchange, Stop, comms_of, all_comms, AreFaithful}
use Rattle.vc_plan.specs.Accepted.{IsAccepted}
use Rattle.vc_plan.specs.Limits.{kinds_of}
use Rattle.vc_plan.specs.declared.plan.Plan.{Plan}
use Rattle.vc_process.specs.Messages.{message}
use Rattle.vc_process.specs.ProcessStep.{Offers, Wants, Chooses, Stops, Rests, Finishes}
use Rattle.vc_process.specs.declared.datum.Datum.{Datum}
use Rattle.vc_program.specs.Program.{Program, program_of, Move, Makes, goes, stops, passes, MakesAll, no_more, one_more, Reaches}

out_value : (c d : ℕ) (x y : Datum) → Out c x ∷ [] ≡ Out d y ∷ [] → x ≡ y
out_value c d x y e = cc

in_value : (c d : ℕ) (x y : Datum) → In c x ∷ [] ≡ In d y ∷ [] → x ≡ y
in_value c d x y e = cc

faithful_more : (hs gs : List Atomic) → AreFaithful hs → AreFaithful gs → AreFaithful (hs ++ gs)
faithful_more [] gs h k = k
faithful_more (g ∷ hs) gs h k = (h.0, faithful_more hs gs h.1 k)

module _ (p : Plan) where
  abbrev count : ℕ
  count = length p.nodes

  -- what remains of node n's process fits the kinds of its variables and channels
  Fits : ℕ → State → Type 0
  Fits n z = Sound (kind_on p) (kinds_of (node_plan p n).vars) z.rest × StoreHasKinds (kind_on p) (kinds_of (node_plan p n).vars) z.store

  record Listed (s : Program) (hs : List Atomic) : Type 0 where
    paths : (n : ℕ) → n < count → Path (begin_of p n).state (by n (all_comms hs)) (s.part n)
    fits : (n : ℕ) → n < count → Fits n (s.part n)
    nobody : (n : ℕ) → count ≤ n → by n (all_comms hs) ≡ []
    faithful : AreFaithful hs
    shows : (c : ℕ) → DoesAll nothing_yet (on c (all_comms hs)) (shown_by s c)

  -- one communication more
  by_last : (n : ℕ) (hs : List Atomic) (h : Atomic) → by n (all_comms (hs ++ h ∷ [])) ≡ by n (all_comms hs) ++ by n (all_comms (h ∷ []))
  by_last n hs h = ap (by n) (all_more hs (h ∷ [])) ∙ by_append n (all_comms hs) (all_comms (h ∷ []))

  path_last : {s : State} (n : ℕ) (hs : List Atomic) (h : Atomic) (ks : List Comm) {z u : State} → by n (all_comms (h ∷ [])) ≡ ks → Path s (by n (all_comms hs)) z → Path z ks u → Path s (by n (all_comms (hs ++ h ∷ []))) u
  path_last {s} n hs h ks {z = v} {u = u} e g k = subst (λ z. Path s z u) (sym (by_last n hs h)) (append g (subst (λ z. Path v z u) (sym e) k))

  shows_last : (s t : Program) (hs : List Atomic) (h : Atomic) (c : ℕ) → DoesAll nothing_yet (on c (all_comms hs)) (shown_by s c) → DoesAll (shown_by s c) (on c (comms_of h)) (shown_by t c) → DoesAll nothing_yet (on c (all_comms (hs ++ h ∷ []))) (shown_by t c)
  shows_last s t hs h c g k = subst (λ z. DoesAll nothing_yet z (shown_by t c)) (sym (on_last c hs h)) (does_append nothing_yet (shown_by s c) (shown_by t c) (on c (all_comms hs)) (on c (comms_of h)) g k)

  -- two if the part is node n's, or else
  either : (n l : ℕ) {X : Type 0} → (l ≡ n → X) → ((l ≡ n → ⊥) → X) → X
  either n l f g = elim (cases_eq l n) [ inl e ↦ f e | inr ne ↦ g ne ]

  by_goes : (s : Program) (hs : List Atomic) (n i : ℕ) (t : State) → n < count → StepsTo (s.part n) i action.Quiet [] t → Listed s hs → Listed (record s { part = put s.part n t }) hs
  unfolding Fits
  by_goes s hs n i t few st h =
      let f = h.fits n few in
      let k = doing_stays (kind_on p) (kinds_of (node_plan p n).vars) (s.part n) t (Rests i) [] (refl, st) f in
      record {
        paths = λ l less. either n l
            (λ e. subst (λ z. Path (begin_of p z).state (by z (all_comms hs)) (put s.part n t z)) (sym e) (subst (Path (begin_of p n).state (by n (all_comms hs))) (sym (put-same s.part n t))
            (subst (λ z. Path (begin_of p n).state z t) (append-nil (by n (all_comms hs))) (append (h.paths n few) (quiet st still)))))
            (λ ne. subst (Path (begin_of p l).state (by l (all_comms hs))) (sym (put-other s.part n t l ne)) (h.paths l less));
        fits = λ l less. either n l (λ e. subst (λ z. Fits z (put s.part n t z)) (sym e) (subst (Fits n) (sym (put-same s.part n t)) k)) (λ ne. subst (Fits l) (sym (put-other s.part n t l ne)) (h.fits l less));
        nobody = h.nobody;
        faithful = h.faithful;
        shows = h.shows;
      }

  by_stops : (s : Program) (hs : List Atomic) (n i c : ℕ) (t : State) → n < count → StepsTo (s.part n) i (action.StopChannel c) (Stp c ∷ []) t → Listed s hs → Listed (record s { part = put s.part n t; stopped = put s.stopped c true }) (hs ++ Stop n c ∷ [])
  unfolding Fits
  by_stops s hs n i c t few st h =
      let new : Program = record s { part = put s.part n t; stopped = put s.stopped c true } in
      let f = h.fits n few in
      let k = doing_stays (kind_on p) (kinds_of (node_plan p n).vars) (s.part n) t (Stops i c) (Stp c ∷ []) (refl, st) f in
      record {
        paths = λ l less. either n l
            (λ e. subst (λ z. Path (begin_of p z).state (by z (all_comms (hs ++ Stop n c ∷ []))) (put s.part n t z)) (sym e) (subst (Path (begin_of p n).state (by n (all_comms (hs ++ Stop n c ∷ [])))) (sym (put-same s.part n t))
            (path_last n hs (Stop n c) (Stp c ∷ []) (by_here n (Stp c) []) (h.paths n few) (tells tells_stop st still))))
            (λ ne. subst (Path (begin_of p l).state (by l (all_comms (hs ++ Stop n c ∷ [])))) (sym (put-other s.part n t l ne)) (path_last l hs (Stop n c) [] (by_past l n (Stp c) [] (λ q. ne (sym q))) (h.paths l less) still));
        fits = λ l less. either n l (λ e. subst (λ z. Fits z (put s.part n t z)) (sym e) (subst (Fits n) (sym (put-same s.part n t)) k)) (λ ne. subst (Fits l) (sym (put-other s.part n t l ne)) (h.fits l less));
        nobody = λ l past. by_last l hs (Stop n c) ∙ ap (λ z. z ++ by l (all_comms (Stop n c ∷ []))) (h.nobody l past) ∙ by_past l n (Stp c) [] (λ q. omega arith);
        faithful = faithful_more hs (Stop n c ∷ []) h.faithful (tt, tt);
        shows = λ d. shows_last s new hs (Stop n c) d (h.shows d) (shown d);
      }
    where
      shown : (d : ℕ) → DoesAll (shown_by s d) (on d (comms_of (Stop n c))) (shown_by (record s { part = put s.part n t; stopped = put s.stopped c true }) d)
      shown d = elim (cases_eq c d) [
        | inl e ↦ subst (λ b. DoesAll (shown_by s d) (if b then rendezvous.Stp ∷ [] else []) (record (shown_by s d) { stopped = put s.stopped c true d })) (sym (eq-eqb c d e))
            (record (shown_by s d) { stopped = true }, refl, ap (λ z. record (shown_by s d) { stopped = z }) (subst (λ z. put s.stopped c true z ≡ true) e (put-same s.stopped c true)))
        | inr ne ↦ subst (λ b. DoesAll (shown_by s d) (if b then rendezvous.Stp ∷ [] else []) (record (shown_by s d) { stopped = put s.stopped c true d })) (sym (ne_eqb c d ne))
            (ap (λ z. record (shown_by s d) { stopped = z }) (put-other s.stopped c true d (λ q. ne (sym q))))
      ]

  -- the message that is got is the one that is sent
  typed : (n m i j c : ℕ) (k : Option ℕ) (x y : Datum) (z a w b : State) → Fits n z → StepsTo z i (action.Offer c) (Out c x ∷ []) a → Fits m w → StepsTo w j (meeting k c (message x)) (In c y ∷ []) b → message x ≡ message y
  unfolding Fits
  typed n m i j c k x y z a w b f st g st2 =
      let t = doing_tells (kind_on p) (kinds_of (node_plan p n).vars) z a (Offers i c (message x)) (Out c x ∷ []) (x, refl, refl, st) f.0 f.1 in
      let same : x ≡ t.0 = out_value c c x t.0 t.1 in
      let got : y ≡ value_as (kind_on p c) (message x) = in_value c c y (value_as (kind_on p c) (message x)) (by_guard k st2) in
      let one : message (value_as (kind_on p c) (message x)) ≡ message x = subst (λ v. message (value_as (kind_on p c) (message v)) ≡ message v) (sym same) (carries (kind_on p c) t.0 t.3) in
      sym (ap message got ∙ one)
    where
      by_guard : (k : Option ℕ) → StepsTo w j (meeting k c (message x)) (In c y ∷ []) b → In c y ∷ [] ≡ In c (value_as (kind_on p c) (message x)) ∷ []
      by_guard None q = doing_tells (kind_on p) (kinds_of (node_plan p m).vars) w b (Wants j c (Some (message x))) (In c y ∷ []) (y, refl, q) g.0 g.1
      by_guard (Some h) q = doing_tells (kind_on p) (kinds_of (node_plan p m).vars) w b (Chooses j h c (Some (message x))) (In c y ∷ []) (y, refl, q) g.0 g.1

  fits_offer : (n i c : ℕ) (x : Datum) (z a : State) → Fits n z → StepsTo z i (action.Offer c) (Out c x ∷ []) a → Fits n a
  unfolding Fits
  fits_offer n i c x z a f st = doing_stays (kind_on p) (kinds_of (node_plan p n).vars) z a (Offers i c (message x)) (Out c x ∷ []) (x, refl, refl, st) f

  fits_input : (m j c : ℕ) (k : Option ℕ) (l : List ℕ) (y : Datum) (w b : State) → Fits m w → StepsTo w j (meeting k c l) (In c y ∷ []) b → Fits m b
  unfolding Fits
  fits_input m j c None l y w b g st = doing_stays (kind_on p) (kinds_of (node_plan p m).vars) w b (Wants j c (Some l)) (In c y ∷ []) (y, refl, st) g
  fits_input m j c (Some h) l y w b g st = doing_stays (kind_on p) (kinds_of (node_plan p m).vars) w b (Chooses j h c (Some l)) (In c y ∷ []) (y, refl, st) g

  fits_end : (n i c : ℕ) (z d : State) → Fits n z → StepsTo z i action.Finish (Fin c ∷ []) d → Fits n d
  unfolding Fits
  fits_end n i c z d f st = doing_stays (kind_on p) (kinds_of (node_plan p n).vars) z d (Finishes c) (Fin c ∷ []) (i, refl, st) f

  takes : (k : Option ℕ) (l : List ℕ) {j c : ℕ} {y : Datum} {w b u : State} {ks : List Comm} → StepsTo w j (meeting k c l) (In c y ∷ []) b → Path b ks u → Path w (In c y ∷ ks) u
  takes None l st h = tells tells_want st h
  takes (Some g) l st h = tells tells_choose st h

  -- one part changes
  abbrev All : (ℕ → State) → (ℕ → State → Type 0) → Type 0
  All part P = (l : ℕ) → l < count → P l (part l)

  all_put : (part : ℕ → State) (P : ℕ → State → Type 0) (n : ℕ) (z : State) → P n z → ((l : ℕ) → l < count → (l ≡ n → ⊥) → P l (part l)) → All (put part n z) P
  all_put part P n z here rest l less = either n l (λ e. subst (λ j. P j (put part n z j)) (sym e) (subst (P n) (sym (put-same part n z)) here)) (λ ne. subst (P l) (sym (put-other part n z l ne)) (rest l less ne))

  module _ (s : Program) (hs : List Atomic) (h : Listed s hs) (c n i m j : ℕ) (k : Option ℕ) (x y : Datum) (a b d : State) (few : n < count) (few2 : m < count) (free : s.stopped c ≡ false)
      (one : StepsTo (s.part n) i (action.Offer c) (Out c x ∷ []) a) (two : StepsTo (put s.part n a m) j (meeting k c (message x)) (In c y ∷ []) b) (three : StepsTo (put (put s.part n a) m b n) i action.Finish (Fin c ∷ []) d) where
    abbrev gs : List Atomic
    gs = hs ++ Exchange n m c x y ∷ []

    abbrev new : Program
    new = record s { part = put (put (put s.part n a) m b) n d; passed = put s.passed c (s.passed c ++ message x ∷ []) }

    begun : All (put s.part n a) Fits
    begun = all_put s.part Fits n a (fits_offer n i c x (s.part n) a (h.fits n few) one) (λ l less ne. h.fits l less)

    taken : All (put (put s.part n a) m b) Fits
    taken = all_put (put s.part n a) Fits m b (fits_input m j c k (message x) y (put s.part n a m) b (begun m few2) two) (λ l less ne. begun l less)

    ended : All (put (put (put s.part n a) m b) n d) Fits
    ended = all_put (put (put s.part n a) m b) Fits n d (fits_end n i c (put (put s.part n a) m b n) d (taken n few) three) (λ l less ne. taken l less)

    carried : message x ≡ message y
    carried = typed n m i j c k x y (s.part n) a (put s.part n a m) b (h.fits n few) one (begun m few2) two

    goes_to : ℕ → State → Type 0
    goes_to l z = Path (begin_of p l).state (by l (all_comms gs)) z

    paths : All (put (put (put s.part n a) m b) n d) goes_to
    unfolding goes_to
    paths = all_put (put (put s.part n a) m b) goes_to n d (sender (cases_eq m n)) (λ l less ne. all_put (put s.part n a) (λ l z. (l ≡ n → ⊥) → goes_to l z) m b (λ ne2. receiver ne2) (λ l less ne2 ne3. subst (goes_to l) (sym (put-other s.part n a l ne3)) (bystander l less ne3 ne2)) l less ne)
      where
        sender : (m ≡ n) ⊎ (m ≡ n → ⊥) → Path (begin_of p n).state (by n (all_comms gs)) d
        sender (inl e) =
            let two2 = subst (λ z. StepsTo z j (meeting k c (message x)) (In c y ∷ []) b) (ap (put s.part n a) e ∙ put-same s.part n a) two in
            let three2 = subst (λ z. StepsTo z i action.Finish (Fin c ∷ []) d) (subst (λ z. put (put s.part n a) z b n ≡ b) (sym e) (put-same (put s.part n a) n b)) three in
            let list : by n (all_comms (Exchange n m c x y ∷ [])) ≡ Out c x ∷ In c y ∷ Fin c ∷ [] =
            subst (λ z. by n (all_comms (Exchange n z c x y ∷ [])) ≡ Out c x ∷ In c y ∷ Fin c ∷ []) (sym e) (by_here n (Out c x) ((n, In c y) ∷ (n, Fin c) ∷ []) ∙ ap (λ z. Out c x ∷ z) (by_here n (In c y) ((n, Fin c) ∷ []) ∙ ap (λ z. In c y ∷ z) (by_here n (Fin c) []))) in
            path_last n hs (Exchange n m c x y) (Out c x ∷ In c y ∷ Fin c ∷ []) list (h.paths n few) (tells tells_out one (takes k (message x) two2 (tells tells_end three2 still)))
        sender (inr ne) =
            let three2 = subst (λ z. StepsTo z i action.Finish (Fin c ∷ []) d) (put-other (put s.part n a) m b n (λ q. ne (sym q)) ∙ put-same s.part n a) three in
            let list : by n (all_comms (Exchange n m c x y ∷ [])) ≡ Out c x ∷ Fin c ∷ [] = by_here n (Out c x) ((m, In c y) ∷ (n, Fin c) ∷ []) ∙ ap (λ z. Out c x ∷ z) (by_past n m (In c y) ((n, Fin c) ∷ []) ne ∙ by_here n (Fin c) []) in
            path_last n hs (Exchange n m c x y) (Out c x ∷ Fin c ∷ []) list (h.paths n few) (tells tells_out one (tells tells_end three2 still))

        receiver : (m ≡ n → ⊥) → Path (begin_of p m).state (by m (all_comms gs)) b
        receiver ne =
            let two2 = subst (λ z. StepsTo z j (meeting k c (message x)) (In c y ∷ []) b) (put-other s.part n a m ne) two in
            let list : by m (all_comms (Exchange n m c x y ∷ [])) ≡ In c y ∷ [] = by_past m n (Out c x) ((m, In c y) ∷ (n, Fin c) ∷ []) (λ q. ne (sym q)) ∙ by_here m (In c y) ((n, Fin c) ∷ []) ∙ ap (λ z. In c y ∷ z) (by_past m n (Fin c) [] (λ q. ne (sym q))) in
            path_last m hs (Exchange n m c x y) (In c y ∷ []) list (h.paths m few2) (takes k (message x) two2 still)

        bystander : (l : ℕ) → l < count → (l ≡ n → ⊥) → (l ≡ m → ⊥) → Path (begin_of p l).state (by l (all_comms gs)) (s.part l)
        bystander l less ne ne2 =
            let list : by l (all_comms (Exchange n m c x y ∷ [])) ≡ [] = by_past l n (Out c x) ((m, In c y) ∷ (n, Fin c) ∷ []) (λ q. ne (sym q)) ∙ by_past l m (In c y) ((n, Fin c) ∷ []) (λ q. ne2 (sym q)) ∙ by_past l n (Fin c) [] (λ q. ne (sym q)) in
            path_last l hs (Exchange n m c x y) [] list (h.paths l less) still

    shown : (e : ℕ) → DoesAll (shown_by s e) (on e (comms_of (Exchange n m c x y))) (shown_by new e)
    shown e = elim (cases_eq c e) [
      | inl q ↦ subst (λ z. DoesAll (shown_by s z) (on z (comms_of (Exchange n m c x y))) (shown_by new z)) q
          (subst (λ t. DoesAll (shown_by s c) (if t then rendezvous.Out (message x) ∷ (if t then rendezvous.In (message y) ∷ (if t then rendezvous.Fin ∷ [] else []) else (if t then rendezvous.Fin ∷ [] else [])) else (if t then rendezvous.In (message y) ∷ (if t then rendezvous.Fin ∷ [] else []) else (if t then rendezvous.Fin ∷ [] else []))) (shown_by new c)) (sym (eq-eqb c c refl)) here)
      | inr ne ↦ subst (λ t. DoesAll (shown_by s e) (if t then rendezvous.Out (message x) ∷ (if t then rendezvous.In (message y) ∷ (if t then rendezvous.Fin ∷ [] else []) else (if t then rendezvous.Fin ∷ [] else [])) else (if t then rendezvous.In (message y) ∷ (if t then rendezvous.Fin ∷ [] else []) else (if t then rendezvous.Fin ∷ [] else []))) (shown_by new e)) (sym (ne_eqb c e ne))
          (let z = put-other s.passed c (s.passed c ++ message x ∷ []) e (λ q. ne (sym q)) in ap (λ l. record { offered = l; taken = l; finished = length l; stopped = s.stopped e }) z)
    ]
      where
        here : DoesAll (shown_by s c) (rendezvous.Out (message x) ∷ rendezvous.In (message y) ∷ rendezvous.Fin ∷ []) (shown_by new c)
        here =
            let v1 : View = record (shown_by s c) { offered = s.passed c ++ message x ∷ [] } in
            let v2 : View = record v1 { taken = s.passed c ++ message y ∷ [] } in
            let v3 : View = record v2 { finished = suc (length (s.passed c)) } in
            let more = length-append (s.passed c) (message y ∷ []) in
            let long : length (s.passed c ++ message x ∷ []) ≡ suc (length (s.passed c)) = (let q = length-append (s.passed c) (message x ∷ []) in omega arith) in
            let z = put-same s.passed c (s.passed c ++ message x ∷ []) in
            let last : shown_by new c ≡ v3 = ap (λ l. record { offered = l; taken = l; finished = length l; stopped = s.stopped c }) z
            ∙ ap (λ f. record { offered = s.passed c ++ message x ∷ []; taken = s.passed c ++ message x ∷ []; finished = f; stopped = s.stopped c }) long
            ∙ ap (λ w. record { offered = s.passed c ++ message x ∷ []; taken = s.passed c ++ w ∷ []; finished = suc (length (s.passed c)); stopped = s.stopped c }) carried in
            (v1, (refl, refl), (v2, (subst (λ w. slice_get (s.passed c ++ w ∷ []) (length (s.passed c)) ≡ Some (message y)) (sym carried) (slice_get_end (s.passed c) (message y) []), free, refl), (v3, ((omega arith), refl), last)))

    by_passes : Listed new gs
    unfolding goes_to
    by_passes = record {
      paths = paths;
      fits = ended;
      nobody = λ l past. by_last l hs (Exchange n m c x y) ∙ ap (λ z. z ++ by l (all_comms (Exchange n m c x y ∷ []))) (h.nobody l past) ∙ by_past l n (Out c x) ((m, In c y) ∷ (n, Fin c) ∷ []) (λ q. omega arith) ∙ by_past l m (In c y) ((n, Fin c) ∷ []) (λ q. omega arith) ∙ by_past l n (Fin c) [] (λ q. omega arith);
      faithful = faithful_more hs (Exchange n m c x y ∷ []) h.faithful (carried, tt);
      shows = λ e. shows_last s new hs (Exchange n m c x y) e (h.shows e) (shown e);
    }

  by_moves : {s t : Program} {ms : List Move} (hs : List Atomic) → MakesAll p s ms t → Listed s hs → (gs : List Atomic) × Listed t gs
  by_moves hs no_more h = (hs, h)
  by_moves {s} hs (one_more (goes n i t few st) rest) h = by_moves hs rest (by_goes s hs n i t few st h)
  by_moves {s} hs (one_more (stops n i c t few st) rest) h = by_moves (hs ++ Stop n c ∷ []) rest (by_stops s hs n i c t few st h)
  by_moves {s} hs (one_more (passes c n i m j k x y a b d few few2 free one two three) rest) h = by_moves (hs ++ Exchange n m c x y ∷ []) rest (by_passes s hs h c n i m j k x y a b d few few2 free one two three)

  first : IsAccepted p → Listed (program_of p) []
  unfolding Fits
  first acc = record {
    paths = λ n few. still;
    fits = λ n few. (let g = begins_good p acc n few in (g.sound, g.store));
    nobody = λ n past. refl;
    faithful = tt;
    shows = λ c. refl;
  }

pub schedules_are_lists : SchedulesAreLists
schedules_are_lists p ms s acc h =
    let r = by_moves p [] h (first p acc) in
    (r.0, record { made = λ n few. at_once (r.1.paths n few); by_no_other = r.1.nobody; faithful = r.1.faithful; on_channel = λ c less. r.1.shows c })
