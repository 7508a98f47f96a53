-- What meets inside the node: which meetings are listed, and what comes of one.
use Rattle.std.proofs.Common.{◌≡◌, ℕ, Bool, true, false, refl, ap, sym, ◌∙◌, subst, List, [], ◌∷◌, ◌++◌, Option, Some, None, ◌⊎◌, inl, inr, arith}
use Rattle.std.proofs.lemmas.Bool.Decides.{nat_tests}
use Rattle.std.proofs.lemmas.List.Elements.{Contains-append_left, Contains-append_right, Contains-append_cases}
use Rattle.std.specs.Prelude.{◌==◌, if◌then◌else◌, not}
use Rattle.std.specs.List.{Contains}
use Rattle.vc_occam.specs.declared.answer.Answer.{Answer}
use Rattle.vc_process.specs.declared.datum.Datum.{Datum}
use Rattle.vc_occam.specs.SiteActions.{SiteAction}
use Rattle.vc_occam.specs.SiteActions as action
use Rattle.vc_occam.specs.declared.moves.Move.{Move}
use Rattle.vc_occam.specs.declared.moves.Move.TheVariants.{Offer, Want, Choose, Stopch, Inner, Quiet}
use Rattle.vc_occam.specs.First.{own, first_moves, joined, meetings}
use Rattle.vc_occam.specs.Private.Frames.{Able, Did, is_outside}
use Rattle.vc_occam.specs.Private.SiteSteps.{one}
use Rattle.vc_occam.specs.InUse.{UsesLawfully}
use Rattle.vc_process.specs.Messages.{message}
use Rattle.vc_occam.specs.Private.MoveSites.{CanBegin, CanMeet, HasMet, at, action_for, partner}
use Rattle.vc_occam.specs.MoveSites.{site_of}
use Rattle.vc_occam.specs.Remains.{Rest, Step}
use Rattle.vc_occam.specs.Sites.{OwnSites}
use Rattle.vc_occam.specs.States.{State, Acts, Does, FitsMove, doing, sent_by, bytes_or_none, came, carried, meeting, output_at, output, waiting}
use Rattle.vc_process.specs.ProcessStep.{Meets}
use Rattle.vc_occam.specs.Traces.{Comm, Out, Fin, In}
use Rattle.vc_process.specs.Usage.{Set}
use Rattle.vc_process.specs.Values.{Store}
use Rattle.vc_occam.proofs.MoveActs.{one_waits, says, waits_site}
use Rattle.vc_occam.proofs.Doers.{sent_value}
use Rattle.vc_occam.proofs.Preservation.{doing_is_traced, doing_keeps_use}
use Rattle.vc_process.proofs.Lists.{at_front, behind, front_or, none, only}
use Rattle.vc_occam.proofs.Insertion.{is_inserted}
use Rattle.vc_occam.proofs.Made.{able, began, met, no_meeting, taking_partner}
use Rattle.vc_occam.proofs.Sites.{doing_keeps, step_keeps}
use Rattle.vc_occam.proofs.StepWaits.{step_waits}

-- a move that is listed: one that needs no channel inside, or a meeting on one that is
abbrev pub Joined : Set → List Move → List Move → Move → Type 0
Joined inside all ms (Inner i j k c) = ((inside c ≡ true) × Contains ms (Offer i c) × Contains all (partner j k c)) ⊎ Contains ms (Inner i j k c)
Joined inside all ms m = (is_outside inside m ≡ true) × Contains ms m

module _ (inside : Set) (all : List Move) where
  joined_more : (ms : List Move) (x m : Move) → Joined inside all ms m → Joined inside all (x ∷ ms) m
  joined_more ms x (Inner i j k c) (inl h) = inl (h.0, behind x ms (Offer i c) h.1, h.2)
  joined_more ms x (Inner i j k c) (inr h) = inr (behind x ms (Inner i j k c) h)
  joined_more ms x m h = (h.0, behind x ms m h.1)

  -- what one move comes to
  abbrev comes_to : Move → List Move
  comes_to (Offer i c) = if inside c then meetings i c all else (Offer i c ∷ [])
  comes_to (Want i c) = if inside c then [] else (Want i c ∷ [])
  comes_to (Choose i k c) = if inside c then [] else (Choose i k c ∷ [])
  comes_to m = m ∷ []

  one_and_rest : (x : Move) (ms : List Move) → joined inside all (x ∷ ms) ≡ comes_to x ++ joined inside all ms
  one_and_rest (Offer i c) ms = refl
  one_and_rest m ms = refl

  offer_has : (b : Bool) (i c : ℕ) (ms : List Move) (m : Move) → inside c ≡ b → Contains (if b then meetings i c all else (Offer i c ∷ [])) m → Joined inside all (Offer i c ∷ ms) m
  offer_has true i c ms m e h =
      let n = met i c all m h in
      subst (Joined inside all (Offer i c ∷ ms)) (sym n.2) (inl (e, at_front (Offer i c) ms, n.3))
  offer_has false i c ms m e h = subst (Joined inside all (Offer i c ∷ ms)) (only (Offer i c) m h) (ap not e, at_front (Offer i c) ms)

  want_has : (b : Bool) (i c : ℕ) (ms : List Move) (m : Move) → inside c ≡ b → Contains (if b then [] else (Want i c ∷ [])) m → Joined inside all (Want i c ∷ ms) m
  want_has true i c ms m e h = absurd (none m h)
  want_has false i c ms m e h = subst (Joined inside all (Want i c ∷ ms)) (only (Want i c) m h) (ap not e, at_front (Want i c) ms)

  choose_has : (b : Bool) (i k c : ℕ) (ms : List Move) (m : Move) → inside c ≡ b → Contains (if b then [] else (Choose i k c ∷ [])) m → Joined inside all (Choose i k c ∷ ms) m
  choose_has true i k c ms m e h = absurd (none m h)
  choose_has false i k c ms m e h = subst (Joined inside all (Choose i k c ∷ ms)) (only (Choose i k c) m h) (ap not e, at_front (Choose i k c) ms)

  one_has : (x : Move) (ms : List Move) (m : Move) → Contains (comes_to x) m → Joined inside all (x ∷ ms) m
  one_has (Offer i c) ms m h = offer_has (inside c) i c ms m refl h
  one_has (Want i c) ms m h = want_has (inside c) i c ms m refl h
  one_has (Choose i k c) ms m h = choose_has (inside c) i k c ms m refl h
  one_has (Stopch i c) ms m h = subst (Joined inside all (Stopch i c ∷ ms)) (only (Stopch i c) m h) (refl, at_front (Stopch i c) ms)
  one_has (Inner i j k c) ms m h = subst (Joined inside all (Inner i j k c ∷ ms)) (only (Inner i j k c) m h) (inr (at_front (Inner i j k c) ms))
  one_has (Quiet i) ms m h = subst (Joined inside all (Quiet i ∷ ms)) (only (Quiet i) m h) (refl, at_front (Quiet i) ms)

  pub joined_has : (ms : List Move) (m : Move) → Contains (joined inside all ms) m → Joined inside all ms m
  joined_has [] m h = absurd (none m h)
  joined_has (x ∷ ms) m h = elim (Contains-append_cases (comes_to x) (joined inside all ms) m (subst (λ ys. Contains ys m) (one_and_rest x ms) h)) [
    | inl k ↦ one_has x ms m k
    | inr k ↦ joined_more ms x m (joined_has ms m k)
  ]

  -- a move that needs no channel inside is what it comes to, and so is a meeting
  unless_inside : (b : Bool) (x : Move) → not b ≡ true → Contains (if b then [] else (x ∷ [])) x
  unless_inside true x h = absurd (let z : false ≡ true = h in cc)
  unless_inside false x h = at_front x []

  offer_alone : (b : Bool) (i c : ℕ) → not b ≡ true → Contains (if b then meetings i c all else (Offer i c ∷ [])) (Offer i c)
  offer_alone true i c h = absurd (let z : false ≡ true = h in cc)
  offer_alone false i c h = at_front (Offer i c) []

  one_itself : (x : Move) → is_outside inside x ≡ true → Contains (comes_to x) x
  one_itself (Offer i c) h = offer_alone (inside c) i c h
  one_itself (Want i c) h = unless_inside (inside c) (Want i c) h
  one_itself (Choose i k c) h = unless_inside (inside c) (Choose i k c) h
  one_itself m h = at_front m []

  met_first : (i j : ℕ) (k : Option ℕ) (c : ℕ) (ms : List Move) → Contains (meetings i c (partner j k c ∷ ms)) (Inner i j k c)
  met_first i j None c ms =
      let on : (c == c) ≡ true = grind (arith, nat_tests) in
      subst (λ b. Contains ((if b then (Inner i j None c ∷ []) else []) ++ meetings i c ms) (Inner i j None c)) (sym on) (at_front (Inner i j None c) (meetings i c ms))
  met_first i j (Some k) c ms =
      let on : (c == c) ≡ true = grind (arith, nat_tests) in
      subst (λ b. Contains ((if b then (Inner i j (Some k) c ∷ []) else []) ++ meetings i c ms) (Inner i j (Some k) c)) (sym on) (at_front (Inner i j (Some k) c) (meetings i c ms))

  met_later : (i c : ℕ) (x : Move) (ms : List Move) (m : Move) → Contains (meetings i c ms) m → Contains (meetings i c (x ∷ ms)) m
  met_later i c (Want j d) ms m h = Contains-append_right (if c == d then (Inner i j None c ∷ []) else []) (meetings i c ms) m h
  met_later i c (Choose j k d) ms m h = Contains-append_right (if c == d then (Inner i j (Some k) c ∷ []) else []) (meetings i c ms) m h
  met_later i c x ms m h = h

  met_there : (i j : ℕ) (k : Option ℕ) (c : ℕ) (ms : List Move) → Contains ms (partner j k c) → Contains (meetings i c ms) (Inner i j k c)
  met_there i j k c [] h = absurd (none (partner j k c) h)
  met_there i j k c (x ∷ ms) h = elim (front_or x ms (partner j k c) h) [
    | inl e ↦ subst (λ z. Contains (meetings i c (z ∷ ms)) (Inner i j k c)) (sym e) (met_first i j k c ms)
    | inr l ↦ met_later i c x ms (Inner i j k c) (met_there i j k c ms l)
  ]

  offer_meets : (b : Bool) (i j : ℕ) (k : Option ℕ) (c : ℕ) → b ≡ true → Contains all (partner j k c) → Contains (if b then meetings i c all else (Offer i c ∷ [])) (Inner i j k c)
  offer_meets true i j k c e h = met_there i j k c all h
  offer_meets false i j k c e h = absurd (let z : false ≡ true = e in cc)

  in_one : (x : Move) (ms : List Move) (m : Move) → Contains (comes_to x) m → Contains (joined inside all (x ∷ ms)) m
  in_one x ms m h = subst (λ ys. Contains ys m) (sym (one_and_rest x ms)) (Contains-append_left (comes_to x) (joined inside all ms) m h)

  in_rest : (x : Move) (ms : List Move) (m : Move) → Contains (joined inside all ms) m → Contains (joined inside all (x ∷ ms)) m
  in_rest x ms m h = subst (λ ys. Contains ys m) (sym (one_and_rest x ms)) (Contains-append_right (comes_to x) (joined inside all ms) m h)

  pub outside_joined : (ms : List Move) (m : Move) → is_outside inside m ≡ true → Contains ms m → Contains (joined inside all ms) m
  outside_joined [] m o h = absurd (none m h)
  outside_joined (x ∷ ms) m o h = elim (front_or x ms m h) [
    | inl e ↦ subst (Contains (joined inside all (x ∷ ms))) e (in_one x ms x (one_itself x (subst (λ z. is_outside inside z ≡ true) (sym e) o)))
    | inr k ↦ in_rest x ms m (outside_joined ms m o k)
  ]

  pub meeting_joined : (ms : List Move) (i j : ℕ) (k : Option ℕ) (c : ℕ) → inside c ≡ true → Contains ms (Offer i c) → Contains all (partner j k c) → Contains (joined inside all ms) (Inner i j k c)
  meeting_joined [] i j k c e o h = absurd (none (Offer i c) o)
  meeting_joined (x ∷ ms) i j k c e o h = elim (front_or x ms (Offer i c) o) [
    | inl f ↦ in_one x ms (Inner i j k c) (subst (λ z. Contains (comes_to z) (Inner i j k c)) (sym f) (offer_meets (inside c) i j k c e h))
    | inr l ↦ in_rest x ms (Inner i j k c) (meeting_joined ms i j k c e l h)
  ]

-- a meeting is listed exactly where both can begin, on a channel inside
pub meeting_listed : (inside : Set) (r : Rest) (e : Store) (i j : ℕ) (k : Option ℕ) (c : ℕ) → Contains (first_moves inside r e) (Inner i j k c) → CanMeet inside (own r e) i j k c
meeting_listed inside r e i j k c h = elim (joined_has inside (own r e) (own r e) (Inner i j k c) h) [ inl n ↦ n | inr n ↦ absurd (no_meeting r e i j k c n) ]

pub lists_meeting : (inside : Set) (r : Rest) (e : Store) (i j : ℕ) (k : Option ℕ) (c : ℕ) → CanMeet inside (own r e) i j k c → Contains (first_moves inside r e) (Inner i j k c)
lists_meeting inside r e i j k c h = meeting_joined inside (own r e) (own r e) i j k c h.0 h.1 h.2

-- any other move is listed exactly where it can begin and needs no channel inside
pub other_listed : (inside : Set) (r : Rest) (e : Store) (m : Move) → ((i j : ℕ) (k : Option ℕ) (c : ℕ) → m ≡ Inner i j k c → ⊥) → Contains (first_moves inside r e) m → (is_outside inside m ≡ true) × Contains (own r e) m
other_listed inside r e m no_inner h = of m no_inner (joined_has inside (own r e) (own r e) m h)
  where
    of : (m : Move) → ((i j : ℕ) (k : Option ℕ) (c : ℕ) → m ≡ Inner i j k c → ⊥) → Joined inside (own r e) (own r e) m → (is_outside inside m ≡ true) × Contains (own r e) m
    of (Inner i j k c) n h = absurd (n i j k c refl)
    of (Offer i c) n h = h
    of (Want i c) n h = h
    of (Choose i k c) n h = h
    of (Stopch i c) n h = h
    of (Quiet i) n h = h

pub lists_other : (inside : Set) (r : Rest) (e : Store) (m : Move) → is_outside inside m ≡ true → Contains (own r e) m → Contains (first_moves inside r e) m
lists_other inside r e m o h = outside_joined inside (own r e) (own r e) m o h

-- after the output began, what it meets still can
pub able_taking : {r q : Rest} {e f : Store} {i c : ℕ} {ks : List Comm} (j : ℕ) (k : Option ℕ) (a : Answer) → Step r e i (action.Offer c) ks q f → Contains (own r e) (partner j k c) → Able q f (site_of (partner j k c)) (action_for (partner j k c) a)
able_taking {q = q} {f = f} {c = c} j k a st h =
    let b = began st in
    able q f (partner j k c) a (subst (λ e. Contains (own q e) (partner j k c)) (sym b.store) (b.taking (partner j k c) (taking_partner j k c) h))

-- the message is taken: nothing else waits than before
taken_waits : {q s : Rest} {f g : Store} {ks : List Comm} (j : ℕ) (k : Option ℕ) (c : ℕ) (m : List ℕ) → Step q f j (meeting k c m) ks s g → waiting s ≡ waiting q
taken_waits j None c m st = step_waits st
taken_waits j (Some k) c m st = step_waits st

taken_says : {q s : Rest} {f g : Store} {ks : List Comm} (j : ℕ) (k : Option ℕ) (c : ℕ) (m : List ℕ) → Step q f j (meeting k c m) ks s g → (y : Datum) × (ks ≡ In c y ∷ [])
taken_says j None c m st = says st
taken_says j (Some k) c m st = says st

-- the receiver's action, with the message
meeting_action : (j : ℕ) (k : Option ℕ) (c : ℕ) (a : Answer) (m : List ℕ) → came a ≡ Some m → action_for (partner j k c) a ≡ meeting k c m
meeting_action j None c a m h = ap (action.Want c) h
meeting_action j (Some k) c a m h = ap (action.Choose k c) h

partner_site : (j : ℕ) (k : Option ℕ) (c : ℕ) → site_of (partner j k c) ≡ j
partner_site j None c = refl
partner_site j (Some k) c = refl

output_chan : (i c d : ℕ) → output i c ≡ output i d → c ≡ d
output_chan i c d h = cc

-- an output that met an input or guard: the first two steps
record Took (r : Rest) (e : Store) (i : ℕ) (j : ℕ) (k : Option ℕ) (c : ℕ) (a : Answer) (q : Rest) (f : Store) (s : Rest) (g : Store) : Type 0 where
  value : Datum
  got : Datum
  sent : bytes_or_none (came a) ≡ message value
  begins : Step r e i (action.Offer c) (Out c value ∷ []) q f
  takes : Step q f j (meeting k c (bytes_or_none (came a))) (In c got ∷ []) s g
  waits : Contains (waiting s) (output i c)

took : {r q s : Rest} {e f g : Store} (i j : ℕ) (k : Option ℕ) (c : ℕ) (a : Answer) → OwnSites r → came a ≡ carried (output_at i r e) → Did r e i (one (action.Offer c)) q f → Did q f (site_of (partner j k c)) (one (action_for (partner j k c) a)) s g → Took r e i j k c a q f s g
took {r} {q} {s} {e} {f} {g} i j k c a o fits (ks, st) (ls, tk) =
    let n = says st in
    let x = n.0 in
    let out : output_at i r e ≡ Some x = sent_value x st o n.1 in
    let came_is : came a ≡ Some (message x) = fits ∙ ap carried out in
    let m = bytes_or_none (came a) in
    let same : m ≡ message x = ap bytes_or_none came_is in
    let came_m : came a ≡ Some m = came_is ∙ ap Some (sym same) in
    let step : Step q f j (meeting k c m) ls s g = subst (λ (d : SiteAction). Step q f j d ls s g) (meeting_action j k c a m came_m) (subst (λ (l : ℕ). Step q f l (action_for (partner j k c) a) ls s g) (partner_site j k c) tk) in
    let y = taken_says j k c m step in
    record {
      value = x;
      got = y.0;
      sent = same;
      begins = subst (λ (cs : List Comm). Step r e i (action.Offer c) cs q f) n.1 st;
      takes = subst (λ (cs : List Comm). Step q f j (meeting k c m) cs s g) y.1 step;
      waits = subst (λ ws. Contains ws (output i c)) (sym (taken_waits j k c m step)) (is_inserted (step_waits st));
    }

-- it has met its partner, once it is finished
pub has_met : {r q s t : Rest} {e f g h : Store} (i j : ℕ) (k : Option ℕ) (c : ℕ) (a : Answer) → OwnSites r → came a ≡ carried (output_at i r e) → Did r e i (one (action.Offer c)) q f → Did q f (site_of (partner j k c)) (one (action_for (partner j k c) a)) s g → Did s g i (one action.Finish) t h → (ks : List Comm) × Does (at r e) (Meets i j k c (bytes_or_none (came a))) ks (at t h)
unfolding waits_site
has_met {r} {q} {s} {t} {e} {f} {g} {h} i j k c a o fits st tk (ms, fin) =
    let n = took i j k c a o fits st tk in
    let own_sites = (step_keeps n.takes (step_keeps n.begins o).1).1 in
    let w = step_waits fin in
    let same : w.0 ≡ c = output_chan i w.0 c (one_waits s (output i w.0) (output i c) own_sites refl (is_inserted w.2) n.waits) in
    let ends : Step s g i action.Finish (Fin c ∷ []) t h = subst (λ (cs : List Comm). Step s g i action.Finish cs t h) (w.1 ∙ ap (λ d. Fin d ∷ []) same) fin in (
      Out c n.value ∷ In c n.got ∷ Fin c ∷ [],
      (n.value, n.got, at q f, at s g, n.sent, refl, n.begins, n.takes, ends),
    )

-- the input or guard that the output meets
pub as_partner : (ms : List Move) (i c : ℕ) (m : Move) → CanBegin ms i c m → (j : ℕ) × (k : Option ℕ) × (m ≡ partner j k c) × Contains ms (Offer i c) × Contains ms (partner j k c)
as_partner ms i c (Want j d) h = (j, None, ap (Want j) h.0, h.1, subst (λ x. Contains ms (Want j x)) h.0 h.2)
as_partner ms i c (Choose j k d) h = (j, Some k, ap (Choose j k) h.0, h.1, subst (λ x. Contains ms (Choose j k x)) h.0 h.2)
as_partner ms i c m h = absurd h

pub can_begin : (inside : Set) (ms : List Move) (i j : ℕ) (k : Option ℕ) (c : ℕ) → CanMeet inside ms i j k c → CanBegin ms i c (partner j k c)
can_begin inside ms i j None c h = (refl, h.1, h.2)
can_begin inside ms i j (Some k) c h = (refl, h.1, h.2)

pub met_partner : (s s' : State) (i j : ℕ) (k : Option ℕ) (c : ℕ) (a : Answer) → (ks : List Comm) × Does s (Meets i j k c (bytes_or_none (came a))) ks s' → HasMet s i c (partner j k c) a s'
met_partner s s' i j None c a h = h
met_partner s s' i j (Some k) c a h = h

pub partner_met : (s s' : State) (i j : ℕ) (k : Option ℕ) (c : ℕ) (a : Answer) → HasMet s i c (partner j k c) a s' → (ks : List Comm) × Does s (Meets i j k c (bytes_or_none (came a))) ks s'
partner_met s s' i j None c a h = h
partner_met s s' i j (Some k) c a h = h

-- a meeting that was made
pub acts_met : (s s' : State) (i j : ℕ) (k : Option ℕ) (c : ℕ) (a : Answer) → UsesLawfully s.rest → FitsMove (Inner i j k c) (sent_by s (Inner i j k c)) a → HasMet s i c (partner j k c) a s' → Acts s (doing (Inner i j k c) (sent_by s (Inner i j k c)) a) s'
acts_met s s' i j k c a u fits h =
    let n = partner_met s s' i j k c a h in
    subst (λ (o : Option (List ℕ)). Acts s (Meets i j k c (bytes_or_none o)) s') fits (n.0, n.1, doing_is_traced s s' (Meets i j k c (bytes_or_none (came a))) n.0 n.1 u)

-- it keeps sites and use
pub met_sites : (s s' : State) (i j : ℕ) (k : Option ℕ) (c : ℕ) (a : Answer) → OwnSites s.rest → HasMet s i c (partner j k c) a s' → OwnSites s'.rest
met_sites s s' i j k c a o h = let n = partner_met s s' i j k c a h in doing_keeps s s' (Meets i j k c (bytes_or_none (came a))) n.0 n.1 o

pub met_use : (s s' : State) (i j : ℕ) (k : Option ℕ) (c : ℕ) (a : Answer) → UsesLawfully s.rest → HasMet s i c (partner j k c) a s' → UsesLawfully s'.rest
met_use s s' i j k c a u h = let n = partner_met s s' i j k c a h in doing_keeps_use s s' (Meets i j k c (bytes_or_none (came a))) n.0 n.1 u
