-- A process runs as if each output began where it is taken, and each input where it has its message: what began before is put off.
use Rattle.std.proofs.Common.{◌≡◌, ℕ, Bool, true, false, ◌==◌, List, [], ◌∷◌, ◌++◌, Some, None, arith, eq-eqb, if◌then◌else◌, sym, subst}
use Rattle.vc_process.specs.declared.datum.Datum.{Datum}
use Rattle.vc_process.specs.Values.{Store}
use Rattle.vc_occam.specs.Completeness.{Steps, no_more, one_more}
use Rattle.vc_free.specs.Rest.{IsAtOnce, StepsAtOnce, none_made, one_made}
use Rattle.vc_free.specs.Private.Delays.{plain_quiet, plain_finish, plain_want, plain_choose, plain_stop, after_output, before_end}
use Rattle.vc_occam.specs.InUse.{UsesLawfully}
use Rattle.vc_occam.specs.Remains.{Rest}
use Rattle.vc_occam.specs.SiteActions.{SiteAction}
use Rattle.vc_occam.specs.SiteActions as action
use Rattle.vc_occam.specs.States.{State, StepsTo}
use Rattle.vc_occam.specs.Traces.{Comm, Out, Fin, In, Stp}
use Rattle.vc_occam.proofs.Counts.{out_of, fin_of}
use Rattle.vc_occam.proofs.MoveActs.{Says, says}
use Rattle.vc_free.proofs.Delays.{delay}
use Rattle.vc_occam.proofs.Independence.{Swap, swap_here, swap_later, an_output, an_end}
use Rattle.vc_occam.proofs.Preservation.{lawful, step_uses}

-- what a site does at once where this is communicated
pub data Tells : SiteAction → Comm → Type 0 where
  tells_out : {c : ℕ} {x : Datum} → Tells (action.Offer c) (Out c x)
  tells_end : {c : ℕ} → Tells action.Finish (Fin c)
  tells_want : {c d : ℕ} {m : List ℕ} {x : Datum} → Tells (action.Want c (Some m)) (In d x)
  tells_choose : {k c d : ℕ} {m : List ℕ} {x : Datum} → Tells (action.Choose k c (Some m)) (In d x)
  tells_stop : {c : ℕ} → Tells (action.StopChannel c) (Stp c)

-- steps one after another, each of which communicates nothing or once, and none of which only begins to wait for a message
pub data Path : State → List Comm → State → Type 0 where
  still : {s : State} → Path s [] s
  quiet : {s t u : State} {i : ℕ} {ks : List Comm} → StepsTo s i action.Quiet [] t → Path t ks u → Path s ks u
  tells : {s t u : State} {i : ℕ} {d : SiteAction} {k : Comm} {ks : List Comm} → Tells d k → StepsTo s i d (k ∷ []) t → Path t ks u → Path s (k ∷ ks) u

pub append : {s t u : State} {ks ls : List Comm} → Path s ks t → Path t ls u → Path s (ks ++ ls) u
append still g = g
append (quiet st h) g = quiet st (append h g)
append (tells w st h) g = tells w st (append h g)

pub path_uses : {s t : State} {ks : List Comm} → Path s ks t → UsesLawfully s.rest → UsesLawfully t.rest
path_uses still l = l
path_uses (quiet st h) l = path_uses h (step_uses st l)
path_uses (tells w st h) l = path_uses h (step_uses st l)

pub as_steps : {s t : State} {ks : List Comm} → Path s ks t → Steps s ks t
as_steps still = no_more
as_steps (quiet st h) = one_more st (as_steps h)
as_steps (tells w st h) = one_more st (as_steps h)

told_at_once : {d : SiteAction} {k : Comm} → Tells d k → IsAtOnce d
told_at_once tells_out = tt
told_at_once tells_end = tt
told_at_once tells_want = tt
told_at_once tells_choose = tt
told_at_once tells_stop = tt

pub at_once : {s t : State} {ks : List Comm} → Path s ks t → StepsAtOnce s ks t
at_once still = none_made
at_once (quiet st h) = one_made tt st (at_once h)
at_once (tells w st h) = one_made (told_at_once w) st (at_once h)

module _ {s t u : State} {i : ℕ} {ks ls : List Comm} (h : Path t ls u) where
  rests : ks ≡ [] → StepsTo s i action.Quiet ks t → Path s (ks ++ ls) u
  rests e st = subst (λ z. Path s (z ++ ls) u) (sym e) (quiet (subst (λ z. StepsTo s i action.Quiet z t) e st) h)

  says_one : {d : SiteAction} {k : Comm} → Tells d k → ks ≡ k ∷ [] → StepsTo s i d ks t → Path s (ks ++ ls) u
  says_one {d = d} w e st = subst (λ z. Path s (z ++ ls) u) (sym e) (tells w (subst (λ z. StepsTo s i d z t) e st) h)

  by_action : (d : SiteAction) → IsAtOnce d → Says d ks → StepsTo s i d ks t → Path s (ks ++ ls) u
  by_action action.Quiet a e st = rests e st
  by_action (action.Offer c) a (x, e) st = says_one tells_out e st
  by_action action.Finish a (c, e) st = says_one tells_end e st
  by_action (action.Want c (Some m)) a (x, e) st = says_one tells_want e st
  by_action (action.Want c None) a e st = absurd a
  by_action (action.Choose k c (Some m)) a (x, e) st = says_one tells_choose e st
  by_action (action.Choose k c None) a e st = absurd a
  by_action (action.Message m) a e st = absurd a
  by_action (action.StopChannel c) a e st = says_one tells_stop e st

pub as_path : {s t : State} {ks : List Comm} → StepsAtOnce s ks t → Path s ks t
as_path none_made = still
as_path (one_made {d = d} a st h) = by_action (as_path h) d a (says st) st

abbrev state : Rest → Store → State
state r e = record { rest = r; store = e }

abbrev pub Offering : State → ℕ → ℕ → Datum → State → Type 0
Offering s i c x t = StepsTo s i (action.Offer c) (Out c x ∷ []) t

-- outputs begin, one after another
pub data Outs : State → State → Type 0 where
  no_out : {s : State} → Outs s s
  one_out : {s t u : State} {i c : ℕ} {x : Datum} → Offering s i c x t → Outs t u → Outs s u

pub outs_append : {s t u : State} → Outs s t → Outs t u → Outs s u
outs_append no_out h = h
outs_append (one_out st g) h = one_out st (outs_append g h)

-- ---- an output that begins later

no_end : (c : ℕ) → [] ≡ Fin c ∷ [] → ⊥
no_end c e = cc

past_none : {s t u : State} {i c : ℕ} {x : Datum} → Offering s i c x t → Path t [] u → UsesLawfully s.rest → (v : State) × Path s [] v × Offering v i c x u
past_none {s = s} st still l = (s, still, st)
past_none {s = s} {c = c} st (quiet st2 r) l =
    let q = delay (after_output (no_end c)) st st2 (lawful s.rest l) in
    let z = past_none {s = state q.rest q.store} q.after r (step_uses q.first l) in
    (z.0, quiet q.first z.1, z.2)

record Past (s : State) (i c : ℕ) (x : Datum) (k : Comm) (ks : List Comm) (u : State) : Type 0 where
  before : State
  path : Path s (k ∷ []) before
  after : State
  step : Offering before i c x after
  rest : Path after ks u

past_one : {s t u : State} {i c : ℕ} {x : Datum} {k : Comm} {ks : List Comm} → Offering s i c x t → Path t (k ∷ ks) u → (k ∷ [] ≡ Fin c ∷ [] → ⊥) → UsesLawfully s.rest → Past s i c x k ks u
past_one {s = s} {c = c} st (quiet st2 r) ne l =
    let q = delay (after_output (no_end c)) st st2 (lawful s.rest l) in
    let z = past_one {s = state q.rest q.store} q.after r ne (step_uses q.first l) in
    record { before = z.before; path = quiet q.first z.path; after = z.after; step = z.step; rest = z.rest }
past_one {s = s} st (tells {t = v} w st2 r) ne l =
    let q = delay (after_output ne) st st2 (lawful s.rest l) in
    record { before = state q.rest q.store; path = tells w q.first still; after = v; step = q.after; rest = r }

-- ---- an output that is finished earlier

pub record Early (s : State) (f : ℕ) (ks : List Comm) (u : State) : Type 0 where
  pub site : ℕ
  pub next : State
  pub ends : StepsTo s site action.Finish (Fin f ∷ []) next
  pub rest : Path next ks u

pub early : {s u : State} {f : ℕ} {ks : List Comm} → Path s (Fin f ∷ ks) u → UsesLawfully s.rest → Early s f ks u
early (tells {t = t} {i = i} tells_end st r) l = record { site = i; next = t; ends = st; rest = r }
early {s = s} (quiet st r) l =
    let n = early r (step_uses st l) in
    let x = delay (before_end plain_quiet) st n.ends (lawful s.rest l) in
    record { site = n.site; next = state x.rest x.store; ends = x.first; rest = quiet x.after n.rest }

abbrev unit : Bool → ℕ
unit b = if b then 1 else 0

abbrev out_one : ℕ → ℕ → ℕ
out_one c d = unit (d == c)

one_of : (c d : ℕ) → out_one c d ≡ 0 → d ≡ c → ⊥
one_of c d h same = by_test (d == c) (eq-eqb d c same) h
  where
    by_test : (b : Bool) → b ≡ true → unit b ≡ 0 → ⊥
    by_test true e h = omega arith
    by_test false e h = cc

not_its : (c d : ℕ) → out_one c d ≡ 0 → Fin c ∷ [] ≡ Fin d ∷ [] → ⊥
not_its c d h e = one_of c d h (let f : Fin c ∷ [] ≡ Fin d ∷ [] = e in cc)

not_end : (c : ℕ) (k : Comm) → fin_of c k ≡ 0 → k ∷ [] ≡ Fin c ∷ [] → ⊥
not_end c (Fin d) h e = one_of c d h (let f : Fin d ∷ [] ≡ Fin c ∷ [] = e in cc)
not_end c (Out d x) h e = cc
not_end c (In d x) h e = cc
not_end c (Stp d) h e = cc

-- two neighbours change places
end_first : {s t u : State} {i c : ℕ} {d : SiteAction} {k : Comm} {ks : List Comm} → Tells d k → StepsTo s i d (k ∷ []) t → Early t c ks u → out_of c k ≡ 0 → UsesLawfully s.rest → Path s (Fin c ∷ k ∷ ks) u
end_first {s = s} {c = c} (tells_out {c = d} {x = x}) st n h l =
    let q = delay (after_output (not_its c d h)) st n.ends (lawful s.rest l) in tells tells_end q.first (tells tells_out q.after n.rest)
end_first {s = s} tells_end st n h l = let q = delay (before_end plain_finish) st n.ends (lawful s.rest l) in tells tells_end q.first (tells tells_end q.after n.rest)
end_first {s = s} tells_want st n h l = let q = delay (before_end plain_want) st n.ends (lawful s.rest l) in tells tells_end q.first (tells tells_want q.after n.rest)
end_first {s = s} tells_choose st n h l = let q = delay (before_end plain_choose) st n.ends (lawful s.rest l) in tells tells_end q.first (tells tells_choose q.after n.rest)
end_first {s = s} tells_stop st n h l = let q = delay (before_end plain_stop) st n.ends (lawful s.rest l) in tells tells_end q.first (tells tells_stop q.after n.rest)

pub swapped_path : {s u : State} {ks ls : List Comm} → Path s ks u → Swap ks ls → UsesLawfully s.rest → Path s ls u
swapped_path still w l = elim w [ ]
swapped_path (quiet st r) w l = quiet st (swapped_path r w (step_uses st l))
swapped_path (tells p st r) (swap_later w) l = tells p st (swapped_path r w (step_uses st l))
swapped_path (tells tells_out st r) (swap_here (an_output {c = c} {k = k} h)) l =
    let z = past_one st r (not_end c k h) l in append z.path (tells tells_out z.step z.rest)
swapped_path (tells p st r) (swap_here (an_end h)) l = end_first p st (early r (step_uses st l)) h l

-- a pending output, the last communication of its channel, is left out
pub data Dropped : List Comm → List Comm → Type 0 where
  dropped_here : {c : ℕ} {x : Datum} → Dropped (Out c x ∷ []) []
  dropped_later : {k : Comm} {ks ls : List Comm} → Dropped ks ls → Dropped (k ∷ ks) (k ∷ ls)

pub dropped_path : {s u : State} {ks ls : List Comm} → Path s ks u → Dropped ks ls → UsesLawfully s.rest → (v : State) × Path s ls v × Outs v u
dropped_path still w l = elim w [ ]
dropped_path (quiet st r) w l = let z = dropped_path r w (step_uses st l) in (z.0, quiet st z.1, z.2)
dropped_path (tells p st r) (dropped_later w) l = let z = dropped_path r w (step_uses st l) in (z.0, tells p st z.1, z.2)
dropped_path (tells tells_out st r) dropped_here l = let z = past_none st r l in (z.0, z.1, one_out z.2 no_out)

pub data Later : List Comm → List Comm → Type 0 where
  stays : {ks : List Comm} → Later ks ks
  swaps : {ks ls ms : List Comm} → Swap ks ls → Later ls ms → Later ks ms
  drops : {ks ls ms : List Comm} → Dropped ks ls → Later ls ms → Later ks ms

-- what was dropped can begin at the end
pub later_path : {s : State} {ks ls : List Comm} → Later ks ls → (u : State) → Path s ks u → UsesLawfully s.rest → (v : State) × Path s ls v × Outs v u
later_path stays u h l = (u, h, no_out)
later_path (swaps w g) u h l = later_path g u (swapped_path h w l) l
later_path (drops w g) u h l =
    let a = dropped_path h w l in
    let b = later_path g a.0 a.1 l in
    (b.0, b.1, outs_append b.2 a.2)
