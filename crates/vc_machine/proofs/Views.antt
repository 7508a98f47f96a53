-- The rendezvous machine's own laws, and that each event is no step or one step of it.
use Rattle.std.proofs.Common.{◌≡◌, ℕ, suc, ◌≤◌, ◌⊎◌, inl, inr, Bool, true, false, List, [], ◌∷◌, ◌++◌, length, refl, sym, ap, subst, ◌∙◌, arith, Option, Some, None, slice_get, append_assoc, append-nil, length-append}
use Rattle.vc_packets.specs.declared.packet.Packet.{Packet}
use Rattle.vc_machine.specs.Paths.{Carries, Channel, Net}
use Rattle.vc_machine.specs.Rendezvous.{View, Comm, Out, In, Fin, Stp, Does, IsPrefixOf}
use Rattle.vc_machine.specs.Machine.{State, ChanState, store, accept, advance, view_of, view, Shows, MayTell, Event, Offer, Want, Choose, Stop, Receive, Enter, stores, holds, advances, Reaches, taken, stray, fills, lost, Fetches, Wants, fetches, waits, IsOpen, Step}
use Rattle.vc_packets.specs.Functions.{put}
use Rattle.vc_machine.proofs.Basics.{put-same, put-other, every_put}
use Rattle.vc_machine.proofs.Labels.{Phase, Calm, Coming, Waiting, Returning, tally, LeftAfter, PhaseFits, Inv}
use Rattle.vc_machine.proofs.Halves.{calm_when_idle}

-- the rendezvous machine alone
pub slice_get_end : (xs : List (List ℕ)) (m : List ℕ) (ys : List (List ℕ)) → slice_get (xs ++ m ∷ ys) (length xs) ≡ Some m
slice_get_end [] m ys = refl
slice_get_end (x ∷ xs) m ys = slice_get_end xs m ys

head_is : (xs : List (List ℕ)) (m : List ℕ) → slice_get xs 0 ≡ Some m → (rest : List (List ℕ)) × (m ∷ rest ≡ xs)
head_is [] m e = absurd (cc)
head_is (x ∷ xs) m e = (xs, ap (λ k. k ∷ xs) (let h : x ≡ m = cc in sym h))

pub one_more : (xs ys : List (List ℕ)) (m : List ℕ) → IsPrefixOf xs ys → slice_get ys (length xs) ≡ Some m → IsPrefixOf (xs ++ m ∷ []) ys
one_more [] ys m p e = head_is ys m e
one_more (x ∷ xs) [] m p e = absurd (cc)
one_more (x ∷ xs) (y ∷ ys) m p e =
    let q = p.1 in
    let h : x ≡ y = cc in
    let t : xs ++ p.0 ≡ ys = cc in
    let r = one_more xs ys m (p.0, t) e in
    (r.0, (λ i. h i ∷ r.1 i))

pub record Keeps (v : View) : Type 0 where
  pub prefix : IsPrefixOf v.taken v.offered
  pub finished : v.finished ≤ length v.taken

pub keeps : (v : View) (k : Comm) (u : View) → Keeps v → Does v k u → Keeps u
keeps v (Out m) u k h = subst Keeps (sym h.1) (record { prefix = (k.prefix.0 ++ m ∷ [], sym (append_assoc v.taken k.prefix.0 (m ∷ [])) ∙ ap (λ z. z ++ m ∷ []) k.prefix.1); finished = k.finished })
keeps v (In m) u k h = subst Keeps (sym h.2) (record { prefix = one_more v.taken v.offered m k.prefix h.0; finished = (let z = k.finished in let y = length-append v.taken (m ∷ []) in omega arith) })
keeps v Fin u k h = subst Keeps (sym h.1) (record { prefix = k.prefix; finished = h.0 })
keeps v Stp u k h = subst Keeps (sym h) (record { prefix = k.prefix; finished = k.finished })

abbrev pub IsStoppedAt : View → View → Type 0
IsStoppedAt v u = (u.taken ≡ v.taken) × (u.stopped ≡ true)

pub after_stop : (v : View) (k : Comm) (u : View) → v.stopped ≡ true → Does v k u → IsStoppedAt v u
after_stop v (Out m) u s h = (ap (λ k. k.taken) h.1, ap (λ k. k.stopped) h.1 ∙ s)
after_stop v (In m) u s h = let z = h.1 in absurd (cc)
after_stop v Fin u s h = (ap (λ k. k.taken) h.1, ap (λ k. k.stopped) h.1 ∙ s)
after_stop v Stp u s h = (ap (λ k. k.taken) h, ap (λ k. k.stopped) h)

-- what may be told
abbrev pub May : Type 1
May = Option (ℕ × Comm) → Type 0

-- channel d rests or makes one step, and may tell it
abbrev pub Rests : May → ℕ → View → View → Type 0
Rests M d v u = ((u ≡ v) × M None) ⊎ ((k : Comm) × Does v k u × M (Some (d, k)))

-- in each phase
pub logs : (ch : Channel) (f : Phase) (x : ChanState) (n : ℕ) → PhaseFits ch f x n → Keeps (view_of x)
logs ch Calm x n h = let c = h.2.count in record { prefix = ([], append-nil x.taken ∙ h.2.same); finished = omega arith }
logs ch Coming x n h = let c = h.2.count in record { prefix = (h.2.message ∷ [], sym h.2.offered); finished = omega arith }
logs ch Waiting x n h = let c = h.3.count in record { prefix = (h.3.message ∷ [], sym h.3.offered); finished = omega arith }
logs ch Returning x n h = back_logs x h.2.later h.2.left
  where
    back_logs : (x : ChanState) (later : List (List ℕ)) → LeftAfter x later → Keeps (view_of x)
    back_logs x [] h = let c = h.2 in record { prefix = ([], append-nil x.taken ∙ h.1); finished = omega arith }
    back_logs x (d ∷ ds) h = let c = h.4 in record { prefix = (h.0 ∷ [], sym h.3); finished = omega arith }

-- a channel's new state in the network
pub chan_logs : (net : Net) (s : State) (c : ℕ) → Inv net s → Carries net c → Keeps (view s c)
chan_logs net s c i real = logs (net.chan c) (i.phases c) (s.chans c) (tally c net.ways i.labels) (i.chans c real).phase

-- a step tells something
abbrev pub Told : May → State → State → Type 0
Told M s t = (o : Option (ℕ × Comm)) × Shows s o t × M o

pub quiet : (M : May) (s t : State) → t.chans ≡ s.chans → M None → Told M s t
quiet M s t e may = (None, (λ c. ap (λ k. view_of (k c)) e), may)

-- what the network tells when channel d gets the state x
pub told : (M : May) (s t : State) (d : ℕ) (x : ChanState) → t.chans ≡ put s.chans d x → Rests M d (view s d) (view_of x) → Told M s t
told M s t d x e (inl same) = (None, (λ c. ap (λ k. view_of (k c)) e ∙ every_put (λ j y. view_of y ≡ view s j) s.chans d x same.0 (λ j ne. refl) c), same.1)
told M s t d x e (inr h) = (
  Some (d, h.0),
  (
    subst (λ k. Does (view s d) h.0 (view_of k)) (sym (put-same s.chans d x) ∙ sym (ap (λ k. k d) e)) h.1,
    λ c ne. ap (λ k. view_of (k c)) e ∙ ap view_of (put-other s.chans d x c ne),
  ),
  h.2,
)

-- the state that a channel was given keeps the laws
pub given : (net : Net) (t : State) (f : ℕ → ChanState) (d : ℕ) (x : ChanState) → Inv net t → Carries net d → t.chans ≡ put f d x → Keeps (view_of x)
given net t f d x i real e = subst (λ k. Keeps (view_of k)) (ap (λ k. k d) e ∙ put-same f d x) (chan_logs net t d i real)

pub prefix_end : (xs ys : List (List ℕ)) (m : List ℕ) → IsPrefixOf (xs ++ m ∷ []) ys → slice_get ys (length xs) ≡ Some m
prefix_end xs ys m p = subst (λ k. slice_get k (length xs) ≡ Some m) (sym (append_assoc xs (m ∷ []) p.0) ∙ p.1) (slice_get_end xs m p.0)

-- a message may be taken on channel d
abbrev pub MayTake : May → ℕ → Type 0
MayTake M d = M None × ((m : List ℕ) → M (Some (d, In m)))

store_seen : (M : May) (d : ℕ) (x : ChanState) (load : List ℕ) (last : Bool) → MayTake M d → x.stopped ≡ false → Keeps (view_of (store x load last)) → Rests M d (view_of x) (view_of (store x load last))
store_seen M d x load true may live k = inr (In (x.stored ++ load), (prefix_end x.taken x.offered (x.stored ++ load) k.prefix, live, refl), may.1 (x.stored ++ load))
store_seen M d x load false may live k = inl (refl, may.0)

accept_told : (M : May) (net : Net) (s t : State) (d : ℕ) (load : List ℕ) (last : Bool) → MayTake M d → Inv net t → Carries net d → (s.chans d).stopped ≡ false → t ≡ accept net s d load last → Told M s t
accept_told M net s t d load last may i real live e =
    let x = store (s.chans d) load last in
    let chans : t.chans ≡ put s.chans d x = ap (λ k. k.chans) e in
    told M s t d x chans (store_seen M d (s.chans d) load last may live (given net t s.chans d x i real chans))

advance_told : (M : May) (net : Net) (s t : State) (d : ℕ) (later : List (List ℕ)) → M None → M (Some (d, Fin)) → Inv net t → Carries net d → t ≡ advance net s d later → Told M s t
advance_told M net s t d [] none fin i real e =
    let x : ChanState = record (s.chans d) { unacked = []; finished = suc (s.chans d).finished } in
    let chans : t.chans ≡ put s.chans d x = ap (λ k. k.chans) e in
    told M s t d x chans (inr (Fin, ((given net t s.chans d x i real chans).finished, refl), fin))
advance_told M net s t d (b ∷ later) none fin i real e =
    let x : ChanState = record (s.chans d) { unacked = b ∷ later } in
    told M s t d x (ap (λ k. k.chans) e) (inl (refl, none))

fetches_told : (M : May) (net : Net) (s t : State) (d : ℕ) → MayTake M d → Inv net t → IsOpen net s d → Fetches net s d t → Told M s t
fetches_told M net s t d may i o h = accept_told M net s t d h.load h.last may i o.real o.not_stopped h.after

wants_told : (M : May) (net : Net) (s t : State) (d : ℕ) → MayTake M d → Inv net t → IsOpen net s d → Wants net s d t → Told M s t
wants_told M net s t d may i o (fetches h) = fetches_told M net s t d may i o h
wants_told M net s t d may i o (waits h e) = told M s t d (record (s.chans d) { wants = true }) (ap (λ k. k.chans) e) (inl (refl, may.0))

reaches_told : (M : May) (net : Net) (s t : State) (n : ℕ) (p : Packet) → ((d : ℕ) → MayTake M d) → ((d : ℕ) → M (Some (d, Fin))) → M None →
    ((d : ℕ) → Carries net d → (s.chans d).wants ≡ true → (s.chans d).stopped ≡ false) → Inv net t → Reaches net s n p t → Told M s t
reaches_told M net s t n p may fin none live i (taken (stores d load last k w e)) = accept_told M net s t d load last (may d) i k.real (live d k.real w) e
reaches_told M net s t n p may fin none live i (taken (holds d load last k w q e)) = told M s t d (record (s.chans d) { held = Some p }) (ap (λ z. z.chans) e) (inl (refl, none))
reaches_told M net s t n p may fin none live i (taken (advances d now later k u e)) = advance_told M net s t d later none (fin d) i k.real e
reaches_told M net s t n p may fin none live i (stray nobody e) = quiet M s t (ap (λ k. k.chans) e) none

-- the ways' change shows nothing
shifted : (M : May) (s r t : State) → r.chans ≡ s.chans → Told M r t → Told M s t
shifted M s r t e h = (h.0, go h.0 h.1, h.2)
  where
    go : (o : Option (ℕ × Comm)) → Shows r o t → Shows s o t
    go None q = λ c. q c ∙ ap (λ k. view_of (k c)) e
    go (Some (c, k)) q = (subst (λ z. Does (view_of (z c)) k (view t c)) e q.0, λ d ne. q.1 d ne ∙ ap (λ k. view_of (k d)) e)

pub step_told : (net : Net) (s t : State) (e : Event) → Inv net s → Inv net t → Step net s e t → Told (MayTell e) s t
step_told net s t (Offer d m) i j h =
    let x = s.chans d in
    let q = calm_when_idle (net.chan d) (i.phases d) x (tally d net.ways i.labels) (i.chans d h.real).phase h.idle in
    told (MayTell (Offer d m)) s t d (record x { unacked = h.now ∷ h.later; offered = x.offered ++ m ∷ [] }) (ap (λ k. k.chans) h.after)
    (inr (Out m, (ap length (sym q.2.same) ∙ sym q.2.count, refl), refl))
step_told net s t (Want d) i j h = wants_told (MayTell (Want d)) net s t d (inl refl, λ m. inr (m, refl)) j h.0 h.1
step_told net s t (Choose d) i j h = fetches_told (MayTell (Choose d)) net s t d (inl refl, λ m. inr (m, refl)) j h.0 h.1
step_told net s t (Stop d) i j h = told (MayTell (Stop d)) s t d (record (s.chans d) { stopped = true }) (ap (λ k. k.chans) h.after) (inr (Stp, refl, refl))
step_told net s t (Receive w) i j h =
    let r : State = record s { ways = put s.ways w (record (s.ways w) { line = h.rest }) } in
    let M = MayTell (Receive w) in
    shifted M s r t refl
    (reaches_told M net r t h.node h.packet (λ d. (inl refl, λ m. inr (inl (d, m, refl)))) (λ d. inr (inr (d, refl))) (inl refl) (λ d real. (i.chans d real).«open») j h.after)
step_told net s t (Enter w v) i j h =
    elim h.after [
      | fills group after ↦ quiet (MayTell (Enter w v)) s t (ap (λ k. k.chans) after) refl
      | lost stuck after ↦ quiet (MayTell (Enter w v)) s t (ap (λ k. k.chans) after) refl
    ]
step_told net s t d i j h = quiet (MayTell d) s t (ap (λ k. k.chans) h.after) refl
