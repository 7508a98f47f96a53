-- What is to come to a process may come before any move of it, and a move may be made before what the process has begun alone.
use Rattle.std.proofs.Common.{◌≡◌, ◌≢◌, ◌⊎◌, inl, inr, ℕ, suc, ◌+◌, ◌≤◌, Bool, true, false, List, [], ◌∷◌, Option, Some, None, refl, sym, ap, subst, ◌∙◌, arith, if◌then◌else◌, ◌==◌, eq-eqb, ne_eqb}
use Rattle.std.proofs.lemmas.Bool.{cases_eq}
use Rattle.std.specs.List.{Contains}
use Rattle.vc_free.proofs.Delays.{delay, meld, an_input}
use Rattle.vc_free.proofs.PutOff.{total, total_inserted, is_out, is_in}
use Rattle.vc_free.proofs.Schedules.{own_end}
use Rattle.vc_free.specs.Private.Delays.{after_output, after_input}
use Rattle.vc_meaning.specs.Meaning.{GetsAhead, all_got, end_comes, message_comes, BeginsAlone, all_begun, output_begins, input_begins}
use Rattle.vc_occam.proofs.Determinate.{step_one}
use Rattle.vc_occam.proofs.GoingOn.{finishes}
use Rattle.vc_occam.proofs.Insertion.{is_inserted}
use Rattle.vc_occam.proofs.Preservation.{step_uses, lawful}
use Rattle.vc_occam.proofs.Sites.{clash, steps_keep}
use Rattle.vc_occam.proofs.StepWaits.{step_waits}
use Rattle.vc_occam.specs.InUse.{UsesLawfully}
use Rattle.vc_occam.specs.Remains.{Rest, Beside, Step, does_input, gets, in_then, in_turns, in_left, in_right}
use Rattle.vc_occam.specs.SiteActions as action
use Rattle.vc_occam.specs.SiteActions.{SiteAction}
use Rattle.vc_occam.specs.Sites.{OwnSites, sites_rest}
use Rattle.vc_occam.specs.States.{State, StepsTo, input, output, waiting}
use Rattle.vc_occam.specs.Traces.{Comm, Out, Fin, In}
use Rattle.vc_process.specs.Messages.{message}
use Rattle.vc_process.specs.Values.{Store}
use Rattle.vc_process.specs.declared.datum.Datum.{Datum}
use Rattle.vc_program.proofs.Commuting.{commute}
use Rattle.vc_program.proofs.OneEnd.{one_output}
use Rattle.vc_program.proofs.OneKind.{one_kind, step_there}
use Rattle.vc_program.specs.SiteSteps as kinds
use Rattle.vc_program.specs.SiteSteps.{SameKind}

-- a move: neither the end of an output nor a message that was waited for
abbrev pub IsMove : SiteAction → Type 0
IsMove action.Finish = ⊥
IsMove (action.Message m) = ⊥
IsMove d = Unit {0}

-- what is asked of what remains
pub record Kept (s : State) : Type 0 where
  pub uses : UsesLawfully s.rest
  pub sites : OwnSites s.rest

pub kept : {s t : State} {i : ℕ} {d : SiteAction} {ks : List Comm} → StepsTo s i d ks t → Kept s → Kept t
kept {s} {t} {i} {d} {ks} st k = record { uses = step_uses st k.uses; sites = steps_keep s t i d ks st k.sites }

abbrev state : Rest → Store → State
state r e = record { rest = r; store = e }

no_finish : {d : SiteAction} → IsMove d → SameKind d action.Finish → ⊥
no_finish m kinds.finish = m

no_message : {d : SiteAction} {a : List ℕ} → IsMove d → SameKind d (action.Message a) → ⊥
no_message m kinds.message = m

finish_message : (m : List ℕ) → SameKind action.Finish (action.Message m) → ⊥
finish_message m k = elim k [ ]

message_finish : (m : List ℕ) → SameKind (action.Message m) action.Finish → ⊥
message_finish m k = elim k [ ]

offer_finish : (c : ℕ) → SameKind (action.Offer c) action.Finish → ⊥
offer_finish c k = elim k [ ]

fin_chan : (c d : ℕ) → Fin c ∷ [] ≡ Fin d ∷ [] → c ≡ d
fin_chan c d h = cc

in_chan : (c d : ℕ) (x y : Datum) → In c x ∷ [] ≡ In d y ∷ [] → c ≡ d
in_chan c d x y h = cc

state_of : (s t u : State) (i j : ℕ) (d f : SiteAction) (ks ls : List Comm) → OwnSites s.rest → i ≡ j → d ≡ f → StepsTo s i d ks t → StepsTo s j f ls u → t ≡ u
state_of s t u i j d f ks ls own at it st st2 = let n = step_one st st2 at it own in λ r. record { rest = (n r).1; store = (n r).2 }

-- how many wait
pub finish_counts : (c : ℕ) {s t : State} {i d : ℕ} → StepsTo s i action.Finish (Fin d ∷ []) t → (total (is_out c) (waiting s.rest) ≡ is_out c (output i d) + total (is_out c) (waiting t.rest)) × (total (is_in c) (waiting s.rest) ≡ total (is_in c) (waiting t.rest))
finish_counts c {s} {t} {i} {d} st =
    let w = step_waits st in
    (total_inserted (is_out c) w.2 ∙ ap (λ z. is_out c (output i z) + total (is_out c) (waiting t.rest)) (sym (fin_chan d w.0 w.1)), (let r = total_inserted (is_in c) w.2 in omega arith))

pub message_counts : (c : ℕ) {s t : State} {i d : ℕ} {m : List ℕ} {y : Datum} → StepsTo s i (action.Message m) (In d y ∷ []) t → (total (is_out c) (waiting s.rest) ≡ total (is_out c) (waiting t.rest)) × (total (is_in c) (waiting s.rest) ≡ is_in c (input i d) + total (is_in c) (waiting t.rest))
message_counts c {s} {t} {i} {d} {m} {y} st =
    let w = step_waits st in
    ((let r = total_inserted (is_out c) w.3 in omega arith), total_inserted (is_in c) w.3 ∙ ap (λ z. is_in c (input i z) + total (is_in c) (waiting t.rest)) (sym (in_chan d w.0 y w.1 w.2)))

pub other_out : (c d i : ℕ) → (d ≡ c → ⊥) → is_out c (output i d) ≡ 0
other_out c d i ne = ap (λ b. if b then 1 else 0) (ne_eqb d c ne)

pub other_in : (c d i : ℕ) → (d ≡ c → ⊥) → is_in c (input i d) ≡ 0
other_in c d i ne = ap (λ b. if b then 1 else 0) (ne_eqb d c ne)

-- a site waits for a message on one channel
one_channel : {x y : Datum} {r r1 r2 : Rest} {e e1 e2 : Store} {i j c d : ℕ} {m l : List ℕ} → Step r e i (action.Message m) (In c x ∷ []) r1 e1 → Step r e j (action.Message l) (In d y ∷ []) r2 e2 → i ≡ j → OwnSites r → c ≡ d
one_channel (gets h) (gets k) at o = refl
one_channel (in_then st) (in_then st2) at o = one_channel st st2 at o.0
one_channel (in_turns st) (in_turns st2) at o = one_channel st st2 at o.0
one_channel (in_left st) (in_left st2) at o = one_channel st st2 at o.1
one_channel (in_right st) (in_right st2) at o = one_channel st st2 at o.2
one_channel {r = Beside mine r q} {i = i} (in_left st) (in_right st2) at o = absurd (clash (subst (λ k. sites_rest q k ≡ true) (sym at) (step_there st2)) (o.0 i (step_there st)))
one_channel {r = Beside mine r q} {i = i} (in_right st) (in_left st2) at o = absurd (clash (step_there st) (o.0 i (subst (λ k. sites_rest r k ≡ true) (sym at) (step_there st2))))

-- ---- what is to come

module _ {E : ℕ → Type 0} {M : ℕ → List ℕ → Type 0} where
  -- a move beside it
  pub ahead_beside : {s z t : State} {i : ℕ} {d : SiteAction} {ks : List Comm} → GetsAhead E M s z → StepsTo s i d ks t → IsMove d → Kept s → (z2 : State) × StepsTo z i d ks z2 × GetsAhead E M t z2
  ahead_beside {t = t} all_got st mv k = (t, st, all_got)
  ahead_beside {s} {t = t} {i} {d} {ks} (end_comes {t = t2} {i = j} {c = c} e st2 more) st mv k =
      let b = commute s t t2 i j d action.Finish ks (Fin c ∷ []) (lawful s.rest k.uses) (λ q. no_finish mv (one_kind st st2 q k.sites)) st st2 in
      let r = ahead_beside more b.i_after_j mv (kept st2 k) in
      (r.0, r.1, end_comes e b.j_after_i r.2)
  ahead_beside {s} {t = t} {i} {d} {ks} (message_comes {t = t2} {i = j} {c = c} {m = m} {y = y} e st2 more) st mv k =
      let b = commute s t t2 i j d (action.Message m) ks (In c y ∷ []) (lawful s.rest k.uses) (λ q. no_message mv (one_kind st st2 q k.sites)) st st2 in
      let r = ahead_beside more b.i_after_j mv (kept st2 k) in
      (r.0, r.1, message_comes e b.j_after_i r.2)

  -- and so the end of an output that is not to come
  pub ahead_finish : {s z t : State} {i c : ℕ} → (E c → ⊥) → GetsAhead E M s z → StepsTo s i action.Finish (Fin c ∷ []) t → Kept s → (z2 : State) × StepsTo z i action.Finish (Fin c ∷ []) z2 × GetsAhead E M t z2
  ahead_finish {t = t} never all_got st k = (t, st, all_got)
  ahead_finish {s} {t = t} {i} {c} never (end_comes {t = t2} {i = j} {c = d} e st2 more) st k = elim (cases_eq i j) [
    | inl at ↦ absurd (never (subst E (sym (fin_chan c d (ap (λ z. z.0) (step_one st st2 at refl k.sites)))) e))
    | inr ne ↦ (let b = commute s t t2 i j action.Finish action.Finish (Fin c ∷ []) (Fin d ∷ []) (lawful s.rest k.uses) ne st st2 in
        let r = ahead_finish never more b.i_after_j (kept st2 k) in
        (r.0, r.1, end_comes e b.j_after_i r.2))
  ]
  ahead_finish {s} {t = t} {i} {c} never (message_comes {t = t2} {i = j} {c = d} {m = m} {y = y} e st2 more) st k =
      let b = commute s t t2 i j action.Finish (action.Message m) (Fin c ∷ []) (In d y ∷ []) (lawful s.rest k.uses) (λ q. finish_message m (one_kind st st2 q k.sites)) st st2 in
      let r = ahead_finish never more b.i_after_j (kept st2 k) in
      (r.0, r.1, message_comes e b.j_after_i r.2)

  pub ahead_kept : {s z : State} → GetsAhead E M s z → Kept s → Kept z
  ahead_kept all_got k = k
  ahead_kept (end_comes e st more) k = ahead_kept more (kept st k)
  ahead_kept (message_comes e st more) k = ahead_kept more (kept st k)

  pub ahead_append : {s z u : State} → GetsAhead E M s z → GetsAhead E M z u → GetsAhead E M s u
  ahead_append all_got h = h
  ahead_append (end_comes e st more) h = end_comes e st (ahead_append more h)
  ahead_append (message_comes e st more) h = message_comes e st (ahead_append more h)

  -- the end of an output may come first
  pub finish_first : (s t z : State) (i c : ℕ) → Kept s → ((j : ℕ) → Contains (waiting z.rest) (output j c) → ⊥) → StepsTo s i action.Finish (Fin c ∷ []) t → GetsAhead E M s z → GetsAhead E M t z
  finish_first s t z i c k ahead st all_got =
      let w = step_waits st in
      absurd (ahead i (subst (λ d. Contains (waiting z.rest) (output i d)) (sym (fin_chan c w.0 w.1)) (is_inserted w.2)))
  finish_first s t z i c k ahead st (end_comes {t = t2} {i = j} h st2 more) = elim (cases_eq i j) [
    | inl e ↦ subst (λ x. GetsAhead E M x z) (sym (state_of s t t2 i j action.Finish action.Finish _ _ k.sites e refl st st2)) more
    | inr ne ↦ (let b = commute s t t2 i j action.Finish action.Finish _ _ (lawful s.rest k.uses) ne st st2 in
        end_comes h b.j_after_i (finish_first t2 b.both z i c (kept st2 k) ahead b.i_after_j more))
  ]
  finish_first s t z i c k ahead st (message_comes {t = t2} {i = j} {m = m} h st2 more) = elim (cases_eq i j) [
    | inl e ↦ absurd (finish_message m (one_kind st st2 e k.sites))
    | inr ne ↦ (let b = commute s t t2 i j action.Finish (action.Message m) _ _ (lawful s.rest k.uses) ne st st2 in
        message_comes h b.j_after_i (finish_first t2 b.both z i c (kept st2 k) ahead b.i_after_j more))
  ]

  -- and so may a message
  pub message_first : (s t z : State) (i c : ℕ) (m : List ℕ) (y : Datum) → Kept s → ((j : ℕ) → Contains (waiting z.rest) (input j c) → ⊥) → ((l : List ℕ) → M c l → m ≡ l) → StepsTo s i (action.Message m) (In c y ∷ []) t → GetsAhead E M s z → GetsAhead E M t z
  message_first s t z i c m y k ahead one st all_got =
      let w = step_waits st in
      absurd (ahead i (subst (λ d. Contains (waiting z.rest) (input i d)) (sym (in_chan c w.0 y w.1 w.2)) (is_inserted w.3)))
  message_first s t z i c m y k ahead one st (end_comes {t = t2} {i = j} h st2 more) = elim (cases_eq i j) [
    | inl e ↦ absurd (message_finish m (one_kind st st2 e k.sites))
    | inr ne ↦ (let b = commute s t t2 i j (action.Message m) action.Finish _ _ (lawful s.rest k.uses) ne st st2 in
        end_comes h b.j_after_i (message_first t2 b.both z i c m y (kept st2 k) ahead one b.i_after_j more))
  ]
  message_first s t z i c m y k ahead one st (message_comes {t = t2} {i = j} {m = l} h st2 more) = elim (cases_eq i j) [
    | inl e ↦ (let same : m ≡ l = one l (subst (λ d. M d l) (sym (one_channel st st2 e k.sites)) h) in
        subst (λ x. GetsAhead E M x z) (sym (state_of s t t2 i j (action.Message m) (action.Message l) _ _ k.sites e (ap action.Message same) st st2)) more)
    | inr ne ↦ (let b = commute s t t2 i j (action.Message m) (action.Message l) _ _ (lawful s.rest k.uses) ne st st2 in
        message_comes h b.j_after_i (message_first t2 b.both z i c m y (kept st2 k) ahead one b.i_after_j more))
  ]

  pub ahead_fewer : (c : ℕ) {s z : State} → GetsAhead E M s z → (total (is_out c) (waiting z.rest) ≤ total (is_out c) (waiting s.rest)) × (total (is_in c) (waiting z.rest) ≤ total (is_in c) (waiting s.rest))
  ahead_fewer c all_got = (omega arith, omega arith)
  ahead_fewer c (end_comes e st more) = let n = finish_counts c st in let a = n.0 in let b = n.1 in let r = ahead_fewer c more in let p = r.0 in let q = r.1 in (omega arith, omega arith)
  ahead_fewer c (message_comes e st more) = let n = message_counts c st in let a = n.0 in let b = n.1 in let r = ahead_fewer c more in let p = r.0 in let q = r.1 in (omega arith, omega arith)

  -- what is not to come waits on
  pub ahead_outs : (c : ℕ) {s z : State} → (E c → ⊥) → GetsAhead E M s z → total (is_out c) (waiting z.rest) ≡ total (is_out c) (waiting s.rest)
  ahead_outs c never all_got = refl
  ahead_outs c never (end_comes {i = i} {c = d} e st more) =
      let n = finish_counts c st in let a = n.0 in let r = ahead_outs c never more in
      let o = other_out c d i (λ q. never (subst E q e)) in
      omega arith
  ahead_outs c never (message_comes e st more) = let n = message_counts c st in let a = n.0 in let r = ahead_outs c never more in omega arith

  pub ahead_ins : (c : ℕ) {s z : State} → ((m : List ℕ) → M c m → ⊥) → GetsAhead E M s z → total (is_in c) (waiting z.rest) ≡ total (is_in c) (waiting s.rest)
  ahead_ins c never all_got = refl
  ahead_ins c never (end_comes e st more) = let n = finish_counts c st in let b = n.1 in let r = ahead_ins c never more in omega arith
  ahead_ins c never (message_comes {i = i} {c = d} {m = m} e st more) =
      let n = message_counts c st in let b = n.1 in let r = ahead_ins c never more in
      let o = other_in c d i (λ q. never m (subst (λ z. M z m) q e)) in
      omega arith

-- where what is to come is so elsewhere too, of what waits
pub ahead_map : {E E2 : ℕ → Type 0} {M M2 : ℕ → List ℕ → Type 0} {s z : State} → GetsAhead E M s z → ((c : ℕ) → 1 ≤ total (is_out c) (waiting s.rest) → E c → E2 c) → ((c : ℕ) (m : List ℕ) → 1 ≤ total (is_in c) (waiting s.rest) → M c m → M2 c m) → GetsAhead E2 M2 s z
ahead_map all_got f g = all_got
ahead_map {s = s} (end_comes {i = i} {c = c} e st more) f g =
    let here = let n = finish_counts c st in let a = n.0 in let o : is_out c (output i c) ≡ 1 = ap (λ b. if b then 1 else 0) (eq-eqb c c refl) in let l : 1 ≤ total (is_out c) (waiting s.rest) = omega arith in l in
    end_comes (f c here e) st (ahead_map more
    (λ d l. f d (let n = finish_counts d st in let a = n.0 in omega arith))
    (λ d m l. g d m (let n = finish_counts d st in let b = n.1 in omega arith)))
ahead_map {s = s} (message_comes {i = i} {c = c} {m = m} e st more) f g =
    let here = let n = message_counts c st in let a = n.1 in let o : is_in c (input i c) ≡ 1 = ap (λ b. if b then 1 else 0) (eq-eqb c c refl) in let l : 1 ≤ total (is_in c) (waiting s.rest) = omega arith in l in
    message_comes (g c m here e) st (ahead_map more
    (λ d l. f d (let n = message_counts d st in let a = n.0 in omega arith))
    (λ d m l. g d m (let n = message_counts d st in let b = n.1 in omega arith)))

-- ---- what has begun alone

-- one that brings a message: an input that waits has it at once, or it is for what waited before
pub data Takes (s : State) (c : ℕ) (m : List ℕ) (y : Datum) (t : State) : Type 0 where
  by_input : {j : ℕ} → StepsTo s j (action.Want c (Some m)) (In c y ∷ []) t → Takes s c m y t
  by_other : {j : ℕ} → StepsTo s j (action.Message m) (In c y ∷ []) t → Takes s c m y t

wants_on : {r q : Rest} {e f : Store} {i c d : ℕ} {m : List ℕ} {y : Datum} → Step r e i (action.Want d (Some m)) (In c y ∷ []) q f → Step r e i (action.Want c (Some m)) (In c y ∷ []) q f
wants_on (does_input h) = does_input h
wants_on (in_then st) = in_then (wants_on st)
wants_on (in_turns st) = in_turns (wants_on st)
wants_on (in_left st) = in_left (wants_on st)
wants_on (in_right st) = in_right (wants_on st)

-- an end: of an output that has begun alone, which may begin and end before, or of one that waited before
pub data Ends (O : ℕ → List ℕ → Type 0) (s : State) (c : ℕ) (t : State) : Type 0 where
  own_output : {i : ℕ} {x : Datum} {v : State} → O c (message x) → StepsTo s i (action.Offer c) (Out c x ∷ []) v → StepsTo v i action.Finish (Fin c ∷ []) t → Ends O s c t
  other_output : {j : ℕ} → StepsTo s j action.Finish (Fin c ∷ []) t → Ends O s c t

-- a channel has one output at a time
one_offer : {s u v : State} {i j c : ℕ} {x y : Datum} → StepsTo s i (action.Offer c) (Out c x ∷ []) u → StepsTo u j (action.Offer c) (Out c y ∷ []) v → Kept s → ⊥
one_offer {s} {u} {i = i} {c = c} st st2 k =
    let q = delay (after_output (λ e. cc)) st st2 (lawful s.rest k.uses) in
    let at = one_output c refl refl q.first st k.uses in
    offer_finish c (one_kind st2 (finishes u.rest u.store i c (is_inserted (step_waits st))).2 at (kept st k).sites)

fin_other : (c d : ℕ) → (d ≡ c → ⊥) → Fin c ∷ [] ≡ Fin d ∷ [] → ⊥
fin_other c d ne e = ne (sym (fin_chan c d e))

module _ {O : ℕ → List ℕ → Type 0} {I : ℕ → Type 0} where
  -- a step that brings no message, and is no end of such an output, may be made before
  pub alone_past : {s z z2 : State} {i : ℕ} {d : SiteAction} {ks : List Comm} → BeginsAlone O I s z → StepsTo z i d ks z2 → ((a : List ℕ) → d ≡ action.Message a → ⊥) → ((c : ℕ) (m : List ℕ) → O c m → ks ≡ Fin c ∷ [] → ⊥) → Kept s → (t : State) × StepsTo s i d ks t × BeginsAlone O I t z2
  alone_past {z2 = z2} all_begun st nm nf k = (z2, st, all_begun)
  alone_past {s} (output_begins {c = c} {y = y} o w h) st nm nf k =
      let r = alone_past h st nm nf (kept w k) in
      let q = delay (after_output (nf c (message y) o)) w r.1 (lawful s.rest k.uses) in
      (state q.rest q.store, q.first, output_begins o q.after r.2)
  alone_past {s} (input_begins o w h) st nm nf k =
      let r = alone_past h st nm nf (kept w k) in
      let q = delay (after_input nm) w r.1 (lawful s.rest k.uses) in
      (state q.rest q.store, q.first, input_begins o q.after r.2)

  pub alone_append : {s z u : State} → BeginsAlone O I s z → BeginsAlone O I z u → BeginsAlone O I s u
  alone_append all_begun h = h
  alone_append (output_begins o w g) h = output_begins o w (alone_append g h)
  alone_append (input_begins o w g) h = input_begins o w (alone_append g h)

  pub alone_takes : {s z z2 : State} {i c : ℕ} {m : List ℕ} {y : Datum} → BeginsAlone O I s z → StepsTo z i (action.Message m) (In c y ∷ []) z2 → Kept s → (t : State) × Takes s c m y t × BeginsAlone O I t z2
  alone_takes {z2 = z2} all_begun st k = (z2, by_other st, all_begun)
  alone_takes {s} (output_begins o w h) st k =
      let r = alone_takes h st (kept w k) in elim r.1 [
        | by_input st2 ↦ (let q = delay (after_output (λ e. cc)) w st2 (lawful s.rest k.uses) in (state q.rest q.store, by_input q.first, output_begins o q.after r.2))
        | by_other st2 ↦ (let q = delay (after_output (λ e. cc)) w st2 (lawful s.rest k.uses) in (state q.rest q.store, by_other q.first, output_begins o q.after r.2))
      ]
  alone_takes {s} (input_begins o w h) st k =
      let r = alone_takes h st (kept w k) in elim r.1 [
        | by_input st2 ↦ (let q = delay (after_input (λ a e. cc)) w st2 (lawful s.rest k.uses) in (state q.rest q.store, by_input q.first, input_begins o q.after r.2))
        | by_other st2 ↦ elim (meld an_input w st2 (lawful s.rest k.uses)) [
          | inl st3 ↦ (r.0, by_input (wants_on st3), r.2)
          | inr q ↦ (state q.rest q.store, by_other q.first, input_begins o q.after r.2)
        ]
      ]

  pub alone_ends : {s z z2 : State} {i c : ℕ} → BeginsAlone O I s z → StepsTo z i action.Finish (Fin c ∷ []) z2 → Kept s → (t : State) × Ends O s c t × BeginsAlone O I t z2
  alone_ends {z2 = z2} all_begun st k = (z2, other_output st, all_begun)
  alone_ends {s} {c = c} (output_begins {t = u} {i = i} {c = d} {y = y} o w h) st k =
      let r = alone_ends h st (kept w k) in elim r.1 [
        | other_output st2 ↦ elim (cases_eq d c) [
          | inl e ↦ (let w2 = subst (λ z. StepsTo s i (action.Offer z) (Out z y ∷ []) u) e w in
              (r.0, own_output (subst (λ z. O z (message y)) e o) w2 (own_end (is_inserted (step_waits w2)) st2 (kept w k).uses), r.2))
          | inr ne ↦ (let q = delay (after_output (fin_other c d ne)) w st2 (lawful s.rest k.uses) in (state q.rest q.store, other_output q.first, output_begins o q.after r.2))
        ]
        | own_output o2 off fin ↦ elim (cases_eq d c) [
          | inl e ↦ absurd (one_offer (subst (λ z. StepsTo s i (action.Offer z) (Out z y ∷ []) u) e w) off k)
          | inr ne ↦ (let q = delay (after_output (λ e. cc)) w off (lawful s.rest k.uses) in
              let p = delay (after_output (fin_other c d ne)) q.after fin (lawful q.rest (kept {t = state q.rest q.store} q.first k).uses) in
              (state p.rest p.store, own_output o2 q.first p.first, output_begins o p.after r.2))
        ]
      ]
  alone_ends {s} (input_begins o w h) st k =
      let r = alone_ends h st (kept w k) in elim r.1 [
        | other_output st2 ↦ (let q = delay (after_input (λ a e. cc)) w st2 (lawful s.rest k.uses) in (state q.rest q.store, other_output q.first, input_begins o q.after r.2))
        | own_output o2 off fin ↦ (let q = delay (after_input (λ a e. cc)) w off (lawful s.rest k.uses) in
            let p = delay (after_input (λ a e. cc)) q.after fin (lawful q.rest (kept {t = state q.rest q.store} q.first k).uses) in
            (state p.rest p.store, own_output o2 q.first p.first, input_begins o p.after r.2))
      ]

  -- what has begun waits on
  pub alone_more : (c : ℕ) {s z : State} → BeginsAlone O I s z → (total (is_out c) (waiting s.rest) ≤ total (is_out c) (waiting z.rest)) × (total (is_in c) (waiting s.rest) ≤ total (is_in c) (waiting z.rest))
  alone_more c all_begun = (omega arith, omega arith)
  alone_more c (output_begins o w h) = let a = total_inserted (is_out c) (step_waits w) in let b = total_inserted (is_in c) (step_waits w) in let r = alone_more c h in let p = r.0 in let q = r.1 in (omega arith, omega arith)
  alone_more c (input_begins o w h) = let a = total_inserted (is_out c) (step_waits w) in let b = total_inserted (is_in c) (step_waits w) in let r = alone_more c h in let p = r.0 in let q = r.1 in (omega arith, omega arith)

pub alone_map : {O O2 : ℕ → List ℕ → Type 0} {I I2 : ℕ → Type 0} {s z : State} → BeginsAlone O I s z → ((c : ℕ) (m : List ℕ) → 1 ≤ total (is_out c) (waiting z.rest) → O c m → O2 c m) → ((c : ℕ) → 1 ≤ total (is_in c) (waiting z.rest) → I c → I2 c) → BeginsAlone O2 I2 s z
alone_map all_begun f g = all_begun
alone_map {z = z} (output_begins {i = i} {c = c} {y = y} o w h) f g =
    let there = let a = total_inserted (is_out c) (step_waits w) in let r = (alone_more c h).0 in let e : is_out c (output i c) ≡ 1 = ap (λ b. if b then 1 else 0) (eq-eqb c c refl) in let l : 1 ≤ total (is_out c) (waiting z.rest) = omega arith in l in
    output_begins (f c (message y) there o) w (alone_map h f g)
alone_map {z = z} (input_begins {i = i} {c = c} o w h) f g =
    let there = let a = total_inserted (is_in c) (step_waits w) in let r = (alone_more c h).1 in let e : is_in c (input i c) ≡ 1 = ap (λ b. if b then 1 else 0) (eq-eqb c c refl) in let l : 1 ≤ total (is_in c) (waiting z.rest) = omega arith in l in
    input_begins (g c there o) w (alone_map h f g)
