-- What a process does, step by step, is a trace of it, and tells the communications that its node makes.
use Rattle.std.proofs.Common.{◌≡◌, ℕ, false, refl, sym, ap, subst, ◌∙◌, List, [], ◌∷◌, ◌++◌, Some, append_assoc}
use Rattle.vc_machine.specs.Rendezvous as rendezvous
use Rattle.vc_process.specs.ProcessStep.{ProcessStep, Offers, Wants, Chooses, Stops, Meets, Finishes, Receives}
use Rattle.vc_network.specs.Processes.{comms, Trace, none, more}
use Rattle.vc_process.specs.declared.value_kind.ValueKind.{ValueKind}
use Rattle.vc_occam.specs.InUse.{UsesLawfully}
use Rattle.vc_process.specs.Messages.{message}
use Rattle.vc_occam.specs.NodeTraces as node
use Rattle.vc_occam.specs.Remains.{TraceRest}
use Rattle.vc_occam.specs.States as occam
use Rattle.vc_occam.specs.Traces.{Comm, Out, In, Fin, Stp}
use Rattle.vc_process.specs.Usage.{Set}
use Rattle.vc_occam.proofs.Preservation.{doing_keeps_use, doing_is_traced}
use Rattle.vc_occam.proofs.KindPreservation.{kind_of, value_as, carries, StoreHasKinds, Sound, Tells, doing_tells, doing_stays}
use Rattle.vc_occam.proofs.Openly.{offers_outside}
use Rattle.vc_occam.proofs.Sites.{clash}
use Rattle.vc_accepted.specs.Process.{Process, Goes, does}

-- a communication that carries this value, as its node makes it: an input's value is what the message is worth on the channel
abbrev pub IsSaid : (ℕ → ValueKind) → ℕ × rendezvous.Comm → Comm → Type 0
IsSaid kinds (c, rendezvous.Out m) (Out d x) = (c ≡ d) × (m ≡ message x) × (kind_of x ≡ kinds c)
IsSaid kinds (c, rendezvous.In m) (In d x) = (c ≡ d) × (x ≡ value_as (kinds c) m)
IsSaid kinds (c, rendezvous.Fin) (Fin d) = c ≡ d
IsSaid kinds (c, rendezvous.Stp) (Stp d) = c ≡ d
IsSaid kinds k x = ⊥

abbrev pub AreSaid : (ℕ → ValueKind) → List (ℕ × rendezvous.Comm) → List Comm → Type 0
AreSaid kinds [] [] = Unit {0}
AreSaid kinds (k ∷ ks) (x ∷ xs) = IsSaid kinds k x × AreSaid kinds ks xs
AreSaid kinds [] (x ∷ xs) = ⊥
AreSaid kinds (k ∷ ks) [] = ⊥

pub said_append : (kinds : ℕ → ValueKind) (ks ls : List (ℕ × rendezvous.Comm)) (xs ys : List Comm) → AreSaid kinds ks xs → AreSaid kinds ls ys → AreSaid kinds (ks ++ ls) (xs ++ ys)
said_append kinds [] ls [] ys h k = k
said_append kinds (l ∷ ks) ls (x ∷ xs) ys h k = (h.0, said_append kinds ks ls xs ys h.1 k)
said_append kinds [] ls (x ∷ xs) ys h k = absurd h
said_append kinds (l ∷ ks) ls [] ys h k = absurd h

-- these communications can stand before any that a node makes
abbrev pub Leads : Set → List Comm → Type 0
Leads inside ks = (t : List Comm) → node.Meets inside t → node.Meets inside (ks ++ t)

module _ (channel : ℕ → ValueKind) (kinds : List ValueKind) where
  -- a process that keeps to lawful use and to kinds
  pub record IsGood (p : Process) : Type 0 where
    pub lawful : UsesLawfully p.state.rest
    pub sound : Sound channel kinds p.state.rest
    pub store : StoreHasKinds channel kinds p.state.store

  goes_good : (old new : Process) (d : ProcessStep) → Goes old d new → IsGood old → IsGood new
  goes_good old new d g o =
      let k = doing_stays channel kinds old.state new.state d g.comms g.does (o.sound, o.store) in
      record { lawful = doing_keeps_use old.state new.state d g.comms g.does o.lawful; sound = k.0; store = k.1 }

  -- one step: what it makes, and what the node says of it
  record Made (old : Process) (d : ProcessStep) (new : Process) : Type 0 where
    pub made : List Comm
    pub said : AreSaid channel (comms d) made
    pub leads : Leads old.inside made
    pub traced : occam.IsTraced old.state made new.state
    pub good : IsGood new
    pub inside : new.inside ≡ old.inside

  made_by : (old new : Process) (d : ProcessStep) (e : ProcessStep) (g : Goes old e new) → IsGood old → AreSaid channel (comms d) g.comms → Leads old.inside g.comms → Made old d new
  made_by old new d e g o said leads = record {
    made = g.comms;
    said = said;
    leads = leads;
    traced = doing_is_traced old.state new.state e g.comms g.does o.lawful;
    good = goes_good old new e g o;
    inside = g.inside;
  }

  told : (old new : Process) (e : ProcessStep) (g : Goes old e new) → IsGood old → Tells channel kinds e g.comms
  told old new e g o = doing_tells channel kinds old.state new.state e g.comms g.does o.sound o.store

  quiet : (inside : Set) → Leads inside []
  quiet inside t h = h

  inputs : (inside : Set) (c : ℕ) (x : _) → Leads inside (In c x ∷ [])
  inputs inside c x t h = h

  finishes : (inside : Set) (c : ℕ) → Leads inside (Fin c ∷ [])
  finishes inside c t h = h

  stops : (inside : Set) (c : ℕ) → Leads inside (Stp c ∷ [])
  stops inside c t h = h

  outputs : (inside : Set) (c : ℕ) (x : _) → inside c ≡ false → Leads inside (Out c x ∷ [])
  outputs inside c x o (In d y ∷ Fin f ∷ t) h = (λ e. absurd (clash e o), h)
  outputs inside c x o t h = (o, h)

  exchanges : (inside : Set) (c : ℕ) (x y : _) → message x ≡ message y → Leads inside (Out c x ∷ In c y ∷ Fin c ∷ [])
  exchanges inside c x y e t h = (λ i. (refl, e, refl), h)

  by_message : {inside : Set} {ks ls : List Comm} (d : ProcessStep) → ks ≡ ls → AreSaid channel (comms d) ls → Leads inside ls → AreSaid channel (comms d) ks × Leads inside ks
  by_message {inside} d e h k = (subst (AreSaid channel (comms d)) (sym e) h, subst (Leads inside) (sym e) k)

  step_made : (old new : Process) (d : ProcessStep) → does old d new → IsGood old → Made old d new
  step_made old new (Offers i c m) h o =
      let t = told old new (Offers i c m) h.1 o in
      let q = by_message (Offers i c m) t.1 ((refl, t.2, t.3), tt) (outputs old.inside c t.0 (offers_outside old.inside old.state.rest old.state.store i c h.0)) in
      made_by old new (Offers i c m) (Offers i c m) h.1 o q.0 q.1
  step_made old new (Wants i c (Some m)) h o =
      let q = by_message (Wants i c (Some m)) (told old new (Wants i c (Some m)) h.1 o) ((refl, refl), tt) (inputs old.inside c (value_as (channel c) m)) in
      made_by old new (Wants i c (Some m)) (Wants i c (Some m)) h.1 o q.0 q.1
  step_made old new (Chooses i k c (Some m)) h o =
      let q = by_message (Chooses i k c (Some m)) (told old new (Chooses i k c (Some m)) h.1 o) ((refl, refl), tt) (inputs old.inside c (value_as (channel c) m)) in
      made_by old new (Chooses i k c (Some m)) (Chooses i k c (Some m)) h.1 o q.0 q.1
  step_made old new (Stops i c) h o =
      let q = by_message (Stops i c) (told old new (Stops i c) h.1 o) (refl, tt) (stops old.inside c) in
      made_by old new (Stops i c) (Stops i c) h.1 o q.0 q.1
  step_made old new (Meets i j k c m) h o =
      let t = told old new (Meets i j k c m) h.1 o in
      let y = value_as (channel c) m in
      let same : message t.0 ≡ message y = sym (carries (channel c) t.0 t.3) ∙ ap (λ z. message (value_as (channel c) z)) (sym t.2) in
      let q = by_message (Meets i j k c m) t.1 ((refl, t.2, t.3), ((refl, refl), (refl, tt))) (exchanges old.inside c t.0 y same) in
      made_by old new (Meets i j k c m) (Meets i j k c m) h.1 o q.0 q.1
  step_made old new (Finishes c) h o =
      let q = by_message (Finishes c) (told old new (Finishes c) h o) (refl, tt) (finishes old.inside c) in
      made_by old new (Finishes c) (Finishes c) h o q.0 q.1
  step_made old new (Receives c m) h o =
      let q = by_message (Receives c m) (told old new (Receives c m) h o) ((refl, refl), tt) (inputs old.inside c (value_as (channel c) m)) in
      made_by old new (Receives c m) (Receives c m) h o q.0 q.1
  step_made old new d h o =
      let q = by_message d (told old new d h.1 o) tt (quiet old.inside) in
      made_by old new d d h.1 o q.0 q.1

  -- all its steps
  pub record Told (old : Process) (ks : List (ℕ × rendezvous.Comm)) (new : Process) : Type 0 where
    pub made : List Comm
    pub said : AreSaid channel ks made
    pub leads : Leads old.inside made
    pub traced : occam.IsTraced old.state made new.state
    pub good : IsGood new
    pub inside : new.inside ≡ old.inside

  pub trace_told : (old new : Process) {ks : List (ℕ × rendezvous.Comm)} → Trace does old ks new → IsGood old → Told old ks new
  trace_told old new none o = record { made = []; said = tt; leads = λ t h. h; traced = λ t x h. h; good = o; inside = refl }
  trace_told old new (more {q = q} {d = d} {ks = ks} h t) o =
      let a = step_made old q d h o in
      let b = trace_told q new t a.good in
      record {
        made = a.made ++ b.made;
        said = said_append channel (comms d) ks a.made b.made a.said b.said;
        leads = λ t m. subst (node.Meets old.inside) (sym (append_assoc a.made b.made t))
            (a.leads (b.made ++ t) (subst (λ z. node.Meets z (b.made ++ t)) a.inside (b.leads t (subst (λ z. node.Meets z t) (sym a.inside) m))));
        traced = λ t x e. subst (λ z. TraceRest old.state.rest old.state.store z x) (sym (append_assoc a.made b.made t)) (a.traced (b.made ++ t) x (b.traced t x e));
        good = b.good;
        inside = b.inside ∙ a.inside;
      }
