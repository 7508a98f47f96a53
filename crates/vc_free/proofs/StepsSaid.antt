-- What a process does, step by step, is a trace of it, and tells the communications that its node makes.
use Rattle.std.proofs.Common.{◌≡◌, ℕ, false, refl, sym, ap, subst, ◌∙◌, List, [], ◌∷◌, Some, None}
use Rattle.vc_process.specs.ProcessStep.{ProcessStep, Offers, Wants, Chooses, Stops, Meets, Rests, Finishes, Receives}
use Rattle.vc_network.specs.Processes.{comms}
use Rattle.vc_process.specs.declared.value_kind.ValueKind.{ValueKind}
use Rattle.vc_process.specs.Messages.{message}
use Rattle.vc_occam.specs.Traces.{Comm, Out, In, Fin, Stp}
use Rattle.vc_process.specs.Usage.{Set}
use Rattle.vc_occam.proofs.Preservation.{doing_keeps_use}
use Rattle.vc_occam.proofs.KindPreservation.{value_as, carries, Tells, doing_tells, doing_stays}
use Rattle.vc_occam.proofs.Openly.{offers_outside}
use Rattle.vc_occam.proofs.Sites.{clash}
use Rattle.vc_accepted.proofs.StepTraces.{AreSaid, Leads, IsGood}
use Rattle.vc_accepted.specs.Process.{Process, Goes, does}

-- the step itself
abbrev pub goes_of : (old new : Process) (d : ProcessStep) → does old d new → Goes old d new
goes_of old new (Finishes c) h = h
goes_of old new (Receives c m) h = h
goes_of old new (Offers i c m) h = h.1
goes_of old new (Wants i c a) h = h.1
goes_of old new (Chooses i k c a) h = h.1
goes_of old new (Stops i c) h = h.1
goes_of old new (Meets i j k c m) h = h.1
goes_of old new (Rests i) h = h.1

module _ (channel : ℕ → ValueKind) (kinds : List ValueKind) where
  goes_good : (old new : Process) (d : ProcessStep) → Goes old d new → IsGood channel kinds old → IsGood channel kinds new
  goes_good old new d g o =
      let k = doing_stays channel kinds old.state new.state d g.comms g.does (o.sound, o.store) in
      record { lawful = doing_keeps_use old.state new.state d g.comms g.does o.lawful; sound = k.0; store = k.1 }

  told : (old new : Process) (e : ProcessStep) (g : Goes old e new) → IsGood channel kinds old → Tells channel kinds e g.comms
  told old new e g o = doing_tells channel kinds old.state new.state e g.comms g.does o.sound o.store

  quiet : (inside : Set) → Leads inside []
  quiet inside t h = h

  inputs : (inside : Set) (c : ℕ) (x : _) → Leads inside (In c x ∷ [])
  inputs inside c x t h = h

  finishes : (inside : Set) (c : ℕ) → Leads inside (Fin c ∷ [])
  finishes inside c t h = h

  stops : (inside : Set) (c : ℕ) → Leads inside (Stp c ∷ [])
  stops inside c t h = h

  outputs : (inside : Set) (c : ℕ) (x : _) → inside c ≡ false → Leads inside (Out c x ∷ [])
  outputs inside c x o (In d y ∷ Fin f ∷ t) h = (λ e. absurd (clash e o), h)
  outputs inside c x o t h = (o, h)

  exchanges : (inside : Set) (c : ℕ) (x y : _) → message x ≡ message y → Leads inside (Out c x ∷ In c y ∷ Fin c ∷ [])
  exchanges inside c x y e t h = (λ i. (refl, e, refl), h)

  by_message : {inside : Set} {ks ls : List Comm} (d : ProcessStep) → ks ≡ ls → AreSaid channel (comms d) ls → Leads inside ls → AreSaid channel (comms d) ks × Leads inside ks
  by_message {inside} d e h k = (subst (AreSaid channel (comms d)) (sym e) h, subst (Leads inside) (sym e) k)

  pub step_said : (old new : Process) (d : ProcessStep) (h : does old d new) → IsGood channel kinds old → AreSaid channel (comms d) (goes_of old new d h).comms
  step_said old new (Offers i c m) h o =
      let t = told old new (Offers i c m) h.1 o in
      let q = by_message (Offers i c m) t.1 ((refl, t.2, t.3), tt) (outputs old.inside c t.0 (offers_outside old.inside old.state.rest old.state.store i c h.0)) in
      q.0
  step_said old new (Wants i c (Some m)) h o =
      let q = by_message (Wants i c (Some m)) (told old new (Wants i c (Some m)) h.1 o) ((refl, refl), tt) (inputs old.inside c (value_as (channel c) m)) in
      q.0
  step_said old new (Chooses i k c (Some m)) h o =
      let q = by_message (Chooses i k c (Some m)) (told old new (Chooses i k c (Some m)) h.1 o) ((refl, refl), tt) (inputs old.inside c (value_as (channel c) m)) in
      q.0
  step_said old new (Stops i c) h o =
      let q = by_message (Stops i c) (told old new (Stops i c) h.1 o) (refl, tt) (stops old.inside c) in
      q.0
  step_said old new (Meets i j k c m) h o =
      let t = told old new (Meets i j k c m) h.1 o in
      let y = value_as (channel c) m in
      let same : message t.0 ≡ message y = sym (carries (channel c) t.0 t.3) ∙ ap (λ z. message (value_as (channel c) z)) (sym t.2) in
      let q = by_message (Meets i j k c m) t.1 ((refl, t.2, t.3), ((refl, refl), (refl, tt))) (exchanges old.inside c t.0 y same) in
      q.0
  step_said old new (Finishes c) h o =
      let q = by_message (Finishes c) (told old new (Finishes c) h o) (refl, tt) (finishes old.inside c) in
      q.0
  step_said old new (Receives c m) h o =
      let q = by_message (Receives c m) (told old new (Receives c m) h o) ((refl, refl), tt) (inputs old.inside c (value_as (channel c) m)) in
      q.0
  step_said old new (Wants i c None) h o =
      let q = by_message (Wants i c None) (told old new (Wants i c None) h.1 o) tt (quiet old.inside) in
      q.0
  step_said old new (Chooses i k c None) h o =
      let q = by_message (Chooses i k c None) (told old new (Chooses i k c None) h.1 o) tt (quiet old.inside) in
      q.0
  step_said old new (Rests i) h o =
      let q = by_message (Rests i) (told old new (Rests i) h.1 o) tt (quiet old.inside) in
      q.0

  pub good_after : (old new : Process) (d : ProcessStep) → does old d new → IsGood channel kinds old → IsGood channel kinds new
  good_after old new d h o = goes_good old new d (goes_of old new d h) o
