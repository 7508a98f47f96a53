-- What a step of a node that is no move of its process is to its process and to its channels: nothing, or a message came, or an output
-- is finished.
use Rattle.std.proofs.Common.{◌≡◌, ℕ, suc, Bool, true, false, List, [], ◌∷◌, ◌++◌, Option, Some, inl, inr, refl, sym, ap, subst, ◌∙◌}
use Rattle.std.proofs.lemmas.Bool.{cases_eq}
use Rattle.vc_accepted.specs.Process.{Process, does, Goes}
use Rattle.vc_machine.proofs.Basics.{put-same, put-other}
use Rattle.vc_network.specs.Actors.{Label, act_of}
use Rattle.vc_network.specs.Actors.Label.{Own, Takes, Puts}
use Rattle.vc_network.specs.Network.{Act, Proc, Take, Put, Fct, Pass, Node, GoesOn, NodeStep}
use Rattle.vc_network.specs.Plan.{Plan, ends, body_limit}
use Rattle.vc_network.specs.Still.{IsNoMove}
use Rattle.vc_packets.specs.Functions.{put}
use Rattle.vc_packets.specs.declared.packet.Packet.{Packet}
use Rattle.vc_process.specs.ProcessStep.{Finishes, Receives}
use Rattle.vc_tokens.specs.Tokens.{Token, EndMark}
use Rattle.vc_vcp.specs.Carrier.{End, Ends, OutHalf, InHalf, Carrier}
use Rattle.vc_vcp.specs.Links.{passes_byte, drops_byte, passes_mark, unqueued}
use Rattle.vc_vcp.specs.Links as links
use Rattle.vc_vcp.specs.Steps.{Taken, Held, Stored, Complete, More, Finished, Stray, Arrives, takes, stray, stores, holds, advances, store, message, taken_by, acked_by, advance}

-- a half shows the same to processes
pub record SameOut (x y : OutHalf) : Type 0 where
  pub offered : y.offered ≡ x.offered
  pub finished : y.finished ≡ x.finished

pub record SameIn (x y : InHalf) : Type 0 where
  pub wants : y.wants ≡ x.wants
  pub stopped : y.stopped ≡ x.stopped
  pub taken : y.taken ≡ x.taken

abbrev pub finished_out : OutHalf → OutHalf
finished_out x = record x { finished = suc x.finished }

abbrev pub completed_in : InHalf → List ℕ → InHalf
completed_in x m = record x { wants = false; taken = x.taken ++ m ∷ [] }

pub data Outcome (ends : Ends) (a : Carrier) (p : Process) (b : Carrier) (q : Process) : Type 0 where
  nothing : q ≡ p → ((d : ℕ) → SameOut (a.out d) (b.out d)) → ((d : ℕ) → SameIn (a.into d) (b.into d)) → Outcome ends a p b q
  completes : (d : ℕ) (m : List ℕ) (end : End) → ends.input d ≡ Some end → (a.into d).wants ≡ true → Goes p (Receives d m) q → ((j : ℕ) → SameOut (a.out j) (b.out j)) →
      SameIn (completed_in (a.into d) m) (b.into d) → ((j : ℕ) → (j ≡ d → ⊥) → SameIn (a.into j) (b.into j)) → Outcome ends a p b q
  finishes : (d : ℕ) (end : End) → ends.output d ≡ Some end → Goes p (Finishes d) q → SameOut (finished_out (a.out d)) (b.out d) → ((j : ℕ) → (j ≡ d → ⊥) → SameOut (a.out j) (b.out j)) →
      ((j : ℕ) → SameIn (a.into j) (b.into j)) → Outcome ends a p b q

out_is : (x y : OutHalf) → y ≡ x → SameOut x y
out_is x y e = record { offered = ap (λ z. z.offered) e; finished = ap (λ z. z.finished) e }

in_is : (x y : InHalf) → y ≡ x → SameIn x y
in_is x y e = record { wants = ap (λ z. z.wants) e; stopped = ap (λ z. z.stopped) e; taken = ap (λ z. z.taken) e }

module _ (ends : Ends) (a b : Carrier) (p q : Process) where
  outs_stay : b.out ≡ a.out → (d : ℕ) → SameOut (a.out d) (b.out d)
  outs_stay e d = out_is (a.out d) (b.out d) (ap (λ f. f d) e)

  ins_stay : b.into ≡ a.into → (d : ℕ) → SameIn (a.into d) (b.into d)
  ins_stay e d = in_is (a.into d) (b.into d) (ap (λ f. f d) e)

  halves_stay : b.into ≡ a.into → b.out ≡ a.out → q ≡ p → Outcome ends a p b q
  halves_stay i o e = nothing e (outs_stay o) (ins_stay i)

  -- one half changes
  in_here : (c : ℕ) (x : InHalf) → b.into ≡ put a.into c x → b.into c ≡ x
  in_here c x e = ap (λ f. f c) e ∙ put-same a.into c x

  in_there : (c : ℕ) (x : InHalf) → b.into ≡ put a.into c x → (j : ℕ) → (j ≡ c → ⊥) → SameIn (a.into j) (b.into j)
  in_there c x e j ne = in_is (a.into j) (b.into j) (ap (λ f. f j) e ∙ put-other a.into c x j ne)

  in_like : (c : ℕ) (x : InHalf) → b.into ≡ put a.into c x → SameIn (a.into c) x → (j : ℕ) → SameIn (a.into j) (b.into j)
  in_like c x e same j = elim (cases_eq j c) [
    | inl is ↦ subst (λ z. SameIn (a.into z) (b.into z)) (sym is) (subst (SameIn (a.into c)) (sym (in_here c x e)) same)
    | inr other ↦ in_there c x e j other
  ]

  out_here : (c : ℕ) (x : OutHalf) → b.out ≡ put a.out c x → b.out c ≡ x
  out_here c x e = ap (λ f. f c) e ∙ put-same a.out c x

  out_there : (c : ℕ) (x : OutHalf) → b.out ≡ put a.out c x → (j : ℕ) → (j ≡ c → ⊥) → SameOut (a.out j) (b.out j)
  out_there c x e j ne = out_is (a.out j) (b.out j) (ap (λ f. f j) e ∙ put-other a.out c x j ne)

  out_like : (c : ℕ) (x : OutHalf) → b.out ≡ put a.out c x → SameOut (a.out c) x → (j : ℕ) → SameOut (a.out j) (b.out j)
  out_like c x e same j = elim (cases_eq j c) [
    | inl is ↦ subst (λ z. SameOut (a.out z) (b.out z)) (sym is) (subst (SameOut (a.out c)) (sym (out_here c x e)) same)
    | inr other ↦ out_there c x e j other
  ]

  as_taken : (t u : Taken) → t ≡ u → GoesOn does p (Some t) q → GoesOn does p (Some u) q
  as_taken t u e h = subst (λ z. GoesOn does p (Some z) q) e h

  stored : (what : Taken) (c : ℕ) (end : End) (load : List ℕ) (last : Bool) → ends.input c ≡ Some end → (a.into c).wants ≡ true → what ≡ taken_by c (message (a.into c) load last) →
      b.into ≡ put a.into c (store (a.into c) load last) → b.out ≡ a.out → GoesOn does p (Some what) q → Outcome ends a p b q
  stored what c end load true here wants is i o goes =
      completes c ((a.into c).stored ++ load) end here wants (as_taken what (Complete c ((a.into c).stored ++ load)) is goes) (outs_stay o)
      (subst (SameIn (completed_in (a.into c) ((a.into c).stored ++ load))) (sym (in_here c (store (a.into c) load true) i)) (record { wants = refl; stopped = refl; taken = refl }))
      (in_there c (store (a.into c) load true) i)
  stored what c end load false here wants is i o goes =
      nothing (as_taken what (Stored c) is goes) (outs_stay o) (in_like c (store (a.into c) load false) i (record { wants = sym wants; stopped = refl; taken = refl }))

  acked : (what : Taken) (c : ℕ) (end : End) (later : List (List ℕ)) → ends.output c ≡ Some end → what ≡ acked_by c later → b ≡ advance a c end later → GoesOn does p (Some what) q → Outcome ends a p b q
  acked what c end [] here is after goes =
      let x : OutHalf = record (a.out c) { unacked = []; finished = suc (a.out c).finished } in
      let o : b.out ≡ put a.out c x = ap (λ z. z.out) after in
      finishes c end here (as_taken what (Finished c) is goes) (subst (SameOut (finished_out (a.out c))) (sym (out_here c x o)) (record { offered = refl; finished = refl })) (out_there c x o) (ins_stay (ap (λ z. z.into) after))
  acked what c end (d ∷ later) here is after goes =
      let x : OutHalf = record (a.out c) { unacked = d ∷ later } in
      let o : b.out ≡ put a.out c x = ap (λ z. z.out) after in
      nothing (as_taken what (More c) is goes) (out_like c x o (record { offered = refl; finished = refl })) (ins_stay (ap (λ z. z.into) after))

  arrived : (pk : Packet) (what : Taken) → Arrives ends a pk what b → GoesOn does p (Some what) q → Outcome ends a p b q
  arrived pk what (takes (stores c end load last here piece wants is after)) goes = stored what c end load last here wants is (ap (λ z. z.into) after) (ap (λ z. z.out) after) goes
  arrived pk what (takes (holds c end load last here piece idle empty is after)) goes =
      nothing (as_taken what (Held c) is goes) (outs_stay (ap (λ z. z.out) after)) (in_like c (record (a.into c) { held = Some pk }) (ap (λ z. z.into) after) (record { wants = refl; stopped = refl; taken = refl }))
  arrived pk what (takes (advances c end now later here ack under is after)) goes = acked what c end later here is after goes
  arrived pk what (stray none is after) goes = halves_stay (ap (λ z. z.into) after) (ap (λ z. z.out) after) (as_taken what Stray is goes)

pub unqueued_halves : (x : Carrier) (l : ℕ) (rest : List Packet) (k : Token) → ((unqueued x l rest k).into ≡ x.into) × ((unqueued x l rest k).out ≡ x.out)
unqueued_halves x l rest (EndMark m) = (refl, refl)
unqueued_halves x l rest t = (refl, refl)

module _ (plan : Plan) (n : ℕ) (a b : Node Process) where
  abbrev Result : Type 0
  Result = Outcome (ends plan n) a.vcp.carrier a.process b.vcp.carrier b.process × (b.inner ≡ a.inner)

  same : b.vcp.carrier.into ≡ a.vcp.carrier.into → b.vcp.carrier.out ≡ a.vcp.carrier.out → b.process ≡ a.process → Outcome (ends plan n) a.vcp.carrier a.process b.vcp.carrier b.process
  same i o e = halves_stay (ends plan n) a.vcp.carrier b.vcp.carrier a.process b.process i o e

  passed : (l : ℕ) (taken : Option Taken) → links.Passes (body_limit plan) (ends plan n) a.vcp l taken b.vcp → GoesOn does a.process taken b.process → Outcome (ends plan n) a.vcp.carrier a.process b.vcp.carrier b.process
  passed l taken (passes_byte y rest front none within after) goes = same (ap (λ z. z.carrier.into) after) (ap (λ z. z.carrier.out) after) (subst (λ z. GoesOn does a.process z b.process) none goes)
  passed l taken (drops_byte y rest front none past after) goes = same (ap (λ z. z.carrier.into) after) (ap (λ z. z.carrier.out) after) (subst (λ z. GoesOn does a.process z b.process) none goes)
  passed l taken (passes_mark m rest what carrier front is arrives after) goes =
      subst (λ z. Outcome (ends plan n) a.vcp.carrier a.process z b.process) (sym (ap (λ z. z.carrier) after))
      (arrived (ends plan n) a.vcp.carrier carrier a.process b.process _ what arrives (subst (λ z. GoesOn does a.process z b.process) is goes))

  came : (l : ℕ) (k : Token) → links.Comes a.vcp l k b.vcp → b.process ≡ a.process → Outcome (ends plan n) a.vcp.carrier a.process b.vcp.carrier b.process
  came l k (links.due due after) e = same (ap (λ z. z.carrier.into) after) (ap (λ z. z.carrier.out) after) e
  came l k (links.not_due due after) e = same (ap (λ z. z.carrier.into) after) (ap (λ z. z.carrier.out) after) e

  pub outcome : (label : Label Act Token) → IsNoMove (act_of label) → NodeStep plan does n a label b → Result
  outcome (Own (Proc m)) none step = absurd none
  outcome (Own (Pass l)) none (taken, passes, goes, inner) = (passed l taken passes goes, inner)
  outcome (Takes (Take l word) w k) none (into, comes, rest) = (came l k comes rest.process, rest.inner)
  outcome (Puts (Put l) w k) none (out, sends, rest) =
      let u = unqueued_halves a.vcp.carrier l sends.rest k in
      (same (ap (λ z. z.carrier.into) sends.after ∙ u.0) (ap (λ z. z.carrier.out) sends.after ∙ u.1) rest.process, rest.inner)
  outcome (Puts (Fct l) w k) none (out, fct, sends, rest) = (same (ap (λ z. z.carrier.into) sends.after) (ap (λ z. z.carrier.out) sends.after) rest.process, rest.inner)
  outcome d none step = absurd step
