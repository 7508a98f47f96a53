-- A token that passes from a link's buffer: the process waits for what comes whole, and afterwards wherever its halves count on it.
use Rattle.std.proofs.Common.{◌≡◌, ◌≢◌, ℕ, Bool, true, false, List, [], ◌∷◌, ◌++◌, Option, Some, refl, sym, ap, ◌∙◌, subst}
use Rattle.std.specs.List.{Contains}
use Rattle.vc_packets.specs.declared.packet.Packet.{Packet}
use Rattle.vc_process.specs.ProcessStep.{Finishes, Receives}
use Rattle.vc_occam.specs.States.{Waiting, output, input, waiting}
use Rattle.vc_occam.specs.Laws.{IsOutputOn, IsInputOn}
use Rattle.vc_occam.specs.Sites.{OwnSites}
use Rattle.vc_occam.proofs.Sites.{doing_keeps}
use Rattle.vc_occam.proofs.StepWaits.{waits_after}
use Rattle.vc_vcp.specs.Carrier.{Carrier, End, Ends}
use Rattle.vc_vcp.specs.Links.{Vcp, Passes, passes_byte, drops_byte, passes_mark}
use Rattle.vc_vcp.specs.Steps.{Taken, Held, Stored, Complete, More, Finished, Stray, Arrives, takes, stray, stores, holds, advances, store, message, taken_by, acked_by, advance}
use Rattle.vc_packets.specs.Functions.{put}
use Rattle.vc_vcp.specs.VcpView.{seen, ends_of, IsKept}
use Rattle.vc_vcp.specs.State.{limit_of}
use Rattle.vc_network.specs.Plan.{Plan, ends}
use Rattle.vc_network.specs.Network.{GoesOn}
use Rattle.vc_actor.proofs.Halves.{Has, Wants, Sends, has_same, has_put, others}
use Rattle.vc_actor.specs.OfPlan.{IsNodeOf, InStep, AreInside}
use Rattle.vc_actor.specs.ActorView.{process_of, views_of}
use Rattle.vc_actor.specs.declared.node.Node.{Node}
use Rattle.vc_accepted.specs.Process.{Process, does, Goes}
use Rattle.vc_actor.specs.Private.Passes.{IsAwaited, MakesPass}

abbrev left : Process → List Waiting
left p = waiting p.state.rest

by_halves : (a : Carrier) (p : Process) → Has Wants input a.into (left p) → Has Sends output a.out (left p) → InStep a p
by_halves a p i o = record { inputs = i; outputs = o }

-- the process stays, and so do the halves
pub unmoved : (a b : Carrier) (p q : Process) → b.into ≡ a.into → b.out ≡ a.out → q ≡ p → InStep a p → InStep b q
unmoved a b p q i o e h =
    subst (InStep b) (sym e)
    (by_halves b p (has_same Wants input a.into b.into (left p) (left p) i h.inputs (λ j d k. k)) (has_same Sends output a.out b.out (left p) (left p) o h.outputs (λ j d k. k)))

not_output : (c j d : ℕ) → IsInputOn c (output j d) → ⊥
not_output c j d h = h

-- the last piece: the process has its message
completes : (a b : Carrier) (p q : Process) (c : ℕ) (end : End) (load : List ℕ) (m : List ℕ) → b.into ≡ put a.into c (store (a.into c) load true) → b.out ≡ a.out → Goes p (Receives c m) q → InStep a p → InStep b q
completes a b p q c end load m i o goes h =
    let w = waits_after p.state q.state (Receives c m) goes.comms goes.does in
    by_halves b q
    (has_put Wants input a.into b.into (left p) (left q) c (store (a.into c) load true) i h.inputs (λ t. absurd (cc)) (λ j d ne. others (IsInputOn c) (left p) (left q) w (input j d) ne))
    (has_same Sends output a.out b.out (left p) (left q) o h.outputs (λ j d. others (IsInputOn c) (left p) (left q) w (output j d) (not_output c j d)))

goes_on : (p q : Process) (t u : Taken) → t ≡ u → GoesOn does p (Some t) q → GoesOn does p (Some u) q
goes_on p q t u e h = subst (λ z. GoesOn does p (Some z) q) e h

stored : (a b : Carrier) (p q : Process) (what : Taken) (c : ℕ) (end : End) (load : List ℕ) (last : Bool) → (a.into c).wants ≡ true → what ≡ taken_by c (message (a.into c) load last) →
    b.into ≡ put a.into c (store (a.into c) load last) → b.out ≡ a.out → GoesOn does p (Some what) q → InStep a p → InStep b q
stored a b p q what c end load true wants is i o goes h = completes a b p q c end load ((a.into c).stored ++ load) i o (goes_on p q what (Complete c ((a.into c).stored ++ load)) is goes) h
stored a b p q what c end load false wants is i o goes h =
    let same : q ≡ p = goes_on p q what (Stored c) is goes in
    subst (InStep b) (sym same)
    (by_halves b p
    (has_put Wants input a.into b.into (left p) (left p) c (store (a.into c) load false) i h.inputs (λ t. h.inputs c wants) (λ j d ne k. k))
    (has_same Sends output a.out b.out (left p) (left p) o h.outputs (λ j d k. k)))

held : (a b : Carrier) (p q : Process) (c : ℕ) (pk : Packet) → b.into ≡ put a.into c (record (a.into c) { held = Some pk }) → b.out ≡ a.out → q ≡ p → InStep a p → InStep b q
held a b p q c pk i o same h =
    subst (InStep b) (sym same)
    (by_halves b p
    (has_put Wants input a.into b.into (left p) (left p) c (record (a.into c) { held = Some pk }) i h.inputs (λ t. h.inputs c t) (λ j d ne k. k))
    (has_same Sends output a.out b.out (left p) (left p) o h.outputs (λ j d k. k)))

not_input : (c j d : ℕ) → IsOutputOn c (input j d) → ⊥
not_input c j d h = h

acked : (a b : Carrier) (p q : Process) (what : Taken) (c : ℕ) (end : End) (now : List ℕ) (later : List (List ℕ)) → (a.out c).unacked ≡ now ∷ later → what ≡ acked_by c later →
    b ≡ advance a c end later → GoesOn does p (Some what) q → InStep a p → InStep b q
acked a b p q what c end now [] under is after goes h =
    let g : Goes p (Finishes c) q = goes_on p q what (Finished c) is goes in
    let w = waits_after p.state q.state (Finishes c) g.comms g.does in
    by_halves b q
    (has_same Wants input a.into b.into (left p) (left q) (ap (λ z. z.into) after) h.inputs (λ j d. others (IsOutputOn c) (left p) (left q) w (input j d) (not_input c j d)))
    (has_put Sends output a.out b.out (left p) (left q) c _ (ap (λ z. z.out) after) h.outputs (λ t. absurd (t refl)) (λ j d ne. others (IsOutputOn c) (left p) (left q) w (output j d) ne))
acked a b p q what c end now (d ∷ later) under is after goes h =
    let same : q ≡ p = goes_on p q what (More c) is goes in
    subst (InStep b) (sym same)
    (by_halves b p
    (has_same Wants input a.into b.into (left p) (left p) (ap (λ z. z.into) after) h.inputs (λ j e k. k))
    (has_put Sends output a.out b.out (left p) (left p) c _ (ap (λ z. z.out) after) h.outputs (λ t. h.outputs c (λ z. cons (sym under ∙ z))) (λ j e ne k. k)))
  where
    cons : now ∷ d ∷ later ≡ [] → ⊥
    cons e = absurd (cc)

arrived : (ends : Ends) (a b : Carrier) (pk : Packet) (what : Taken) (p q : Process) → Arrives ends a pk what b → GoesOn does p (Some what) q → InStep a p → InStep b q
arrived ends a b pk what p q (takes (stores c end load last here piece wants is after)) goes h = stored a b p q what c end load last wants is (ap (λ z. z.into) after) (ap (λ z. z.out) after) goes h
arrived ends a b pk what p q (takes (holds c end load last here piece idle empty is after)) goes h = held a b p q c pk (ap (λ z. z.into) after) (ap (λ z. z.out) after) (goes_on p q what (Held c) is goes) h
arrived ends a b pk what p q (takes (advances c end now later here ack under is after)) goes h = acked a b p q what c end now later under is after goes h
arrived ends a b pk what p q (stray none is after) goes h = unmoved a b p q (ap (λ z. z.into) after) (ap (λ z. z.out) after) (goes_on p q what Stray is goes) h

pub passed : (limit : ℕ) (ends : Ends) (old new : Vcp) (l : ℕ) (taken : Option Taken) (p q : Process) → Passes limit ends old l taken new → GoesOn does p taken q → InStep old.carrier p → InStep new.carrier q
passed limit ends old new l taken p q (passes_byte b rest front none within after) goes h =
    unmoved old.carrier new.carrier p q (ap (λ z. z.carrier.into) after) (ap (λ z. z.carrier.out) after) (subst (λ z. GoesOn does p z q) none goes) h
passed limit ends old new l taken p q (drops_byte b rest front none past after) goes h =
    unmoved old.carrier new.carrier p q (ap (λ z. z.carrier.into) after) (ap (λ z. z.carrier.out) after) (subst (λ z. GoesOn does p z q) none goes) h
passed limit ends old new l taken p q (passes_mark m rest what carrier front is arrives after) goes h =
    subst (λ z. InStep z q) (sym (ap (λ z. z.carrier) after)) (arrived ends old.carrier carrier _ what p q arrives (subst (λ z. GoesOn does p z q) is goes) h)

-- what comes whole is awaited
stored_awaited : (a : Carrier) (c : ℕ) (load : List ℕ) (last : Bool) (p : Process) → (i : ℕ) × Contains (left p) (input i c) → IsAwaited p (Some (taken_by c (message (a.into c) load last)))
stored_awaited a c load true p h = h
stored_awaited a c load false p h = tt

acked_awaited : (c : ℕ) (later : List (List ℕ)) (p : Process) → (i : ℕ) × Contains (left p) (output i c) → IsAwaited p (Some (acked_by c later))
acked_awaited c [] p h = h
acked_awaited c (d ∷ later) p h = tt

under_way : (now : List ℕ) (later xs : List (List ℕ)) → xs ≡ now ∷ later → xs ≢ []
under_way now later xs e f = let g : now ∷ later ≡ [] = sym e ∙ f in absurd (cc)

arrival_awaited : (ends : Ends) (a b : Carrier) (pk : Packet) (what : Taken) (p : Process) → Arrives ends a pk what b → InStep a p → IsAwaited p (Some what)
arrival_awaited ends a b pk what p (takes (stores c end load last here piece wants is after)) h = subst (λ z. IsAwaited p (Some z)) (sym is) (stored_awaited a c load last p (h.inputs c wants))
arrival_awaited ends a b pk what p (takes (holds c end load last here piece idle empty is after)) h = subst (λ z. IsAwaited p (Some z)) (sym is) tt
arrival_awaited ends a b pk what p (takes (advances c end now later here ack under is after)) h = subst (λ z. IsAwaited p (Some z)) (sym is) (acked_awaited c later p (h.outputs c (under_way now later (a.out c).unacked under)))
arrival_awaited ends a b pk what p (stray none is after) h = subst (λ z. IsAwaited p (Some z)) (sym is) tt

pub awaited : (limit : ℕ) (ends : Ends) (old new : Vcp) (l : ℕ) (taken : Option Taken) (p : Process) → Passes limit ends old l taken new → InStep old.carrier p → IsAwaited p taken
awaited limit ends old new l taken p (passes_byte b rest front none within after) h = subst (IsAwaited p) (sym none) tt
awaited limit ends old new l taken p (drops_byte b rest front none past after) h = subst (IsAwaited p) (sym none) tt
awaited limit ends old new l taken p (passes_mark m rest what carrier front is arrives after) h = subst (IsAwaited p) (sym is) (arrival_awaited ends old.carrier carrier _ what p arrives h)

-- where the process goes on, its sites stay its own
own_after : (p q : Process) (taken : Option Taken) → GoesOn does p taken q → OwnSites p.state.rest → OwnSites q.state.rest
own_after p q (Some (Complete c m)) goes own = doing_keeps p.state q.state (Receives c m) goes.comms goes.does own
own_after p q (Some (Finished c)) goes own = doing_keeps p.state q.state (Finishes c) goes.comms goes.does own
own_after p q o goes own = subst (λ z. OwnSites z.state.rest) (sym goes) own

-- the node's step, and that it stays one of the plan
pub makes_pass : (plan : Plan) (k : ℕ) (n u : Node) (l : ℕ) (taken : Option Taken) → IsNodeOf plan k n → Passes (limit_of n.vcp.ins) (ends_of n.vcp) (seen n.vcp) l taken (seen u.vcp) →
    IsKept n.vcp u.vcp → u.inside ≡ n.inside → (IsAwaited (process_of n.process) taken → GoesOn does (process_of n.process) taken (process_of u.process)) → MakesPass plan k n l u
makes_pass plan k n u l taken is passes kept inside goes =
    let go = goes (awaited (limit_of n.vcp.ins) (ends_of n.vcp) (seen n.vcp) (seen u.vcp) l taken (process_of n.process) passes is.in_step) in
    record {
      step = (taken, subst (λ z. Passes z (ends plan k) (seen n.vcp) l taken (seen u.vcp)) is.limit (subst (λ z. Passes (limit_of n.vcp.ins) z (seen n.vcp) l taken (seen u.vcp)) is.ends passes), go, ap views_of inside);
      kept = record {
        ends = kept.ends ∙ is.ends;
        limit = kept.limit ∙ is.limit;
        inside = subst (AreInside plan k) (sym inside) is.inside;
        own = own_after (process_of n.process) (process_of u.process) taken go is.own;
        in_step = passed (limit_of n.vcp.ins) (ends_of n.vcp) (seen n.vcp) (seen u.vcp) l taken (process_of n.process) (process_of u.process) passes go is.in_step;
      };
    }
