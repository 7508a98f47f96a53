-- What a process without parts does.
use Rattle.std.proofs.Common.{◌≡◌, ℕ, true, false, Bool, refl, sym, subst, List, [], length, Some, None, ◌<◌}
use Rattle.vc_process.specs.declared.datum.Datum.{Datum}
use Rattle.vc_occam.specs.declared.outcome.Outcome.TheVariants as outcome
use Rattle.vc_occam.specs.SiteActions as action
use Rattle.vc_occam.specs.Private.SiteSteps.{Actions, StepAt, message_at, one, step_at}
use Rattle.vc_process.specs.Messages.{received}
use Rattle.vc_process.specs.Syntax.{Given}
use Rattle.vc_process.specs.Terms.{store}
use Rattle.vc_process.specs.Values.{Store, datum_of}
use Rattle.vc_occam.specs.Traces.{set}
use Rattle.vc_occam.specs.Remains.{Done, Getting, does_assign, does_input, does_offer, faults_assign, faults_out, gets, waits_input}
use Rattle.vc_occam.specs.Frames.{assign, receive, rest_of, send}
use Rattle.vc_occam.specs.Private.Frames.{Able, Acted, CanGo, Did, Went, unstopped}
use Rattle.vc_occam.proofs.Places.{itself}

-- an assignment has its variable
pub assigned_there : (step : StepAt) (i v : ℕ) (a : Given) (vars : List Datum) → CanGo step (unstopped i (assign v a)) vars → v < length vars
assigned_there step i v a vars c = c.variables v (itself v)

-- it assigns its value, or that is a fault
pub assigned : (i v : ℕ) (a : Given) (e : Store) (x : Datum) (f : Store) → datum_of a e ≡ Some x → f ≡ set e v x → Acted i (assign v a) e (Some outcome.Ended) (assign v a) f
assigned i v a e x f h g = subst (λ (s : Store). Acted i (assign v a) e (Some outcome.Ended) (assign v a) s) (sym g) (record { did = ([], does_assign h); plan = refl; sound = refl; outcome = refl })

pub assigned_none : (i v : ℕ) (a : Given) (e : Store) → datum_of a e ≡ None → Acted i (assign v a) e None (assign v a) e
assigned_none i v a e h = (refl, refl, ([], faults_assign h))

-- an output whose value is a fault
pub output_faulted : (i c : ℕ) (a : Given) (b : Bool) (e : Store) (s : ℕ) → Able (rest_of i (send c a b)) e s action.Quiet → Acted i (send c a b) e None (send c a b) e
output_faulted i c a true e s (ks, q, f, st) = elim st [ ]
output_faulted i c a false e s (ks, q, f, faults_out g) = (refl, refl, (ks, faults_out g))

-- an output begins
offer_did : (i c : ℕ) (a : Given) (b : Bool) (e : Store) (s d : ℕ) → Able (rest_of i (send c a b)) e s (action.Offer d) → Did (rest_of i (send c a b)) e s (one (action.Offer d)) (rest_of i (send c a true)) e
offer_did i c a true e s d (ks, q, f, st) = elim st [ ]
offer_did i c a false e s d (ks, q, f, does_offer g) = (ks, does_offer g)

pub output_offered : (s d i c : ℕ) (a : Given) (b : Bool) (vars : List Datum) → CanGo (step_at s (one (action.Offer d))) (unstopped i (send c a b)) vars → Went (step_at s (one (action.Offer d))) (unstopped i (send c a b)) (store vars) outcome.Nothing (unstopped i (send c a true)) (store vars)
output_offered s d i c a b vars g = record { did = offer_did i c a b (store vars) s d g.able; plan = refl; sound = refl; outcome = refl }

-- an input has its variable
pub received_there : (step : StepAt) (i c v : ℕ) (b : Bool) (vars : List Datum) → CanGo step (unstopped i (receive c v b)) vars → v < length vars
received_there step i c v b vars g = g.variables v (itself v)

-- with its message an input has ended
want_did : (i c v : ℕ) (b : Bool) (e : Store) (s d : ℕ) (m : List ℕ) → Able (rest_of i (receive c v b)) e s (action.Want d (Some m)) → Did (rest_of i (receive c v b)) e s (one (action.Want d (Some m))) Done (set e v (received (e v) m))
want_did i c v true e s d m (ks, q, f, st) = elim st [ ]
want_did i c v false e s d m (ks, q, f, does_input h) = (_, does_input refl)

message_did : (i c v : ℕ) (b : Bool) (e : Store) (s : ℕ) (m : List ℕ) → Able (rest_of i (receive c v b)) e s (action.Message m) → Did (rest_of i (receive c v b)) e s (one (action.Message m)) Done (set e v (received (e v) m))
message_did i c v true e s m (ks, q, f, gets h) = (_, gets refl)
message_did i c v false e s m (ks, q, f, st) = elim st [ ]

got : (s : ℕ) (d : Actions) (i c v : ℕ) (b : Bool) (e : Store) (x : Datum) (f : Store) → Did (rest_of i (receive c v b)) e s d Done (set e v x) → f ≡ set e v x → Went (step_at s d) (unstopped i (receive c v b)) e outcome.Ended (unstopped i (receive c v b)) f
got s d i c v b e x f did is = subst (λ (g : Store). Went (step_at s d) (unstopped i (receive c v b)) e outcome.Ended (unstopped i (receive c v b)) g) (sym is) (record { did = did; plan = refl; sound = refl; outcome = refl })

pub want_got : (s d i c v : ℕ) (b : Bool) (vars : List Datum) (m : List ℕ) (f : Store) → CanGo (step_at s (one (action.Want d (Some m)))) (unstopped i (receive c v b)) vars → f ≡ set (store vars) v (received (store vars v) m) →
    Went (step_at s (one (action.Want d (Some m)))) (unstopped i (receive c v b)) (store vars) outcome.Ended (unstopped i (receive c v b)) f
want_got s d i c v b vars m f g = got s (one (action.Want d (Some m))) i c v b (store vars) (received (store vars v) m) f (want_did i c v b (store vars) s d m g.able)

pub input_got : (s i c v : ℕ) (b : Bool) (vars : List Datum) (m : List ℕ) (f : Store) → CanGo (message_at s m) (unstopped i (receive c v b)) vars → f ≡ set (store vars) v (received (store vars v) m) →
    Went (message_at s m) (unstopped i (receive c v b)) (store vars) outcome.Ended (unstopped i (receive c v b)) f
input_got s i c v b vars m f g = got s (one (action.Message m)) i c v b (store vars) (received (store vars v) m) f (message_did i c v b (store vars) s m g.able)

-- without it an input waits
wait_did : (i c v : ℕ) (b : Bool) (e : Store) (s d : ℕ) → Able (rest_of i (receive c v b)) e s (action.Want d None) → Did (rest_of i (receive c v b)) e s (one (action.Want d None)) (Getting i c v) e
wait_did i c v true e s d (ks, q, f, st) = elim st [ ]
wait_did i c v false e s d (ks, q, f, waits_input) = ([], waits_input)

pub want_waits : (s d i c v : ℕ) (b : Bool) (vars : List Datum) → CanGo (step_at s (one (action.Want d None))) (unstopped i (receive c v b)) vars →
    Went (step_at s (one (action.Want d None))) (unstopped i (receive c v b)) (store vars) outcome.Nothing (unstopped i (receive c v true)) (store vars)
want_waits s d i c v b vars g = record { did = wait_did i c v b (store vars) s d g.able; plan = refl; sound = refl; outcome = refl }
