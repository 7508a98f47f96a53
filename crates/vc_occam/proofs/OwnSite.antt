-- What a frame's own site may do.
use Rattle.std.proofs.Common.{◌≡◌, ℕ, true, false, Bool, refl, sym, subst, List, Option, Some, None}
use Rattle.std.specs.Prelude.{slice_get}
use Rattle.vc_process.specs.Syntax.{Given, Proc, Procs, STOP}
use Rattle.vc_process.specs.Terms.{given}
use Rattle.vc_process.specs.Values.{Store}
use Rattle.vc_occam.specs.declared.frame.Alt.{Alt}
use Rattle.vc_occam.specs.declared.frame.Choice.{Choice}
use Rattle.vc_occam.specs.declared.frame.Choice.TheVariants.{Open, Taken, Within}
use Rattle.vc_occam.specs.declared.frame.Construct.{Construct}
use Rattle.vc_occam.specs.declared.frame.Construct.TheVariants as run
use Rattle.vc_occam.specs.declared.frame.Frame.{Frame}
use Rattle.vc_occam.specs.declared.frame.Frame.TheViews.{out-Frame}
use Rattle.vc_occam.specs.declared.frame.Guard.{Guard}
use Rattle.vc_occam.specs.declared.frame.Input.{Input}
use Rattle.vc_occam.specs.declared.frame.Output.{Output}
use Rattle.vc_occam.specs.SiteActions.{SiteAction}
use Rattle.vc_occam.specs.SiteActions as action
use Rattle.vc_occam.specs.Frames.{View, Shape, branching, counting, guarding, is_at_itself, looping, plan_of, receive, rest_of, send, taken_rest, view, view_of}
use Rattle.vc_occam.specs.Private.Frames.{Able, Did, IsAtItself, branching_shape, counting_shape, looping_shape, seen_guards, shape}
use Rattle.vc_occam.specs.Private.SiteSteps.{one, whole_output}
use Rattle.vc_occam.specs.Remains.{Rest, Done, Stopped, Fresh, Finishing, Getting, Then, does_skip, does_empty_seq, does_empty_par, does_assign, faults_assign, faults_out, does_if, does_turn, does_leave, faults_while, does_count, does_count_none, faults_count, does_offer, does_finish, does_input, waits_input, gets, does_stop, does_choose, waits_choose, in_then}
use Rattle.vc_occam.specs.Sites.{site}
use Rattle.vc_occam.proofs.AtItself.{fresh_shape, is_waiter}
use Rattle.vc_occam.proofs.Places.{plan_site}
use Rattle.vc_occam.proofs.Views.{view_out}

-- what may remain of a frame with this site that is at itself
pub data OwnRest : ℕ → Rest → Type 0 where
  fresh : {i : ℕ} {p : Proc} → site p ≡ i → OwnRest i (Fresh p)
  finishing : {i c : ℕ} → OwnRest i (Finishing i c)
  getting : {i c v : ℕ} → OwnRest i (Getting i c v)
  taken : {i c v : ℕ} {ps : Procs} → OwnRest i (Then (Getting i c v) ps)
  halted : {i j : ℕ} → OwnRest i (Fresh (STOP j))
  stopped : {i : ℕ} → OwnRest i (Stopped i)

taken_is_own : (i : ℕ) (o : Option (Guard View)) → OwnRest i (taken_rest i o)
taken_is_own i None = halted
taken_is_own i (Some g) = taken

rest_is_own : (i : ℕ) (s : Shape) → is_at_itself s ≡ true → OwnRest i (rest_of i s)
rest_is_own i (send c a true) h = finishing
rest_is_own i (send c a false) h = fresh refl
rest_is_own i (receive c v true) h = getting
rest_is_own i (receive c v false) h = fresh refl
rest_is_own i (guarding gs Open) h = fresh refl
rest_is_own i (guarding gs (Taken k)) h = taken_is_own i (slice_get gs k)
rest_is_own i (guarding gs (Within k)) h = absurd cc
rest_is_own i s h = subst (OwnRest i) (sym (fresh_shape i s h refl)) (fresh (plan_site i s))

view_is_own : (i : ℕ) (b : Bool) (s : Shape) → is_at_itself s ≡ true → OwnRest i (view_of i b s).rest
view_is_own i true s h = stopped
view_is_own i false s h = rest_is_own i s h

pub frame_is_own : (f : Frame) → IsAtItself f → OwnRest (out-Frame f).site (view f).rest
frame_is_own f h = let o = out-Frame f in subst (λ (v : View). OwnRest o.site v.rest) (sym (view_out f)) (view_is_own o.site o.stopped (shape o.construct) h)

-- the site of the frame does it
pub own_does : (i : ℕ) (r : Rest) (e : Store) (s : ℕ) (d : SiteAction) → OwnRest i r → Able r e s d → s ≡ i
own_does i r e s d (fresh h) (ks, q, f, does_skip) = h
own_does i r e s d (fresh h) (ks, q, f, st) = h
own_does i r e s d finishing (ks, q, f, does_finish) = refl
own_does i r e s d getting (ks, q, f, gets g) = refl
own_does i r e s d taken (ks, q, f, in_then (gets g)) = refl
own_does i r e s d halted (ks, q, f, st) = elim st [ ]
own_does i r e s d stopped (ks, q, f, st) = elim st [ ]

-- an output is finished, or begins and is finished, or a channel is stopped: nothing remains
pub finish_did : (i : ℕ) (r : Rest) (e : Store) (s : ℕ) → OwnRest i r → Able r e s action.Finish → Did r e s (one action.Finish) Done e
finish_did i r e s finishing (ks, q, f, does_finish) = (ks, does_finish)
finish_did i r e s taken (ks, q, f, in_then st) = elim st [ ]
finish_did i r e s x (ks, q, f, st) = elim st [ ]

pub whole_did : (i : ℕ) (r : Rest) (e : Store) (s c : ℕ) → OwnRest i r → Able r e s (action.Offer c) → Did r e s (whole_output c) Done e
whole_did i r e s c (fresh h) (ks, q, f, does_offer g) = (ks, _, _, _, does_offer g, does_finish)
whole_did i r e s c taken (ks, q, f, in_then st) = elim st [ ]
whole_did i r e s c x (ks, q, f, st) = elim st [ ]

pub stop_did : (i : ℕ) (r : Rest) (e : Store) (s c : ℕ) → OwnRest i r → Able r e s (action.StopChannel c) → Did r e s (one (action.StopChannel c)) Done e
stop_did i r e s c (fresh h) (ks, q, f, does_stop) = (ks, does_stop)
stop_did i r e s c taken (ks, q, f, in_then st) = elim st [ ]
stop_did i r e s c x (ks, q, f, st) = elim st [ ]

-- the constructs that communicate
pub data Doer : SiteAction → Construct Frame → Type 0 where
  quiet : {k : Construct Frame} → Doer action.Quiet k
  finishes : {k : Construct Frame} → Doer action.Finish k
  stops : {c : ℕ} {k : Construct Frame} → Doer (action.StopChannel c) k
  offers : {c : ℕ} {o : Output} → Doer (action.Offer c) (run.Send o)
  wants : {c : ℕ} {m : Option (List ℕ)} {i : Input} → Doer (action.Want c m) (run.Receive i)
  chooses : {k c : ℕ} {m : Option (List ℕ)} {a : Alt Frame} → Doer (action.Choose k c m) (run.Alt a)
  gets_input : {m : List ℕ} {i : Input} → Doer (action.Message m) (run.Receive i)
  gets_guard : {m : List ℕ} {a : Alt Frame} → Doer (action.Message m) (run.Alt a)

send_doer : (i c : ℕ) (a : Given) (b : Bool) (o : Output) (e : Store) (s : ℕ) (d : SiteAction) → Able (rest_of i (send c a b)) e s d → Doer d (run.Send o)
send_doer i c a true o e s d (ks, q, f, does_finish) = finishes
send_doer i c a false o e s d (ks, q, f, does_offer g) = offers
send_doer i c a false o e s d (ks, q, f, faults_out g) = quiet

receive_doer : (i c v : ℕ) (b : Bool) (n : Input) (e : Store) (s : ℕ) (d : SiteAction) → Able (rest_of i (receive c v b)) e s d → Doer d (run.Receive n)
receive_doer i c v true n e s d (ks, q, f, gets g) = gets_input
receive_doer i c v false n e s d (ks, q, f, does_input g) = wants
receive_doer i c v false n e s d (ks, q, f, waits_input) = wants

taken_doer : (i : ℕ) (o : Option (Guard View)) (a : Alt Frame) (e : Store) (s : ℕ) (d : SiteAction) → Able (taken_rest i o) e s d → Doer d (run.Alt a)
taken_doer i None a e s d (ks, q, f, st) = elim st [ ]
taken_doer i (Some g) a e s d (ks, q, f, in_then (gets h)) = gets_guard

alt_doer : (i : ℕ) (gs : List (Guard View)) (c : Choice) (a : Alt Frame) (e : Store) (s : ℕ) (d : SiteAction) → is_at_itself (guarding gs c) ≡ true → Able (rest_of i (guarding gs c)) e s d → Doer d (run.Alt a)
alt_doer i gs Open a e s d h (ks, q, f, does_choose dec at holds g) = chooses
alt_doer i gs Open a e s d h (ks, q, f, waits_choose dec at holds) = chooses
alt_doer i gs (Taken k) a e s d h can = taken_doer i (slice_get gs k) a e s d can
alt_doer i gs (Within k) a e s d h can = absurd cc

-- an IF, a WHILE or a replicated SEQ that is at itself begins
abbrev has_bodies : Shape → Bool
has_bodies (branching bs t) = true
has_bodies (looping b v t) = true
has_bodies (counting x a n v t) = true
has_bodies s = false

begun_doer : (i : ℕ) (t : Shape) (k : Construct Frame) (e : Store) (s : ℕ) (d : SiteAction) → has_bodies t ≡ true → Able (Fresh (plan_of i t)) e s d → Doer d k
begun_doer i (branching bs t) k e s d h (ks, q, f, does_if) = quiet
begun_doer i (looping b v t) k e s d h (ks, q, f, does_turn g) = quiet
begun_doer i (looping b v t) k e s d h (ks, q, f, does_leave g) = quiet
begun_doer i (looping b v t) k e s d h (ks, q, f, faults_while g) = quiet
begun_doer i (counting x a n v t) k e s d h (ks, q, f, does_count g) = quiet
begun_doer i (counting x a n v t) k e s d h (ks, q, f, does_count_none g) = quiet
begun_doer i (counting x a n v t) k e s d h (ks, q, f, faults_count g) = quiet
begun_doer i t k e s d h can = absurd cc

begins : (i : ℕ) (t : Shape) (e : Store) (s : ℕ) (d : SiteAction) → is_at_itself t ≡ true → is_waiter t ≡ false → Able (rest_of i t) e s d → Able (Fresh (plan_of i t)) e s d
begins i t e s d h q = subst (λ (r : Rest). Able r e s d) (fresh_shape i t h q)

doer : (i : ℕ) (k : Construct Frame) (e : Store) (s : ℕ) (d : SiteAction) → is_at_itself (shape k) ≡ true → Able (rest_of i (shape k)) e s d → Doer d k
doer i run.Skip e s d h (ks, q, f, does_skip) = quiet
doer i run.EmptySeq e s d h (ks, q, f, does_empty_seq) = quiet
doer i run.EmptyPar e s d h (ks, q, f, does_empty_par) = quiet
doer i run.Stop e s d h (ks, q, f, st) = elim st [ ]
doer i (run.Set a) e s d h (ks, q, f, does_assign g) = quiet
doer i (run.Set a) e s d h (ks, q, f, faults_assign g) = quiet
doer i (run.Send o) e s d h can = send_doer i o.chan (given o.value) o.begun o e s d can
doer i (run.Receive n) e s d h can = receive_doer i n.chan n.var n.begun n e s d can
doer i (run.Stopch c) e s d h (ks, q, f, does_stop) = stops
doer i (run.Seq x) e s d h can = absurd cc
doer i (run.Par x) e s d h can = absurd cc
doer i (run.If x) e s d h can = begun_doer i (branching_shape x) (run.If x) e s d refl (begins i (branching_shape x) e s d h refl can)
doer i (run.While x) e s d h can = begun_doer i (looping_shape x) (run.While x) e s d refl (begins i (looping_shape x) e s d h refl can)
doer i (run.Count x) e s d h can = begun_doer i (counting_shape x) (run.Count x) e s d refl (begins i (counting_shape x) e s d h refl can)
doer i (run.Alt a) e s d h can = alt_doer i (seen_guards a) a.choice a e s d h can

-- no other construct offers, wants, chooses or gets a message
pub no_offer : (i : ℕ) (k : Construct Frame) (e : Store) (s c : ℕ) → is_at_itself (shape k) ≡ true → Able (rest_of i (shape k)) e s (action.Offer c) → ((x : _) → k ≡ run.Send x → ⊥) → ⊥
no_offer i k e s c h can = by k (doer i k e s (action.Offer c) h can)
  where
    by : (k : Construct Frame) → Doer (action.Offer c) k → ((x : _) → k ≡ run.Send x → ⊥) → ⊥
    by k offers n = n _ refl

pub no_want : (i : ℕ) (k : Construct Frame) (e : Store) (s c : ℕ) (m : Option (List ℕ)) → is_at_itself (shape k) ≡ true → Able (rest_of i (shape k)) e s (action.Want c m) → ((x : _) → k ≡ run.Receive x → ⊥) → ⊥
no_want i k e s c m h can = by k (doer i k e s (action.Want c m) h can)
  where
    by : (k : Construct Frame) → Doer (action.Want c m) k → ((x : _) → k ≡ run.Receive x → ⊥) → ⊥
    by k wants n = n _ refl

pub no_choice : (i : ℕ) (k : Construct Frame) (e : Store) (s j c : ℕ) (m : Option (List ℕ)) → is_at_itself (shape k) ≡ true → Able (rest_of i (shape k)) e s (action.Choose j c m) → ((x : _) → k ≡ run.Alt x → ⊥) → ⊥
no_choice i k e s j c m h can = by k (doer i k e s (action.Choose j c m) h can)
  where
    by : (k : Construct Frame) → Doer (action.Choose j c m) k → ((x : _) → k ≡ run.Alt x → ⊥) → ⊥
    by k chooses n = n _ refl

pub no_message : (i : ℕ) (k : Construct Frame) (e : Store) (s : ℕ) (m : List ℕ) → is_at_itself (shape k) ≡ true → Able (rest_of i (shape k)) e s (action.Message m) → ((x : _) → k ≡ run.Receive x → ⊥) → ((x : _) → k ≡ run.Alt x → ⊥) → ⊥
no_message i k e s m h can = by k (doer i k e s (action.Message m) h can)
  where
    by : (k : Construct Frame) → Doer (action.Message m) k → ((x : _) → k ≡ run.Receive x → ⊥) → ((x : _) → k ≡ run.Alt x → ⊥) → ⊥
    by k gets_input n a = n _ refl
    by k gets_guard n a = a _ refl
