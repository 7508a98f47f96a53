-- What a frame remains whose own site is at work.
use Rattle.std.proofs.Common.{◌≡◌, ℕ, ◌<◌, Bool, true, false, ◌&&◌, refl, ap, sym, ◌∙◌, subst, List, [], ◌∷◌, length, map, Option, Some, None, get_or, arith, if◌then◌else◌}
use Rattle.std.proofs.lemmas.Bool.{and_parts}
use Rattle.std.proofs.lemmas.Bool.Decides.{nat_tests}
use Rattle.std.proofs.lemmas.List.{length-map}
use Rattle.std.specs.Prelude.{◌==◌, nat_lt, slice_get}
use Rattle.vc_occam.specs.declared.blocked.Blocked.TheVariants as at
use Rattle.vc_occam.specs.declared.frame.Alt.{Alt}
use Rattle.vc_occam.specs.declared.frame.Choice.{Choice}
use Rattle.vc_occam.specs.declared.frame.Choice.TheVariants.{Open, Taken, Within}
use Rattle.vc_occam.specs.declared.frame.Construct.{Construct}
use Rattle.vc_occam.specs.declared.frame.Construct.TheVariants as run
use Rattle.vc_occam.specs.declared.frame.Frame.{Frame}
use Rattle.vc_occam.specs.declared.frame.Frame.TheViews.{out-Frame}
use Rattle.vc_occam.specs.declared.frame.Guard.{Guard}
use Rattle.vc_occam.specs.declared.moves.Move.TheVariants as move
use Rattle.vc_process.specs.Syntax.{ALT, Given}
use Rattle.vc_process.specs.Values.{Store, assigned_bytes, datum_of}
use Rattle.vc_occam.specs.BlockedParts.{blocked}
use Rattle.vc_occam.specs.First.{own}
use Rattle.vc_occam.specs.Frames.{View, Shape, stop, assign, send, receive, stop_chan, seq, par, branching, looping, counting, guarding, all_sound, guarded, guards_of, has_guard, is_at_itself, is_sound, plan_of, rest_of, taken_rest, view, view_of}
use Rattle.vc_occam.specs.Private.Frames.{alt_shape, assigned_at, goes_alone, is_open_alt, seen_guard, shape}
use Rattle.vc_occam.specs.Remains.{Rest, Fresh, Stopped}
use Rattle.vc_occam.specs.States.{output_at, waiting}
use Rattle.vc_occam.proofs.Views.{map_get, view_out}

pub sound_parts : (i : ℕ) (stopped : Bool) (s : Shape) → (view_of i stopped s).sound ≡ true → is_sound s ≡ true
sound_parts i true s h = (and_parts (is_at_itself s) (is_sound s) h).1
sound_parts i false s h = h

stopped_itself : (i : ℕ) (s : Shape) (stopped : Bool) → stopped ≡ true → (view_of i stopped s).sound ≡ true → is_at_itself s ≡ true
stopped_itself i s true e h = (and_parts (is_at_itself s) (is_sound s) h).0
stopped_itself i s false e h = absurd cc

-- a frame that can be is made of parts that can be
pub frame_sound : (f : Frame) → (view f).sound ≡ true → is_sound (shape (out-Frame f).construct) ≡ true
frame_sound f h =
    let o = out-Frame f in
    sound_parts o.site o.stopped (shape o.construct) (subst (λ (v : View). v.sound ≡ true) (view_out f) h)

-- what a fault has stopped remains there
pub stopped_rest : (f : Frame) → (out-Frame f).stopped ≡ true → (view f).rest ≡ Stopped (out-Frame f).site
stopped_rest f h =
    let o = out-Frame f in
    ap (λ (v : View). v.rest) (view_out f) ∙ ap (λ (b : Bool). (view_of o.site b (shape o.construct)).rest) h

-- and the rest of another is that of its construct
pub shown_rest : (f : Frame) (c : Construct Frame) → (out-Frame f).stopped ≡ false → (out-Frame f).construct ≡ c → (view f).rest ≡ rest_of (out-Frame f).site (shape c)
shown_rest f c h e =
    let o = out-Frame f in
    ap (λ (v : View). v.rest) (view_out f) ∙ ap (λ (b : Bool). (view_of o.site b (shape o.construct)).rest) h ∙ ap (λ (d : Construct Frame). rest_of o.site (shape d)) e

-- a frame that goes on at its parts has not stopped
pub goes_on : (f : Frame) (c : Construct Frame) → (view f).sound ≡ true → (out-Frame f).construct ≡ c → is_at_itself (shape c) ≡ false → (out-Frame f).stopped ≡ false
goes_on f c h e n = on (out-Frame f).stopped refl
  where
    on : (b : Bool) → (out-Frame f).stopped ≡ b → b ≡ false
    on false q = refl
    on true q =
        let o = out-Frame f in
        let a = stopped_itself o.site (shape o.construct) o.stopped q (subst (λ (v : View). v.sound ≡ true) (view_out f) h) in
        let b : is_at_itself (shape c) ≡ true = subst (λ (d : Construct Frame). is_at_itself (shape d) ≡ true) e a in
        absurd (let z : true ≡ false = sym b ∙ n in cc)

alone_itself : (c : Construct Frame) → ((p : _) → c ≡ run.Par p → ⊥) → goes_alone (shape c) ≡ true → is_at_itself (shape c) ≡ true
alone_itself (run.Par p) n h = absurd (n p refl)
alone_itself c n h = h

-- what is no PAR and goes on at no part alone is at itself
pub at_itself : (f : Frame) → ((p : _) → (out-Frame f).construct ≡ run.Par p → ⊥) → goes_alone (shape (out-Frame f).construct) ≡ true → is_at_itself (shape (out-Frame f).construct) ≡ true
at_itself f n h = alone_itself (out-Frame f).construct n h

-- what keeps whether it waits
abbrev pub is_waiter : Shape → Bool
is_waiter (send c a b) = true
is_waiter (receive c v b) = true
is_waiter (guarding gs c) = true
is_waiter s = false

-- any other that is at itself hasn't begun
pub fresh_shape : (i : ℕ) (s : Shape) → is_at_itself s ≡ true → is_waiter s ≡ false → rest_of i s ≡ Fresh (plan_of i s)
fresh_shape i (send c a b) h q = absurd cc
fresh_shape i (receive c v b) h q = absurd cc
fresh_shape i (seq vs k) h q = absurd cc
fresh_shape i (par ts) h q = absurd cc
fresh_shape i (branching bs (Some k)) h q = absurd cc
fresh_shape i (looping b v true) h q = absurd cc
fresh_shape i (counting x a n v (Some t)) h q = absurd cc
fresh_shape i (guarding gs c) h q = absurd cc
fresh_shape i s h q = refl

-- what begins with a quiet step
abbrev is_quiet : Shape → Bool
is_quiet stop = false
is_quiet (send c a b) = false
is_quiet (receive c v b) = false
is_quiet (stop_chan c) = false
is_quiet (guarding gs c) = false
is_quiet s = true

pub quiet_shape : (i : ℕ) (s : Shape) (e : Store) → is_at_itself s ≡ true → is_quiet s ≡ true → own (rest_of i s) e ≡ move.Quiet i ∷ []
quiet_shape i stop e h q = absurd cc
quiet_shape i (send c a b) e h q = absurd cc
quiet_shape i (receive c v b) e h q = absurd cc
quiet_shape i (stop_chan c) e h q = absurd cc
quiet_shape i (seq vs k) e h q = absurd cc
quiet_shape i (par ts) e h q = absurd cc
quiet_shape i (guarding gs c) e h q = absurd cc
quiet_shape i s e h q = ap (λ (r : Rest). own r e) (fresh_shape i s h refl)

quiet_construct : (c : Construct Frame) → (c ≡ run.Stop → ⊥) → ((x : _) → c ≡ run.Send x → ⊥) → ((x : _) → c ≡ run.Receive x → ⊥) → ((x : _) → c ≡ run.Stopch x → ⊥) → ((x : _) → c ≡ run.Alt x → ⊥) → is_quiet (shape c) ≡ true
quiet_construct run.Stop s o n d a = absurd (s refl)
quiet_construct (run.Send x) s o n d a = absurd (o x refl)
quiet_construct (run.Receive x) s o n d a = absurd (n x refl)
quiet_construct (run.Stopch x) s o n d a = absurd (d x refl)
quiet_construct (run.Alt x) s o n d a = absurd (a x refl)
quiet_construct c s o n d a = refl

pub quiet_move : (i : ℕ) (c : Construct Frame) (e : Store) → is_at_itself (shape c) ≡ true → (c ≡ run.Stop → ⊥) → ((x : _) → c ≡ run.Send x → ⊥) → ((x : _) → c ≡ run.Receive x → ⊥) → ((x : _) → c ≡ run.Stopch x → ⊥) → ((x : _) → c ≡ run.Alt x → ⊥) →
    own (rest_of i (shape c)) e ≡ move.Quiet i ∷ []
quiet_move i c e h s o n d a = quiet_shape i (shape c) e h (quiet_construct c s o n d a)

wait_shape : (i : ℕ) (s : Shape) → is_at_itself s ≡ true → is_waiter s ≡ false → waiting (rest_of i s) ≡ []
wait_shape i s h q = ap waiting (fresh_shape i s h q)

wait_construct : (c : Construct Frame) → ((x : _) → c ≡ run.Send x → ⊥) → ((x : _) → c ≡ run.Receive x → ⊥) → ((x : _) → c ≡ run.Alt x → ⊥) → is_waiter (shape c) ≡ false
wait_construct (run.Send x) o n a = absurd (o x refl)
wait_construct (run.Receive x) o n a = absurd (n x refl)
wait_construct (run.Alt x) o n a = absurd (a x refl)
wait_construct c o n a = refl

pub no_wait : (i : ℕ) (c : Construct Frame) → is_at_itself (shape c) ≡ true → ((x : _) → c ≡ run.Send x → ⊥) → ((x : _) → c ≡ run.Receive x → ⊥) → ((x : _) → c ≡ run.Alt x → ⊥) → waiting (rest_of i (shape c)) ≡ []
no_wait i c h o n a = wait_shape i (shape c) h (wait_construct c o n a)

-- what blocks
abbrev is_blocker : Shape → Bool
is_blocker stop = true
is_blocker (send c a b) = true
is_blocker (receive c v b) = true
is_blocker (guarding gs c) = true
is_blocker s = false

block_shape : (i : ℕ) (s : Shape) (e : Store) → is_at_itself s ≡ true → is_blocker s ≡ false → blocked (rest_of i s) e ≡ []
block_shape i stop e h q = absurd cc
block_shape i (send c a b) e h q = absurd cc
block_shape i (receive c v b) e h q = absurd cc
block_shape i (seq vs k) e h q = absurd cc
block_shape i (par ts) e h q = absurd cc
block_shape i (guarding gs c) e h q = absurd cc
block_shape i s e h q = ap (λ (r : Rest). blocked r e) (fresh_shape i s h refl)

block_construct : (c : Construct Frame) → (c ≡ run.Stop → ⊥) → ((x : _) → c ≡ run.Send x → ⊥) → ((x : _) → c ≡ run.Receive x → ⊥) → ((x : _) → c ≡ run.Alt x → ⊥) → is_blocker (shape c) ≡ false
block_construct run.Stop s o n a = absurd (s refl)
block_construct (run.Send x) s o n a = absurd (o x refl)
block_construct (run.Receive x) s o n a = absurd (n x refl)
block_construct (run.Alt x) s o n a = absurd (a x refl)
block_construct c s o n a = refl

pub no_block : (i : ℕ) (c : Construct Frame) (e : Store) → is_at_itself (shape c) ≡ true → (c ≡ run.Stop → ⊥) → ((x : _) → c ≡ run.Send x → ⊥) → ((x : _) → c ≡ run.Receive x → ⊥) → ((x : _) → c ≡ run.Alt x → ⊥) → blocked (rest_of i (shape c)) e ≡ []
no_block i c e h s o n a = block_shape i (shape c) e h (block_construct c s o n a)

-- an output, begun or not, and an input
pub received_block : (i c v : ℕ) (b : Bool) (e : Store) → blocked (rest_of i (receive c v b)) e ≡ at.Input i c ∷ []
received_block i c v true e = refl
received_block i c v false e = refl

taken_output : (j i : ℕ) (o : Option (Guard View)) (e : Store) → output_at j (taken_rest i o) e ≡ None
taken_output j i None e = refl
taken_output j i (Some g) e = refl

taken_assigned : (j i : ℕ) (o : Option (Guard View)) (e : Store) → assigned_at j (taken_rest i o) e ≡ None
taken_assigned j i None e = refl
taken_assigned j i (Some g) e = refl

pub taken_own : (i : ℕ) (o : Option (Guard View)) (e : Store) → own (taken_rest i o) e ≡ []
taken_own i None e = refl
taken_own i (Some g) e = refl

taken_closed : (i : ℕ) (o : Option (Guard View)) → is_open_alt (taken_rest i o) ≡ false
taken_closed i None = refl
taken_closed i (Some g) = refl

abbrev is_send : Shape → Bool
is_send (send c a b) = true
is_send s = false

abbrev is_assign : Shape → Bool
is_assign (assign v a) = true
is_assign s = false

abbrev is_guarding : Shape → Bool
is_guarding (guarding gs c) = true
is_guarding s = false

-- no other begins an output
output_shape_none : (j i : ℕ) (s : Shape) (e : Store) → is_at_itself s ≡ true → is_send s ≡ false → output_at j (rest_of i s) e ≡ None
output_shape_none j i (send c a b) e h q = absurd cc
output_shape_none j i (receive c v true) e h q = refl
output_shape_none j i (receive c v false) e h q = refl
output_shape_none j i (guarding gs Open) e h q = refl
output_shape_none j i (guarding gs (Taken k)) e h q = taken_output j i (slice_get gs k) e
output_shape_none j i (guarding gs (Within k)) e h q = absurd cc
output_shape_none j i s e h q = ap (λ (r : Rest). output_at j r e) (fresh_shape i s h refl)

-- no other assigns bytes
assigned_shape_none : (j i : ℕ) (s : Shape) (e : Store) → is_at_itself s ≡ true → is_assign s ≡ false → assigned_at j (rest_of i s) e ≡ None
assigned_shape_none j i (assign v a) e h q = absurd cc
assigned_shape_none j i (send c a true) e h q = refl
assigned_shape_none j i (send c a false) e h q = refl
assigned_shape_none j i (receive c v true) e h q = refl
assigned_shape_none j i (receive c v false) e h q = refl
assigned_shape_none j i (guarding gs Open) e h q = refl
assigned_shape_none j i (guarding gs (Taken k)) e h q = taken_assigned j i (slice_get gs k) e
assigned_shape_none j i (guarding gs (Within k)) e h q = absurd cc
assigned_shape_none j i s e h q = ap (λ (r : Rest). assigned_at j r e) (fresh_shape i s h refl)

closed_shape : (i : ℕ) (s : Shape) → is_at_itself s ≡ true → is_guarding s ≡ false → is_open_alt (rest_of i s) ≡ false
closed_shape i (send c a true) h q = refl
closed_shape i (send c a false) h q = refl
closed_shape i (receive c v true) h q = refl
closed_shape i (receive c v false) h q = refl
closed_shape i (guarding gs c) h q = absurd cc
closed_shape i s h q = ap is_open_alt (fresh_shape i s h refl)

send_construct : (c : Construct Frame) → ((x : _) → c ≡ run.Send x → ⊥) → is_send (shape c) ≡ false
send_construct (run.Send x) o = absurd (o x refl)
send_construct c o = refl

assign_construct : (c : Construct Frame) → ((x : _) → c ≡ run.Set x → ⊥) → is_assign (shape c) ≡ false
assign_construct (run.Set x) o = absurd (o x refl)
assign_construct c o = refl

guarding_construct : (c : Construct Frame) → ((x : _) → c ≡ run.Alt x → ⊥) → is_guarding (shape c) ≡ false
guarding_construct (run.Alt x) o = absurd (o x refl)
guarding_construct c o = refl

pub no_output : (j i : ℕ) (c : Construct Frame) (e : Store) → is_at_itself (shape c) ≡ true → ((x : _) → c ≡ run.Send x → ⊥) → output_at j (rest_of i (shape c)) e ≡ None
no_output j i c e h o = output_shape_none j i (shape c) e h (send_construct c o)

pub no_assigned : (j i : ℕ) (c : Construct Frame) (e : Store) → is_at_itself (shape c) ≡ true → ((x : _) → c ≡ run.Set x → ⊥) → assigned_at j (rest_of i (shape c)) e ≡ None
no_assigned j i c e h o = assigned_shape_none j i (shape c) e h (assign_construct c o)

pub not_open : (i : ℕ) (c : Construct Frame) → is_at_itself (shape c) ≡ true → ((x : _) → c ≡ run.Alt x → ⊥) → is_open_alt (rest_of i (shape c)) ≡ false
not_open i c h o = closed_shape i (shape c) h (guarding_construct c o)

-- nothing begins at another site
other_output : (j i : ℕ) (s : Shape) (e : Store) → (i ≡ j → ⊥) → is_at_itself s ≡ true → output_at j (rest_of i s) e ≡ None
other_output j i (send c a true) e n h = refl
other_output j i (send c a false) e n h = let off : (j == i) ≡ false = grind (arith, nat_tests) in ap (λ b. if b then datum_of a e else None) off
other_output j i s e n h = output_shape_none j i s e h refl

other_assigned : (j i : ℕ) (s : Shape) (e : Store) → (i ≡ j → ⊥) → is_at_itself s ≡ true → assigned_at j (rest_of i s) e ≡ None
other_assigned j i (assign v a) e n h = let off : (j == i) ≡ false = grind (arith, nat_tests) in ap (λ b. if b then assigned_bytes a e else None) off
other_assigned j i s e n h = assigned_shape_none j i s e h refl

seen_output : (j i : ℕ) (stopped : Bool) (s : Shape) (e : Store) → (i ≡ j → ⊥) → is_at_itself s ≡ true → output_at j (view_of i stopped s).rest e ≡ None
seen_output j i true s e n h = refl
seen_output j i false s e n h = other_output j i s e n h

seen_assigned : (j i : ℕ) (stopped : Bool) (s : Shape) (e : Store) → (i ≡ j → ⊥) → is_at_itself s ≡ true → assigned_at j (view_of i stopped s).rest e ≡ None
seen_assigned j i true s e n h = refl
seen_assigned j i false s e n h = other_assigned j i s e n h

pub no_output_at : (j : ℕ) (f : Frame) (e : Store) → ((out-Frame f).site ≡ j → ⊥) → is_at_itself (shape (out-Frame f).construct) ≡ true → output_at j (view f).rest e ≡ None
no_output_at j f e n h = let o = out-Frame f in ap (λ (v : View). output_at j v.rest e) (view_out f) ∙ seen_output j o.site o.stopped (shape o.construct) e n h

pub no_assigned_at : (j : ℕ) (f : Frame) (e : Store) → ((out-Frame f).site ≡ j → ⊥) → is_at_itself (shape (out-Frame f).construct) ≡ true → assigned_at j (view f).rest e ≡ None
no_assigned_at j f e n h = let o = out-Frame f in ap (λ (v : View). assigned_at j v.rest e) (view_out f) ∙ seen_assigned j o.site o.stopped (shape o.construct) e n h

pub assigned_here : (j i v : ℕ) (a : Given) (e : Store) → i ≡ j → assigned_at j (rest_of i (assign v a)) e ≡ assigned_bytes a e
assigned_here j i v a e h = let on : (j == i) ≡ true = grind (arith, nat_tests) in ap (λ b. if b then assigned_bytes a e else None) on

-- an ALT that has taken no guard, or one of them
pub open_rest : (i : ℕ) (gs : List (Guard View)) (c : Choice) → c ≡ Open → rest_of i (guarding gs c) ≡ Fresh (ALT i (guards_of gs))
open_rest i gs c h = ap (λ (d : Choice). rest_of i (guarding gs d)) h

pub closed_alt : (i : ℕ) (gs : List (Guard View)) (c : Choice) → is_at_itself (guarding gs c) ≡ true → (c ≡ Open → ⊥) → is_open_alt (rest_of i (guarding gs c)) ≡ false
closed_alt i gs Open h n = absurd (n refl)
closed_alt i gs (Taken k) h n = taken_closed i (slice_get gs k)
closed_alt i gs (Within k) h n = absurd cc

pub decided_own : (i : ℕ) (gs : List (Guard View)) (c : Choice) (e : Store) → is_at_itself (guarding gs c) ≡ true → is_open_alt (rest_of i (guarding gs c)) ≡ false → own (rest_of i (guarding gs c)) e ≡ []
decided_own i gs Open e h n = absurd cc
decided_own i gs (Taken k) e h n = taken_own i (slice_get gs k) e
decided_own i gs (Within k) e h n = absurd cc

pub open_wait : (i : ℕ) (gs : List (Guard View)) (c : Choice) → is_at_itself (guarding gs c) ≡ true → ((k : ℕ) → c ≡ Taken k → ⊥) → waiting (rest_of i (guarding gs c)) ≡ []
open_wait i gs Open h n = refl
open_wait i gs (Taken k) h n = absurd (n k refl)
open_wait i gs (Within k) h n = absurd cc

pub none_taken : (i : ℕ) (gs : List (Guard View)) (c : Choice) → is_at_itself (guarding gs c) ≡ true → is_open_alt (rest_of i (guarding gs c)) ≡ false → ((k : ℕ) → c ≡ Taken k → ⊥) → ⊥
none_taken i gs Open h d n = cc
none_taken i gs (Taken k) h d n = n k refl
none_taken i gs (Within k) h d n = cc

-- the guard that it took
pub taken_is : (i : ℕ) (gs : List (Guard Frame)) (c : Choice) (k : ℕ) (g : Guard Frame) → c ≡ Taken k → k < length gs → g ≡ get_or gs k g → rest_of i (guarding (map seen_guard gs) c) ≡ taken_rest i (Some (seen_guard g))
taken_is i gs c k g h l e = ap (λ (d : Choice). rest_of i (guarding (map seen_guard gs) d)) h ∙ ap (taken_rest i) (map_get seen_guard gs k g l e)

has_taken : (c : Choice) (k n : ℕ) → c ≡ Taken k → has_guard c n ≡ true → k < n
has_taken Open k n h q = absurd cc
has_taken (Taken j) k n h q = let e : j ≡ k = cc in let l : j < n = grind (arith, nat_tests) in omega arith
has_taken (Within j) k n h q = absurd cc

alt_sound : (f : Frame) (a : Alt Frame) → (view f).sound ≡ true → (out-Frame f).construct ≡ run.Alt a → is_sound (alt_shape a) ≡ true
alt_sound f a h e = subst (λ (c : Construct Frame). is_sound (shape c) ≡ true) e (frame_sound f h)

-- its guards are few, and the one that it took is one of them
pub few_guards : (f : Frame) (a : Alt Frame) → (view f).sound ≡ true → (out-Frame f).construct ≡ run.Alt a → length a.guards.items < 65536
few_guards f a h e =
    let gs = map seen_guard a.guards.items in
    let n = (and_parts (nat_lt (length gs) 65536) (has_guard a.choice (length gs) && all_sound (guarded gs)) (alt_sound f a h e)).0 in
    let l : length gs < 65536 = grind (arith, nat_tests) in
    subst (λ (m : ℕ). m < 65536) (length-map a.guards.items seen_guard) l

pub guard_taken : (f : Frame) (a : Alt Frame) (k : ℕ) → (view f).sound ≡ true → (out-Frame f).construct ≡ run.Alt a → a.choice ≡ Taken k → k < length a.guards.items
guard_taken f a k h e t =
    let gs = map seen_guard a.guards.items in
    let n = (and_parts (nat_lt (length gs) 65536) (has_guard a.choice (length gs) && all_sound (guarded gs)) (alt_sound f a h e)).1 in
    let m = (and_parts (has_guard a.choice (length gs)) (all_sound (guarded gs)) n).0 in
    subst (λ (j : ℕ). k < j) (length-map a.guards.items seen_guard) (has_taken a.choice k (length gs) t m)
