-- The sites of what remains that may do something now.
use Rattle.std.proofs.Common.{◌≡◌, ℕ, true, false, refl, ap, ◌∙◌, List, [], ◌∷◌, Option, Some, None, inl, inr, arith}
use Rattle.std.specs.Prelude.{◌==◌}
use Rattle.std.specs.Option.{option_or}
use Rattle.std.proofs.lemmas.Bool.Decides.{nat_tests}
use Rattle.vc_occam.specs.SiteActions.{SiteAction}
use Rattle.vc_process.specs.Syntax.{STOP, Assign, Output, SEQ, PAR, IF, WHILE, COUNT, ALT, no_parts}
use Rattle.vc_process.specs.Usage.{Set, just, nothing, ◌∪◌}
use Rattle.vc_process.specs.Values.{Store}
use Rattle.vc_occam.specs.Private.Frames.{Able, assigned_at}
use Rattle.vc_occam.specs.Remains.{Rest, Done, Stopped, Fresh, Finishing, Getting, Then, Turns, Beside, Step, does_skip, does_empty_seq, does_empty_par, does_assign, faults_assign, faults_out, does_if, does_turn, does_leave, faults_while, does_count, does_count_none, faults_count, does_offer, does_finish, does_input, waits_input, gets, does_stop, does_choose, waits_choose, in_then, in_turns, in_left, in_right}
use Rattle.vc_occam.specs.Sites.{sites, sites_all}
use Rattle.vc_occam.specs.States.{output_at}
use Rattle.vc_occam.specs.Traces.{Comm}
use Rattle.vc_occam.proofs.Places.{itself, own_site}
use Rattle.vc_occam.proofs.Sites.{Within, either, not_true, clash}
use Rattle.vc_occam.proofs.Stores.{or_false, or_left, or_right}
use Rattle.vc_process.specs.declared.datum.Datum.{Datum}
use Rattle.vc_process.specs.Syntax.{Proc}
use Rattle.vc_occam.specs.SiteActions as action
use Rattle.vc_occam.specs.Sites.{OwnSites, sites_rest}
use Rattle.vc_occam.specs.Traces.{Out}
use Rattle.vc_occam.proofs.Sites.{within_none}

-- the sites of what remains that may do something now
abbrev pub doers : Rest → Set
doers (Fresh (STOP i)) = nothing
doers (Fresh p) = sites p
doers (Finishing s c) = just s
doers (Getting s c v) = just s
doers (Then r ps) = doers r
doers (Turns r v b n p) = doers r
doers (Beside mine r q) = doers r ∪ doers q
doers r = nothing

-- the site that makes a step is one of them
pub step_site : {r r' : Rest} {e e' : Store} {i : ℕ} {d : SiteAction} {m : List Comm} → Step r e i d m r' e' → doers r i ≡ true
step_site (does_skip {s = s}) = itself s
step_site (does_empty_seq {s = s}) = own_site (SEQ s no_parts)
step_site (does_empty_par {s = s}) = own_site (PAR s no_parts)
step_site (does_assign {s = s} h) = itself s
step_site (faults_assign {s = s} h) = itself s
step_site (faults_out {s = s} h) = itself s
step_site (does_if {s = s} {bs = bs}) = own_site (IF s bs)
step_site (does_turn {s = s} {b = b} {p = p} h) = own_site (WHILE s b p)
step_site (does_leave {s = s} {b = b} {p = p} h) = own_site (WHILE s b p)
step_site (faults_while {s = s} {b = b} {p = p} h) = own_site (WHILE s b p)
step_site (does_count {s = s} {v = v} {a = a} {k = k} {p = p} h) = own_site (COUNT s v a k p)
step_site (does_count_none {s = s} {v = v} {a = a} {k = k} {p = p} h) = own_site (COUNT s v a k p)
step_site (faults_count {s = s} {v = v} {a = a} {k = k} {p = p} h) = own_site (COUNT s v a k p)
step_site (does_offer {s = s} h) = itself s
step_site (does_finish {s = s}) = itself s
step_site (does_input {s = s} h) = itself s
step_site (waits_input {s = s}) = itself s
step_site (gets {s = s} h) = itself s
step_site (does_stop {s = s}) = itself s
step_site (does_choose {s = s} {gs = gs} dec g h k) = own_site (ALT s gs)
step_site (waits_choose {s = s} {gs = gs} dec g h) = own_site (ALT s gs)
step_site (in_then st) = step_site st
step_site (in_turns st) = step_site st
step_site (in_left {i = i} {r = r} {q = q} st) = or_left (doers r i) (doers q i) (step_site st)
step_site (in_right {i = i} {r = r} {q = q} st) = or_right (doers r i) (doers q i) (step_site st)

pub able_site : (r : Rest) (e : Store) (i : ℕ) (d : SiteAction) → Able r e i d → doers r i ≡ true
able_site r e i d (ks, q, f, st) = step_site st

-- what may do something is one of the sites of what remains
fresh_doers : (p : Proc) → Within (doers (Fresh p)) (sites p)
fresh_doers (STOP i) = within_none (just i)
fresh_doers p = λ k e. e

pub doers_rest : (r : Rest) → Within (doers r) (sites_rest r)
doers_rest Done = within_none nothing
doers_rest (Stopped i) = within_none nothing
doers_rest (Fresh p) = fresh_doers p
doers_rest (Finishing s c) = λ k e. e
doers_rest (Getting s c v) = λ k e. e
doers_rest (Then r ps) = λ k e. or_left (sites_rest r k) (sites_all ps k) (doers_rest r k e)
doers_rest (Turns r v b n p) = λ k e. or_left (sites_rest r k) (sites p k) (doers_rest r k e)
doers_rest (Beside mine r q) = λ k e. elim (either (doers r k) (doers q k) e) [
  | inl h ↦ or_left (sites_rest r k) (sites_rest q k) (doers_rest r k h)
  | inr h ↦ or_right (sites_rest r k) (sites_rest q k) (doers_rest q k h)
]

none_of : {A : Type 0} (x y : Option A) → x ≡ None → y ≡ None → option_or x y ≡ None
none_of x y h k = rw (h, k) refl

-- no assignment begins at another site
pub none_assigned : (i : ℕ) (e : Store) (r : Rest) → doers r i ≡ false → assigned_at i r e ≡ None
none_assigned i e (Fresh (Assign s v a)) h = let off : (i == s) ≡ false = grind (arith, nat_tests) in rw off refl
none_assigned i e (Then r ps) h = none_assigned i e r h
none_assigned i e (Turns r v b n p) h = none_assigned i e r h
none_assigned i e (Beside mine r q) h =
    let n = or_false (doers r i) (doers q i) h in
    none_of (assigned_at i r e) (assigned_at i q e) (none_assigned i e r n.0) (none_assigned i e q n.1)
none_assigned i e r h = refl

-- no output begins at another site
pub none_output : (i : ℕ) (e : Store) (r : Rest) → doers r i ≡ false → output_at i r e ≡ None
none_output i e (Fresh (Output s c a)) h = let off : (i == s) ≡ false = grind (arith, nat_tests) in rw off refl
none_output i e (Then r ps) h = none_output i e r h
none_output i e (Turns r v b n p) h = none_output i e r h
none_output i e (Beside mine r q) h =
    let n = or_false (doers r i) (doers q i) h in
    none_of (output_at i r e) (output_at i q e) (none_output i e r n.0) (none_output i e q n.1)
none_output i e r h = refl

out_same : (c d : ℕ) (x y : Datum) → Out c x ∷ [] ≡ Out d y ∷ [] → x ≡ y
out_same c d x y h = cc

-- the value that an output sends is the one that stands at its site
pub sent_value : {r r' : Rest} {e e' : Store} {i c : ℕ} {m : List Comm} (x : Datum) → Step r e i (action.Offer c) m r' e' → OwnSites r → m ≡ Out c x ∷ [] → output_at i r e ≡ Some x
sent_value x (does_offer {s = s} {c = c} {x = y} k) o q =
    let on : (s == s) ≡ true = grind (arith, nat_tests) in
    rw on (k ∙ ap Some (out_same c c y x q))
sent_value x (in_then st) o q = sent_value x st o.0 q
sent_value x (in_turns st) o q = sent_value x st o.0 q
sent_value x (in_left {i = i} {q = q} {e = e} st) o h = ap (λ y. option_or y (output_at i q e)) (sent_value x st o.1 h)
sent_value x (in_right {i = i} {r = r} {q = q} {e = e} st) o h =
    let away = not_true (doers r i) (λ k. clash (doers_rest q i (step_site st)) (o.0 i (doers_rest r i k))) in
    ap (λ y. option_or y (output_at i q e)) (none_output i e r away) ∙ sent_value x st o.2 h
