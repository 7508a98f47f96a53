-- What a site does at once is one of its moves, on one of the channels of what remains.
use Rattle.std.proofs.Common.{◌≡◌, ℕ, suc, ◌+◌, Bool, true, false, ◌&&◌, refl, sym, ap, subst, List, [], ◌∷◌, ◌++◌, Option, Some, None, ◌≢◌, arith, eq-eqb, if◌then◌else◌}
use Rattle.std.proofs.lemmas.List.Elements.{Contains-append_left, Contains-append_right}
use Rattle.std.specs.List.{Contains}
use Rattle.std.specs.Prelude.{is_some}
use Rattle.vc_process.proofs.Lists.{at_front}
use Rattle.vc_process.specs.Lawful.{outputs, outputs_all, inputs, inputs_all}
use Rattle.vc_process.specs.Syntax.{Test, Proc, Guards, no_guards, guard}
use Rattle.vc_process.specs.Values.{Store, holds}
use Rattle.vc_occam.specs.First.{all_decided, choices, is_true, own}
use Rattle.vc_occam.specs.InUse.{outputs_rest, inputs_rest}
use Rattle.vc_occam.specs.Remains.{Rest, GuardAt, first, later, Step, faults_out, does_offer, does_input, does_stop, does_choose, in_then, in_turns, in_left, in_right}
use Rattle.vc_occam.specs.Traces.{Comm, Decided}
use Rattle.vc_occam.specs.declared.moves.Move.TheVariants as move
use Rattle.vc_occam.specs.SiteActions.{Quiet, Offer, Want, Choose, StopChannel}
use Rattle.vc_occam.proofs.Stores.{or_left, or_right}

pub quiet_own : {r q : Rest} {e f : Store} {i : ℕ} {ks : List Comm} → Step r e i Quiet ks q f → Contains (own r e) (move.Quiet i)
quiet_own {i = i} (faults_out {c = c} h) = subst (λ b. Contains ((if b then move.Offer i c else move.Quiet i) ∷ []) (move.Quiet i)) (sym (ap is_some h)) (at_front (move.Quiet i) [])
quiet_own (in_then st) = quiet_own st
quiet_own (in_turns st) = quiet_own st
quiet_own {i = i} (in_left {r = r} {q = q} {e = e} st) = Contains-append_left (own r e) (own q e) (move.Quiet i) (quiet_own st)
quiet_own {i = i} (in_right {r = r} {q = q} {e = e} st) = Contains-append_right (own r e) (own q e) (move.Quiet i) (quiet_own st)
quiet_own {i = i} st = at_front (move.Quiet i) []

pub stop_own : {r q : Rest} {e f : Store} {i c : ℕ} {ks : List Comm} → Step r e i (StopChannel c) ks q f → Contains (own r e) (move.Stopch i c)
stop_own {i = i} {c = c} does_stop = at_front (move.Stopch i c) []
stop_own (in_then st) = stop_own st
stop_own (in_turns st) = stop_own st
stop_own {i = i} {c = c} (in_left {r = r} {q = q} {e = e} st) = Contains-append_left (own r e) (own q e) (move.Stopch i c) (stop_own st)
stop_own {i = i} {c = c} (in_right {r = r} {q = q} {e = e} st) = Contains-append_right (own r e) (own q e) (move.Stopch i c) (stop_own st)

pub want_own : {r q : Rest} {e f : Store} {i c : ℕ} {m : List ℕ} {ks : List Comm} → Step r e i (Want c (Some m)) ks q f → Contains (own r e) (move.Want i c)
want_own {i = i} {c = c} (does_input h) = at_front (move.Want i c) []
want_own (in_then st) = want_own st
want_own (in_turns st) = want_own st
want_own {i = i} {c = c} (in_left {r = r} {q = q} {e = e} st) = Contains-append_left (own r e) (own q e) (move.Want i c) (want_own st)
want_own {i = i} {c = c} (in_right {r = r} {q = q} {e = e} st) = Contains-append_right (own r e) (own q e) (move.Want i c) (want_own st)

some_of : {A : Type 0} (o : Option A) → o ≢ None → is_some o ≡ true
some_of (Some x) h = refl
some_of None h = absurd (h refl)

and_true : (a b : Bool) → a ≡ true → b ≡ true → (a && b) ≡ true
and_true true b h k = k
and_true false b h k = absurd (let e : false ≡ true = h in cc)

all_are_decided : (gs : Guards) (e : Store) → Decided gs e → all_decided gs e ≡ true
all_are_decided no_guards e h = refl
all_are_decided (guard b c v p gs) e h = and_true (is_some (holds b e)) (all_decided gs e) (some_of (holds b e) h.0) (all_are_decided gs e h.1)

choice_own : (i n : ℕ) {gs : Guards} {k c v : ℕ} {b : Test} {p : Proc} (e : Store) → GuardAt gs k b c v p → holds b e ≡ Some true → Contains (choices i n gs e) (move.Choose i (n + k) c)
choice_own i n {c = c} e (first {gs = gs}) h =
    let here : n + 0 ≡ n = omega arith in
    subst (λ z. Contains ((if is_true z then (move.Choose i n c ∷ []) else []) ++ choices i (suc n) gs e) (move.Choose i (n + 0) c)) (sym h)
    (subst (λ z. Contains (move.Choose i n c ∷ choices i (suc n) gs e) (move.Choose i z c)) (sym here) (at_front (move.Choose i n c) (choices i (suc n) gs e)))
choice_own i n {c = d} e (later {b = b} {c = c} {gs = gs} {k = k} g) h =
    let there : n + suc k ≡ suc n + k = omega arith in
    Contains-append_right (if is_true (holds b e) then (move.Choose i n c ∷ []) else []) (choices i (suc n) gs e) (move.Choose i (n + suc k) d)
    (subst (λ z. Contains (choices i (suc n) gs e) (move.Choose i z d)) (sym there) (choice_own i (suc n) e g h))

pub choose_own : {r q : Rest} {e f : Store} {i k c : ℕ} {m : List ℕ} {ks : List Comm} → Step r e i (Choose k c (Some m)) ks q f → Contains (own r e) (move.Choose i k c)
choose_own {i = i} {k = k} {c = c} (does_choose {gs = gs} {e = e} dec g h x) =
    let here : 0 + k ≡ k = omega arith in
    subst (λ z. Contains (if z then choices i 0 gs e else []) (move.Choose i k c)) (sym (all_are_decided gs e dec))
    (subst (λ z. Contains (choices i 0 gs e) (move.Choose i z c)) here (choice_own i 0 e g h))
choose_own (in_then st) = choose_own st
choose_own (in_turns st) = choose_own st
choose_own {i = i} {k = k} {c = c} (in_left {r = r} {q = q} {e = e} st) = Contains-append_left (own r e) (own q e) (move.Choose i k c) (choose_own st)
choose_own {i = i} {k = k} {c = c} (in_right {r = r} {q = q} {e = e} st) = Contains-append_right (own r e) (own q e) (move.Choose i k c) (choose_own st)

-- their channels
pub offer_on : {r q : Rest} {e f : Store} {i c : ℕ} {ks : List Comm} → Step r e i (Offer c) ks q f → outputs_rest r c ≡ true
offer_on {c = c} (does_offer h) = eq-eqb c c refl
offer_on {c = c} (in_then {r = r} {ps = ps} st) = or_left (outputs_rest r c) (outputs_all ps c) (offer_on st)
offer_on {c = c} (in_turns {r = r} {p = p} st) = or_left (outputs_rest r c) (outputs p c) (offer_on st)
offer_on {c = c} (in_left {r = r} {q = q} st) = or_left (outputs_rest r c) (outputs_rest q c) (offer_on st)
offer_on {c = c} (in_right {r = r} {q = q} st) = or_right (outputs_rest r c) (outputs_rest q c) (offer_on st)

pub stop_on : {r q : Rest} {e f : Store} {i c : ℕ} {ks : List Comm} → Step r e i (StopChannel c) ks q f → inputs_rest r c ≡ true
stop_on {c = c} does_stop = eq-eqb c c refl
stop_on {c = c} (in_then {r = r} {ps = ps} st) = or_left (inputs_rest r c) (inputs_all ps c) (stop_on st)
stop_on {c = c} (in_turns {r = r} {p = p} st) = or_left (inputs_rest r c) (inputs p c) (stop_on st)
stop_on {c = c} (in_left {r = r} {q = q} st) = or_left (inputs_rest r c) (inputs_rest q c) (stop_on st)
stop_on {c = c} (in_right {r = r} {q = q} st) = or_right (inputs_rest r c) (inputs_rest q c) (stop_on st)
