-- All that a site can do is of one kind.
use Rattle.std.proofs.Common.{◌≡◌, ℕ, true, refl, sym, subst, ◌∙◌, List, eq-eqb}
use Rattle.vc_process.specs.Usage.{just}
use Rattle.vc_process.specs.Values.{Store}
use Rattle.vc_occam.specs.SiteActions.{SiteAction}
use Rattle.vc_process.specs.Syntax.{no_parts}
use Rattle.vc_occam.specs.Sites.{sites, sites_all, sites_branches, sites_guards, sites_rest, OwnSites}
use Rattle.vc_occam.specs.Traces.{Comm}
use Rattle.vc_occam.specs.Remains.{Rest, Beside, Step, does_skip, does_empty_seq, does_empty_par, does_assign, faults_assign, faults_out, does_if, does_turn, does_leave, faults_while, does_count, does_count_none, faults_count, does_offer, does_finish, does_input, waits_input, gets, does_stop, does_choose, waits_choose, in_then, in_turns, in_left, in_right}
use Rattle.vc_occam.proofs.Sites.{clash}
use Rattle.vc_occam.proofs.Stores.{or_left, or_right}
use Rattle.vc_program.specs.SiteSteps.{SameKind, quiet, offer, finish, want, choose, message, stop, SitesHaveOneKind}

there : (i : ℕ) → just i i ≡ true
there i = eq-eqb i i refl

pub step_there : {r r1 : Rest} {e e1 : Store} {i : ℕ} {d : SiteAction} {m : List Comm} → Step r e i d m r1 e1 → sites_rest r i ≡ true
step_there {i = i} does_skip = there i
step_there {i = i} does_empty_seq = or_left (just i i) (sites_all no_parts i) (there i)
step_there {i = i} does_empty_par = or_left (just i i) (sites_all no_parts i) (there i)
step_there {i = i} (does_assign q) = there i
step_there {i = i} (faults_assign q) = there i
step_there {i = i} (faults_out q) = there i
step_there {i = i} (does_if {bs = bs}) = or_left (just i i) (sites_branches bs i) (there i)
step_there {i = i} (does_turn {p = p} q) = or_left (just i i) (sites p i) (there i)
step_there {i = i} (does_leave {p = p} q) = or_left (just i i) (sites p i) (there i)
step_there {i = i} (faults_while {p = p} q) = or_left (just i i) (sites p i) (there i)
step_there {i = i} (does_count {p = p} q) = or_left (just i i) (sites p i) (there i)
step_there {i = i} (does_count_none {p = p} q) = or_left (just i i) (sites p i) (there i)
step_there {i = i} (faults_count {p = p} q) = or_left (just i i) (sites p i) (there i)
step_there {i = i} (does_offer q) = there i
step_there {i = i} does_finish = there i
step_there {i = i} (does_input q) = there i
step_there {i = i} waits_input = there i
step_there {i = i} (gets q) = there i
step_there {i = i} does_stop = there i
step_there {i = i} (does_choose {gs = gs} q g h x) = or_left (just i i) (sites_guards gs i) (there i)
step_there {i = i} (waits_choose {gs = gs} q g h) = or_left (just i i) (sites_guards gs i) (there i)
step_there {i = i} (in_then {r = r} {ps = ps} st) = or_left (sites_rest r i) (sites_all ps i) (step_there st)
step_there {i = i} (in_turns {r = r} {p = p} st) = or_left (sites_rest r i) (sites p i) (step_there st)
step_there {i = i} (in_left {r = r} {q = q} st) = or_left (sites_rest r i) (sites_rest q i) (step_there st)
step_there {i = i} (in_right {r = r} {q = q} st) = or_right (sites_rest r i) (sites_rest q i) (step_there st)

pub one_kind : {r r1 r2 : Rest} {e e1 e2 : Store} {i j : ℕ} {d f : SiteAction} {m n : List Comm} → Step r e i d m r1 e1 → Step r e j f n r2 e2 → i ≡ j → OwnSites r → SameKind d f
one_kind does_skip does_skip at o = quiet
one_kind does_empty_seq does_empty_seq at o = quiet
one_kind does_empty_par does_empty_par at o = quiet
one_kind (does_assign h0) (does_assign k0) at o = quiet
one_kind (does_assign h0) (faults_assign k0) at o = quiet
one_kind (faults_assign h0) (does_assign k0) at o = quiet
one_kind (faults_assign h0) (faults_assign k0) at o = quiet
one_kind does_if does_if at o = quiet
one_kind (does_turn h0) (does_turn k0) at o = quiet
one_kind (does_turn h0) (does_leave k0) at o = quiet
one_kind (does_turn h0) (faults_while k0) at o = quiet
one_kind (does_leave h0) (does_turn k0) at o = quiet
one_kind (does_leave h0) (does_leave k0) at o = quiet
one_kind (does_leave h0) (faults_while k0) at o = quiet
one_kind (faults_while h0) (does_turn k0) at o = quiet
one_kind (faults_while h0) (does_leave k0) at o = quiet
one_kind (faults_while h0) (faults_while k0) at o = quiet
one_kind (does_count h0) (does_count k0) at o = quiet
one_kind (does_count h0) (does_count_none k0) at o = quiet
one_kind (does_count h0) (faults_count k0) at o = quiet
one_kind (does_count_none h0) (does_count k0) at o = quiet
one_kind (does_count_none h0) (does_count_none k0) at o = quiet
one_kind (does_count_none h0) (faults_count k0) at o = quiet
one_kind (faults_count h0) (does_count k0) at o = quiet
one_kind (faults_count h0) (does_count_none k0) at o = quiet
one_kind (faults_count h0) (faults_count k0) at o = quiet
one_kind does_finish does_finish at o = finish
one_kind (does_input h0) (does_input k0) at o = want
one_kind (does_input h0) waits_input at o = want
one_kind waits_input (does_input k0) at o = want
one_kind waits_input waits_input at o = want
one_kind (gets h0) (gets k0) at o = message
one_kind does_stop does_stop at o = stop
one_kind (does_choose h0 h1 h2 h3) (does_choose k0 k1 k2 k3) at o = choose
one_kind (does_choose h0 h1 h2 h3) (waits_choose k0 k1 k2) at o = choose
one_kind (waits_choose h0 h1 h2) (does_choose k0 k1 k2 k3) at o = choose
one_kind (waits_choose h0 h1 h2) (waits_choose k0 k1 k2) at o = choose
one_kind (does_offer h) (does_offer k) at o = offer
one_kind (faults_out h) (faults_out k) at o = quiet
one_kind (does_offer h) (faults_out k) at o = absurd (let e = sym h ∙ k in cc)
one_kind (faults_out h) (does_offer k) at o = absurd (let e = sym h ∙ k in cc)
one_kind (in_then st) (in_then st2) at o = one_kind st st2 at o.0
one_kind (in_turns st) (in_turns st2) at o = one_kind st st2 at o.0
one_kind (in_left st) (in_left st2) at o = one_kind st st2 at o.1
one_kind (in_right st) (in_right st2) at o = one_kind st st2 at o.2
one_kind {r = Beside mine r q} {i = i} (in_left st) (in_right st2) at o = absurd (clash (subst (λ k. sites_rest q k ≡ true) (sym at) (step_there st2)) (o.0 i (step_there st)))
one_kind {r = Beside mine r q} {i = i} (in_right st) (in_left st2) at o = absurd (clash (step_there st) (o.0 i (subst (λ k. sites_rest r k ≡ true) (sym at) (step_there st2))))

pub kinds : SitesHaveOneKind
kinds s t u i d f ks ls o st st2 = one_kind st st2 refl o
