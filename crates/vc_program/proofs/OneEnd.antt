-- By lawful use a channel has one output at a time, and one input, ALT or stop.
use Rattle.std.proofs.Common.{◌≡◌, ℕ, true, refl, sym, subst, List, eq-eqb}
use Rattle.vc_program.specs.SiteSteps.{OutputsOn, InputsOn, ChannelsHaveOneOutput, ChannelsHaveOneInput}
use Rattle.vc_occam.proofs.Sites.{clash}
use Rattle.vc_occam.proofs.Stores.{or_left, or_right}
use Rattle.vc_occam.specs.InUse.{UsesLawfully, outputs_rest, inputs_rest}
use Rattle.vc_occam.specs.Remains.{Rest, GuardAt, first, later, Step, does_offer, does_input, waits_input, does_stop, does_choose, waits_choose, in_then, in_turns, in_left, in_right}
use Rattle.vc_occam.specs.SiteActions.{SiteAction}
use Rattle.vc_occam.specs.Traces.{Comm}
use Rattle.vc_process.specs.Lawful.{outputs, outputs_all, inputs, inputs_all, inputs_guards}
use Rattle.vc_process.specs.Syntax.{Test, Proc, Guards}
use Rattle.vc_process.specs.Usage.{just, ◌∪◌}
use Rattle.vc_process.specs.Values.{Store}

same_there : (c d : ℕ) → c ≡ d → just c d ≡ true
same_there c d e = eq-eqb d c (sym e)

pub outputs_there : {r r1 : Rest} {e e1 : Store} {i : ℕ} {d : SiteAction} {m : List Comm} (c : ℕ) → OutputsOn d c → Step r e i d m r1 e1 → outputs_rest r c ≡ true
outputs_there c on (does_offer {c = b} q) = same_there b c on
outputs_there c on (in_then {r = r} {ps = ps} st) = or_left (outputs_rest r c) (outputs_all ps c) (outputs_there c on st)
outputs_there c on (in_turns {r = r} {p = p} st) = or_left (outputs_rest r c) (outputs p c) (outputs_there c on st)
outputs_there c on (in_left {r = r} {q = q} st) = or_left (outputs_rest r c) (outputs_rest q c) (outputs_there c on st)
outputs_there c on (in_right {r = r} {q = q} st) = or_right (outputs_rest r c) (outputs_rest q c) (outputs_there c on st)
outputs_there c on st = absurd on

guard_inputs : {gs : Guards} {k c v : ℕ} {b : Test} {p : Proc} → GuardAt gs k b c v p → inputs_guards gs c ≡ true
guard_inputs {c = c} (first {p = p} {gs = gs}) = or_left ((just c ∪ inputs p) c) (inputs_guards gs c) (or_left (just c c) (inputs p c) (same_there c c refl))
guard_inputs {c = c} (later {c = a} {p = p} {gs = gs} g) = or_right ((just a ∪ inputs p) c) (inputs_guards gs c) (guard_inputs g)

pub inputs_there : {r r1 : Rest} {e e1 : Store} {i : ℕ} {d : SiteAction} {m : List Comm} (c : ℕ) → InputsOn d c → Step r e i d m r1 e1 → inputs_rest r c ≡ true
inputs_there c on (does_input {c = b} q) = same_there b c on
inputs_there c on (waits_input {c = b}) = same_there b c on
inputs_there c on (does_stop {c = b}) = same_there b c on
inputs_there c on (does_choose {gs = gs} dec g h x) = subst (λ z. inputs_guards gs z ≡ true) on (guard_inputs g)
inputs_there c on (waits_choose {gs = gs} dec g h) = subst (λ z. inputs_guards gs z ≡ true) on (guard_inputs g)
inputs_there c on (in_then {r = r} {ps = ps} st) = or_left (inputs_rest r c) (inputs_all ps c) (inputs_there c on st)
inputs_there c on (in_turns {r = r} {p = p} st) = or_left (inputs_rest r c) (inputs p c) (inputs_there c on st)
inputs_there c on (in_left {r = r} {q = q} st) = or_left (inputs_rest r c) (inputs_rest q c) (inputs_there c on st)
inputs_there c on (in_right {r = r} {q = q} st) = or_right (inputs_rest r c) (inputs_rest q c) (inputs_there c on st)
inputs_there c on st = absurd on

-- two steps at one part's own site, or in two parts
pub one_output : {r r1 r2 : Rest} {e e1 e2 : Store} {i j : ℕ} {d f : SiteAction} {m n : List Comm} (c : ℕ) → OutputsOn d c → OutputsOn f c → Step r e i d m r1 e1 → Step r e j f n r2 e2 → UsesLawfully r → i ≡ j
one_output c on on2 (does_offer q) (does_offer k) u = refl
one_output c on on2 (in_then st) (in_then st2) u = one_output c on on2 st st2 u.0
one_output c on on2 (in_turns st) (in_turns st2) u = one_output c on on2 st st2 u.0
one_output c on on2 (in_left st) (in_left st2) u = one_output c on on2 st st2 u.1
one_output c on on2 (in_right st) (in_right st2) u = one_output c on on2 st st2 u.2
one_output c on on2 (in_left st) (in_right st2) u = absurd (clash (outputs_there c on2 st2) (u.0.outputs c (outputs_there c on st)))
one_output c on on2 (in_right st) (in_left st2) u = absurd (clash (outputs_there c on st) (u.0.outputs c (outputs_there c on2 st2)))
one_output c on on2 (does_offer q) st2 u = absurd on2
one_output c on on2 st st2 u = absurd on

pub one_input : {r r1 r2 : Rest} {e e1 e2 : Store} {i j : ℕ} {d f : SiteAction} {m n : List Comm} (c : ℕ) → InputsOn d c → InputsOn f c → Step r e i d m r1 e1 → Step r e j f n r2 e2 → UsesLawfully r → i ≡ j
one_input c on on2 (does_input q) (does_input k) u = refl
one_input c on on2 (does_input q) waits_input u = refl
one_input c on on2 waits_input (does_input k) u = refl
one_input c on on2 waits_input waits_input u = refl
one_input c on on2 does_stop does_stop u = refl
one_input c on on2 (does_choose d0 g0 h0 x0) (does_choose d1 g1 h1 x1) u = refl
one_input c on on2 (does_choose d0 g0 h0 x0) (waits_choose d1 g1 h1) u = refl
one_input c on on2 (waits_choose d0 g0 h0) (does_choose d1 g1 h1 x1) u = refl
one_input c on on2 (waits_choose d0 g0 h0) (waits_choose d1 g1 h1) u = refl
one_input c on on2 (in_then st) (in_then st2) u = one_input c on on2 st st2 u.0
one_input c on on2 (in_turns st) (in_turns st2) u = one_input c on on2 st st2 u.0
one_input c on on2 (in_left st) (in_left st2) u = one_input c on on2 st st2 u.1
one_input c on on2 (in_right st) (in_right st2) u = one_input c on on2 st st2 u.2
one_input c on on2 (in_left st) (in_right st2) u = absurd (clash (inputs_there c on2 st2) (u.0.inputs c (inputs_there c on st)))
one_input c on on2 (in_right st) (in_left st2) u = absurd (clash (inputs_there c on st) (u.0.inputs c (inputs_there c on2 st2)))
one_input c on on2 st st2 u = absurd on

pub outputs_once : ChannelsHaveOneOutput
outputs_once s t u i j c d f ks ls law on on2 st st2 = one_output c on on2 st st2 law

pub inputs_once : ChannelsHaveOneInput
inputs_once s t u i j c d f ks ls law on on2 st st2 = one_input c on on2 st st2 law
