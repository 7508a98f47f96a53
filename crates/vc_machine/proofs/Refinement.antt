-- Each step of the token machine is at most two steps of the packet machine.
use Rattle.std.proofs.Common.{◌≡◌, ℕ, suc, ◌+◌, ◌*◌, List, [], ◌∷◌, ◌++◌, length, refl, sym, subst, arith, length-append}
use Rattle.vc_machine.specs.Paths.{Net}
use Rattle.vc_machine.specs.Machine.{State, Step, start}
use Rattle.vc_machine.specs.Links.{Tokens, Wires, no_tokens}
use Rattle.vc_switch.specs.Waiting.{Waiting}
use Rattle.vc_machine.specs.TokenMachine.{TokenEvent, Proc, Take, Pass, Put, PutFct, TokenStep, TokenRun}
use Rattle.vc_machine.specs.View.{TokenView, nothing, without_mark, Bindings, AtMostTwo, stays, moves}
use Rattle.vc_machine.specs.Private.View.{Credited}
use Rattle.vc_machine.specs.Laws.{Ranges, StepsAreSteps, IsReached, RunsAreRuns, BuffersHold}
use Rattle.vc_machine.proofs.TokenNodes.{proc_alike}
use Rattle.vc_machine.proofs.ViewChanges.{takes_view, grants_view, same_nodes, framed_view}
use Rattle.vc_machine.proofs.StepRefinement.{as_run, run_joined}
use Rattle.vc_machine.proofs.Passes.{passes_view}
use Rattle.vc_machine.proofs.Puts.{puts_view, binds_view}
use Rattle.vc_machine.proofs.Bindings.{step_bindings, no_bindings}
use Rattle.vc_machine.proofs.CreditSum.{step_counts, no_counts, within_credit, place_kept, credit_low}

pub step_view : (net : Net) (back : ℕ → ℕ) (waiting : Waiting) → Ranges net → (t : Tokens) (s : State) (e : TokenEvent) (u : Tokens) → Bindings net t → TokenView net t s →
    TokenStep net back waiting t e u → AtMostTwo net s u
step_view net back waiting ranges t s (Proc e) u b view h =
    let f = proc_alike net t.nodes s h.1.0 e (same_nodes net t s view) h.0 h.1.1 in
    subst (AtMostTwo net s) (sym h.1.2) (moves e f.after f.step (framed_view net t s h.1.0 (Step net s e) view f))
step_view net back waiting ranges t s (Take w word) u b view h = stays (takes_view net back t s w word u view h)
step_view net back waiting ranges t s (Pass w) u b view h = passes_view net t s w u ranges h.0 view b h.1
step_view net back waiting ranges t s (Put w) u b view h = puts_view net waiting t s w u h.0 view h.2
step_view net back waiting ranges t s (PutFct w) u b view h = stays (grants_view net back t s w u view h)
step_view net back waiting ranges t s (TokenEvent.Route w out) u b view h = binds_view net waiting t s w out u view h

pub steps_are_steps : (net : Net) (back : ℕ → ℕ) (waiting : Waiting) → Ranges net → StepsAreSteps net back waiting
steps_are_steps net back waiting ranges t s e u b view h = (step_bindings net back waiting t e u b h, step_view net back waiting ranges t s e u b view h)

pub no_view : (net : Net) → TokenView net no_tokens start
no_view net =
    record {
      ways = λ w. record { passed = []; same_queue = refl; line = refl; inside = without_mark refl (nothing refl refl) refl };
      chans = refl;
      strays = refl;
      lost = refl;
    }

-- a run from tokens that stand for a state that was reached
run_view : (net : Net) (back : ℕ → ℕ) (waiting : Waiting) → Ranges net → (es : List TokenEvent) (t u : Tokens) (most : ℕ) → IsReached net most t → TokenRun net back waiting t es u →
    IsReached net (most + 2 * length es) u
run_view net back waiting ranges [] t u most r h =
    record {
      events = r.events;
      few = let f = r.few in omega arith;
      after = r.after;
      run = r.run;
      view = subst (λ k. TokenView net k r.after) (sym h) r.view;
      bindings = subst (Bindings net) (sym h) r.bindings;
    }
run_view net back waiting ranges (e ∷ es) t u most r h =
    let b = step_bindings net back waiting t e h.0 r.bindings h.1 in
    let a = as_run net r.after h.0 (step_view net back waiting ranges t r.after e h.0 r.bindings r.view h.1) in
    let next : IsReached net (most + 2) h.0 = record {
      events = r.events ++ a.events;
      few = let f = r.few in let g = a.few in let l = length-append r.events a.events in omega arith;
      after = a.after;
      run = run_joined net start r.after a.after r.events a.events r.run a.run;
      view = a.view;
      bindings = b;
    } in
    subst (λ k. IsReached net k u) (let k : most + 2 + 2 * length es ≡ most + 2 * suc (length es) = omega arith in k) (run_view net back waiting ranges es h.0 u (most + 2) next h.2)

pub runs_are_runs : (net : Net) (back : ℕ → ℕ) (waiting : Waiting) → Ranges net → RunsAreRuns net back waiting
runs_are_runs net back waiting ranges es u h =
    subst (λ k. IsReached net k u) (let k : 0 + 2 * length es ≡ 2 * length es = omega arith in k)
    (run_view net back waiting ranges es no_tokens u 0 (record { events = []; few = omega arith; after = start; run = refl; view = no_view net; bindings = no_bindings net }) h)

pub run_counts : (net : Net) (back : ℕ → ℕ) → Wires net back → (waiting : Waiting) (es : List TokenEvent) (t u : Tokens) → Credited back t → TokenRun net back waiting t es u → Credited back u
run_counts net back wires waiting [] t u all h = subst (Credited back) (sym h) all
run_counts net back wires waiting (e ∷ es) t u all h = run_counts net back wires waiting es h.0 u (step_counts net back wires waiting t e h.0 all h.1) h.2

pub buffers_hold : (net : Net) (back : ℕ → ℕ) → Wires net back → (waiting : Waiting) → BuffersHold net back waiting
buffers_hold net back wires waiting es u h =
    let all = run_counts net back wires waiting es no_tokens u (no_counts back) h in
    record {
      within = λ w. within_credit back u w all;
      place = λ w k rest plain e. place_kept back u w k rest all plain e;
      low = λ w rest e. credit_low net back wires u w rest all e;
    }
