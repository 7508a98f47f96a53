use Rattle.std.proofs.Common.{◌≤◌, [], Ok, ap, subst, sym}
use Rattle.vc_text.specs.Private.Simulation.{LeadsOnSoFar, all_awake}
use Rattle.vc_text.specs.declared.simulation.Progress.{Progress}
use Rattle.vc_text.proofs.LongerRuns.{counts, goes_on, stays_on}
use Rattle.vc_text.proofs.TextWrites.{any_err}
use Rattle.vc_text.proofs.simulation.Simulation.rounds.Goals as goal

pub loop-self-init : goal.loop-self-init
loop-self-init g c =
    let s = c.args.self.now in
    let e = c.args.events.now in
    let first = all_awake s.made in
    record {
      few = subst (λ (z : Progress). z.made ≤ c.args.limit) (sym c.progress-progress.ensures) c.requires;
      runs = subst (λ (z : Progress). LeadsOnSoFar g.K.EventSink.holds s e first s e z) (sym c.progress-progress.ensures) (stays_on g.K.EventSink.holds s e first);
    }

pub returns-clause-runs : goal.returns-clause-runs
returns-clause-runs g c = λ from p es kept run.
    let mid = c.loop-self.invariant.runs from p es kept (goes_on p es c.args.self.now run) in
    let end = c.in_ok-stretch.ensures.runs from p mid.0 mid.1 mid.2 in
    (end.0, end.1, counts p end.0 c.stretch.new.self c.stretch.new.progress end.2)

pub returns-clause-ends : goal.returns-clause-ends
returns-clause-ends g c = λ from p es kept run.
    let mid = c.loop-self.invariant.runs from p es kept (goes_on p es c.args.self.now run) in
    c.in_ok-stretch.ensures.ends (ap Ok c.if-branch.false) from p mid.0 mid.1 mid.2

pub returns-in_err-stretch-clause-stops : goal.returns-in_err-stretch-clause-stops
returns-in_err-stretch-clause-stops g c = any_err c.from_residual.result (λ from p kept run.
    let mid = c.loop-self.invariant.runs from p [] kept (goes_on p [] c.args.self.now run) in
    c.in_err-stretch.ensures.stops from p mid.0 mid.1 mid.2)
