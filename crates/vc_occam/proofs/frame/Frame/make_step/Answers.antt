use Rattle.std.proofs.Common.{◌≡◌, ◌-◌, arith, subst}
use Rattle.vc_process.specs.Terms.{store}
use Rattle.vc_occam.specs.Frames.{view}
use Rattle.vc_occam.specs.Private.StepsInARow.{Stepped, once}
use Rattle.vc_occam.proofs.frame.Frame.make_step.Goals as goal

pub returns-clause-stepped : goal.returns-clause-stepped
returns-clause-stepped c =
    let left = c.args.steps.now.left in
    let some = c.requires.some in
    let one : 1 ≡ left - (left - 1) = omega arith in
    subst (λ n. Stepped c.args.site n c.args.site (view c.args.self.now) (store c.args.vars.now.items) c.go.result (view c.go.new.self) (store c.go.new.vars.items)) one (once c.go.ensures.went)
