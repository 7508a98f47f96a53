use Rattle.std.proofs.Common.{refl}
use Rattle.vc_free.specs.Placements.{IsOtherPlacement}
use Rattle.vc_plan.specs.declared.plan.Plan.{Plan}
use Rattle.vc_uses.proofs.NeverQuiet.{never_quiet}
use Rattle.vc_uses.proofs.rest.close_of_run.Goals as goal

-- a plan is a placement of its own program
itself : (p : Plan) → IsOtherPlacement p p
itself p = record { program = record { process = λ n less. refl; kinds = λ n less. refl }; nodes = refl; channels = refl }

pub returns : goal.returns
returns g c =
    let (plan, reads, (x, run, wrote)) = c.in_ok-report.ensures in
    let accepted = run.so_far.runs.accepted in (
      plan,
      reads,
      λ ranks never. never_quiet plan c.args.limit c.in_ok-report.report.events x c.in_ok-report.report.close (c.free_placements_never_stop.ensures plan plan accepted never (itself plan) accepted ranks) run,
    )
