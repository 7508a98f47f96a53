use Rattle.std.proofs.Common.{◌∙◌, ap}
use Rattle.vc_occam.specs.declared.outcome.Outcome.{Outcome}
use Rattle.vc_occam.specs.First.{own}
use Rattle.vc_occam.specs.Frames.{left_by, view}
use Rattle.vc_occam.proofs.Innermost.{same_own}
use Rattle.vc_occam.proofs.frame_moves.Task+Frame.innermost.Goals as goal

pub returns-in-Other : goal.returns-in-Other
returns-in-Other c = λ e.
    let whole = (view c.args.self.now.frame).rest in
    ap (λ (o : Outcome). own (left_by o whole) e) c.in-Other.is ∙ same_own whole (view c.innermost.result.now).rest e c.innermost.ensures.rest
