use Rattle.std.proofs.Common.{◌∙◌, ap}
use Rattle.vc_occam.specs.First.{own}
use Rattle.vc_occam.specs.Frames.{view}
use Rattle.vc_occam.specs.Remains.{Rest}
use Rattle.vc_process.specs.Terms.{store}
use Rattle.vc_process.specs.Usage.{among}
use Rattle.vc_occam.proofs.Alone.{met_same}
use Rattle.vc_occam.proofs.Innermost.{same_own}
use Rattle.vc_occam.proofs.Pars.{par_rest, par_sound}
use Rattle.vc_occam.proofs.frame.Frame.only_meeting.Goals as goal

pub only_meeting-requires : goal.only_meeting-requires
only_meeting-requires c = par_sound c.innermost.result.now c.in-Par.par c.innermost.ensures.sound c.in-Par.is

pub returns-in-Par : goal.returns-in-Par
returns-in-Par c =
    let part = c.innermost.result.now in
    let e = store c.args.vars.now in
    let same = same_own (view c.args.self.now).rest (view part).rest e c.innermost.ensures.rest in
    let parts = ap (λ (r : Rest). own r e) (par_rest part c.in-Par.par c.innermost.ensures.sound c.in-Par.is) in
    met_same c.only_meeting.result (among c.args.inside.now) _ _ (same ∙ parts) c.only_meeting.ensures
