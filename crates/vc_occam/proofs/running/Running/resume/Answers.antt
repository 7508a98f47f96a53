use Rattle.vc_occam.specs.Frames.{remains}
use Rattle.vc_occam.specs.Runnings.{state}
use Rattle.vc_occam.specs.States.{State}
use Rattle.vc_process.specs.Terms.{store}
use Rattle.vc_occam.proofs.MoveActs.{resumes}
use Rattle.vc_occam.proofs.Preservation.{step_uses}
use Rattle.vc_occam.proofs.Made.{able_on}
use Rattle.vc_occam.proofs.NotedWaits.{none_waits}
use Rattle.vc_occam.proofs.Sites.{step_keeps}
use Rattle.vc_occam.proofs.Tasks.{goes_on_loud, same_preorder, same_variables, task_did}
use Rattle.vc_occam.proofs.running.Running.resume.Goals as goal

pub go-requires : goal.go-requires
unfolding state
go-requires c =
    let self = c.args.self.now in
    let r = remains self.task in
    let e = store self.vars.items in record {
      can = record {
        able = able_on r e c.args.site c.args.message c.requires;
        brings = λ q. goes_on_loud c.args.message _ q;
        variables = self.has_variables;
        in_preorder = self.in_preorder;
        sound = self.sound;
      };
    }

pub invariant_of-self : goal.invariant_of-self
invariant_of-self c =
    let self = c.args.self.now in
    let went = c.go.ensures.went in
    let did = task_did _ _ _ c.go.result c.go.new.self _ c.go.ensures.begins went in record {
      has_variables = same_variables _ _ went c.go.ensures.length self.has_variables;
      in_preorder = same_preorder went self.in_preorder;
      own_sites = (step_keeps did.1 self.own_sites).1;
      uses_lawfully = step_uses did.1 self.uses_lawfully;
      sound = went.sound;
      waiting = none_waits _ _ c.new.ensures.outputs c.new.ensures.inputs;
    }

pub returns-clause-resumed : goal.returns-clause-resumed
unfolding state
returns-clause-resumed c =
    let self = c.args.self.now in
    let r = remains self.task in
    let e = store self.vars.items in
    let q = remains c.go.new.self in
    let f = store c.go.new.vars.items in
    let before : State = record { rest = r; store = e } in
    let after : State = record { rest = q; store = f } in
    resumes before after c.args.site c.args.message self.own_sites self.uses_lawfully (task_did _ _ _ c.go.result c.go.new.self _ c.go.ensures.begins c.go.ensures.went)
