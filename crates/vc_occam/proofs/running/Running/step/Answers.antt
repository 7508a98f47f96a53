use Rattle.vc_occam.specs.declared.answer.Answer.TheVariants.{Nothing}
use Rattle.vc_occam.specs.declared.moves.Move.TheVariants as move
use Rattle.vc_occam.specs.Frames.{remains}
use Rattle.vc_occam.specs.Runnings.{state, inner_channels}
use Rattle.vc_occam.specs.States.{State}
use Rattle.vc_process.specs.Terms.{store}
use Rattle.vc_process.specs.Usage.{among}
use Rattle.vc_occam.proofs.MoveActs.{acts}
use Rattle.vc_occam.proofs.Preservation.{step_uses}
use Rattle.vc_occam.proofs.Made.{able}
use Rattle.vc_occam.proofs.Meets.{other_listed}
use Rattle.vc_occam.proofs.NotedWaits.{all_stay, same_stay}
use Rattle.vc_occam.proofs.Sites.{step_keeps}
use Rattle.vc_occam.proofs.StepWaits.{step_waits}
use Rattle.vc_occam.proofs.Tasks.{same_preorder, same_variables, task_did}
use Rattle.vc_occam.proofs.running.Running.step.Goals as goal

pub go-requires : goal.go-requires
unfolding state inner_channels
go-requires c =
    let self = c.args.self.now in
    let r = remains self.task in
    let e = store self.vars.items in
    let m = move.Quiet c.args.site in record {
      can = record {
        able = able r e m Nothing (other_listed (among self.inside) r e m (λ i j k d q. cc) c.requires.listed).1;
        brings = λ q. c.requires.assigned;
        variables = self.has_variables;
        in_preorder = self.in_preorder;
        sound = self.sound;
      };
    }

pub invariant_of-self : goal.invariant_of-self
invariant_of-self c =
    let self = c.args.self.now in
    let went = c.go.ensures.went in
    let did = task_did _ _ _ c.go.result c.go.new.self _ c.go.ensures.begins went in record {
      has_variables = same_variables _ _ went c.go.ensures.length self.has_variables;
      in_preorder = same_preorder went self.in_preorder;
      own_sites = (step_keeps did.1 self.own_sites).1;
      uses_lawfully = step_uses did.1 self.uses_lawfully;
      sound = went.sound;
      waiting = all_stay self.waiters.value _ _ (same_stay _ _ (step_waits did.1)) self.waiting;
    }

pub returns-clause-made : goal.returns-clause-made
unfolding state inner_channels
returns-clause-made c =
    let self = c.args.self.now in
    let before : State = record { rest = remains self.task; store = store self.vars.items } in
    let after : State = record { rest = remains c.go.new.self; store = store c.go.new.vars.items } in
    acts before after (move.Quiet c.args.site) Nothing self.own_sites self.uses_lawfully tt (task_did _ _ _ c.go.result c.go.new.self _ c.go.ensures.begins c.go.ensures.went)
