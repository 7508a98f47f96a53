use Rattle.std.proofs.Common.{subst, sym}
use Rattle.vc_occam.specs.declared.waiters.Waiters.{Waiters}
use Rattle.vc_occam.specs.Frames.{remains}
use Rattle.vc_occam.specs.Private.MoveSites.{at}
use Rattle.vc_occam.specs.Private.Waiters.{AllWait}
use Rattle.vc_occam.specs.Runnings.{state}
use Rattle.vc_occam.specs.States.{waiting}
use Rattle.vc_process.specs.Terms.{store}
use Rattle.vc_occam.proofs.Made.{able_on}
use Rattle.vc_occam.proofs.NotedWaits.{awaits, one_less, went_on}
use Rattle.vc_occam.proofs.Preservation.{step_uses}
use Rattle.vc_occam.proofs.Sites.{step_keeps}
use Rattle.vc_occam.proofs.Tasks.{goes_on_loud, same_preorder, same_variables, task_did}
use Rattle.vc_occam.proofs.running.Running.go_on.Goals as goal

pub go-requires : goal.go-requires
unfolding state
go-requires c =
    let self = c.args.self.now in
    let r = remains self.task in record {
      can = record {
        able = able_on r (store self.vars.items) c.in-Some.site c.args.message (awaits r c.args.wanted c.args.message c.in-Some.site c.requires c.in-Some.ensures);
        brings = λ q. goes_on_loud c.args.message _ q;
        variables = self.has_variables;
        in_preorder = self.in_preorder;
        sound = self.sound;
      };
    }

pub invariant_of-self : goal.invariant_of-self
unfolding state
invariant_of-self c =
    let self = c.args.self.now in
    let went = c.go.ensures.went in
    let did = task_did _ _ _ c.go.result c.go.new.self _ c.go.ensures.begins went in
    let before = at (remains self.task) (store self.vars.items) in
    let after = at (remains c.go.new.self) (store c.go.new.vars.items) in
    let gone = went_on before after c.args.wanted c.args.message c.in-Some.site self.own_sites self.uses_lawfully c.requires did c.in-Some.ensures in
    let noted = subst (λ (w : Waiters). AllWait w (waiting (remains self.task))) (sym c.deref_mut.ensures.value) self.waiting in record {
      has_variables = same_variables _ _ went c.go.ensures.length self.has_variables;
      in_preorder = same_preorder went self.in_preorder;
      own_sites = (step_keeps did.1 self.own_sites).1;
      uses_lawfully = step_uses did.1 self.uses_lawfully;
      sound = went.sound;
      waiting = one_less c.deref_mut.result.now c.forget.new.self _ _ c.args.wanted gone.gone gone.less gone.apart c.forget.ensures noted;
    }

pub returns-clause-went : goal.returns-clause-went
unfolding state
returns-clause-went c = λ h.
    let self = c.args.self.now in
    let before = at (remains self.task) (store self.vars.items) in
    let after = at (remains c.go.new.self) (store c.go.new.vars.items) in
    let did = task_did _ _ _ c.go.result c.go.new.self _ c.go.ensures.begins c.go.ensures.went in
    (went_on before after c.args.wanted c.args.message c.in-Some.site self.own_sites self.uses_lawfully c.requires did c.in-Some.ensures).acts
