use Rattle.std.proofs.Common.{length, subst, sym}
use Rattle.vc_occam.specs.declared.moves.Move.{Move}
use Rattle.vc_occam.specs.First.{own}
use Rattle.vc_occam.specs.Frames.{remains}
use Rattle.vc_occam.specs.MoveSites.{site_of}
use Rattle.vc_occam.specs.Private.Frames.{Able, Did, HasVariables, whole}
use Rattle.vc_occam.specs.Private.MoveSites.{HasMet, action_for, at, partner}
use Rattle.vc_occam.specs.Private.SiteSteps.{one}
use Rattle.vc_occam.specs.Private.Sites.{InPreorder}
use Rattle.vc_process.specs.Syntax.{Proc}
use Rattle.vc_process.specs.Terms.{store}
use Rattle.vc_occam.proofs.Made.{able}
use Rattle.vc_occam.proofs.Meets.{as_partner, met_partner}
use Rattle.vc_occam.proofs.TakenFirst.{able_later, met_later}
use Rattle.vc_occam.proofs.Tasks.{task_did}
use Rattle.vc_occam.proofs.running.meet.Goals as goal

pub go_alone-requires-clause-able : goal.go_alone-requires-clause-able
go_alone-requires-clause-able c =
    let r = remains c.args.task.now in
    let e = store c.args.vars.now.items in
    let p = as_partner (own r e) c.args.sender c.args.chan c.args.taken.now c.requires.meets in
    subst (λ (m : Move). Able r e (site_of m) (action_for m c.args.answer)) (sym p.2) (able r e (partner p.0 p.1 c.args.chan) c.args.answer p.4)

pub go-requires : goal.go-requires
go-requires c =
    let r = remains c.args.task.now in
    let e = store c.args.vars.now.items in
    let q = remains c.go_alone.new.task in
    let f = store c.go_alone.new.vars.items in
    let plan = c.go_alone.ensures.plan in
    let p = as_partner (own r e) c.args.sender c.args.chan c.args.taken.now c.requires.meets in
    let tk = subst (λ (m : Move). Did r e (site_of m) (one (action_for m c.args.answer)) q f) p.2 c.go_alone.ensures.did in record {
      can = record {
        able = able_later c.args.sender p.0 p.1 c.args.chan c.args.answer c.requires.own_sites c.requires.uses_lawfully p.3 p.4 tk;
        brings = λ h. cc;
        variables = subst (λ (s : Proc). HasVariables s (length c.go_alone.new.vars.items)) (sym plan) (subst (HasVariables (whole c.args.task.now)) (sym c.go_alone.ensures.length) c.requires.variables);
        in_preorder = subst InPreorder (sym plan) c.requires.in_preorder;
        sound = c.go_alone.ensures.sound;
      };
    }

pub returns-clause-met : goal.returns-clause-met
returns-clause-met c =
    let r = remains c.args.task.now in
    let e = store c.args.vars.now.items in
    let q = remains c.go_alone.new.task in
    let f = store c.go_alone.new.vars.items in
    let t = remains c.go.new.self in
    let h = store c.go.new.vars.items in
    let p = as_partner (own r e) c.args.sender c.args.chan c.args.taken.now c.requires.meets in
    let tk = subst (λ (m : Move). Did r e (site_of m) (one (action_for m c.args.answer)) q f) p.2 c.go_alone.ensures.did in
    let done = task_did _ _ _ c.go.result c.go.new.self _ c.go.ensures.begins c.go.ensures.went in
    subst (λ (m : Move). HasMet (at r e) c.args.sender c.args.chan m c.args.answer (at t h)) (sym p.2)
    (met_partner (at r e) (at t h) c.args.sender p.0 p.1 c.args.chan c.args.answer
    (met_later c.args.sender p.0 p.1 c.args.chan c.args.answer c.requires.own_sites c.requires.uses_lawfully p.3 p.4 tk c.requires.fits done))
