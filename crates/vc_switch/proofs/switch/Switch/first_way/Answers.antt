use Rattle.std.proofs.Common.{◌≡◌, ◌≤◌, length, drop, sym, ap, ◌∙◌, subst, Some, None}
use Rattle.vc_switch.specs.Able.{IsFirst}
use Rattle.vc_switch.specs.Switch.{BodyLeaves}
use Rattle.vc_switch.specs.State.{IsSwitch, plan_of}
use Rattle.vc_switch.specs.Front.{front_of}
use Rattle.vc_switch.specs.Private.Front.{start_of, HasFront}
use Rattle.vc_switch.specs.declared.front.Front.{Front}
use Rattle.vc_switch.proofs.Fronts.{gone}
use Rattle.vc_switch.proofs.Routes.{first_leaves, start_within}
use Rattle.vc_switch.proofs.switch.Switch.first_way.Goals as goal

pub returns-in-Some : goal.returns-in-Some
returns-in-Some c =
    let x = c.self.inside in
    let s = c.args.self.now in
    let b = c.args.body.now in
    let f = c.in-Some.front in
    let has : HasFront s.table b f = subst (λ z. HasFront z.table b f) c.self.view_is c.in-Some.ensures.has in
    let is : Some f ≡ front_of s.table b = sym c.in-Some.is ∙ subst (λ z. c.find_front.result ≡ front_of z.table b) c.self.view_is c.find_front.ensures.front in
    let first : IsFirst (plan_of s) b f.first = λ output left leaves. (let g = gone (plan_of s) b output left leaves in let q : Some f ≡ Some g.front = is ∙ g.is in let same : f ≡ g.front = cc in subst (λ (z : Front). z.first ≤ output) (sym same) g.low) in
    let from : c.leaves_from.result ≡ start_of ((plan_of s).deletes f.first) f = c.leaves_from.ensures ∙ ap (λ d. start_of d f) c.does_delete.ensures in
    subst (λ n. (n ≤ length b) × BodyLeaves (plan_of s) b f.first (drop n b) × IsFirst (plan_of s) b f.first) (sym from)
    (start_within ((plan_of s).deletes f.first) f b c.in-Some.ensures.within, first_leaves s b f (subst IsSwitch c.self.view_is c.self.invariant) has, first)

pub returns-in-None : goal.returns-in-None
returns-in-None c = λ output left leaves.
    let s = c.args.self.now in
    let b = c.args.body.now in
    let none : None ≡ front_of s.table b = sym c.in-None.is ∙ subst (λ z. c.find_front.result ≡ front_of z.table b) c.self.view_is c.find_front.ensures.front in
    let g = gone (plan_of s) b output left leaves in
    absurd (let q : None ≡ Some g.front = none ∙ g.is in cc)
