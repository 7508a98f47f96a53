use Rattle.std.proofs.Common.{◌≡◌, ◌++◌, ◌≤◌, [], ◌∷◌, length, take, get_or, slice_get, Some, sym, ap, ◌∙◌, subst, add-one}
use Rattle.std.proofs.lemmas.List.{take_all}
use Rattle.std.proofs.lemmas.Option.{slice_get-get_or}
use Rattle.vc_plan.specs.declared.port.Wire.{Wire}
use Rattle.vc_plan.specs.declared.port.Spot.TheVariants.{Node}
use Rattle.vc_core.specs.Private.Wiring.{end_at, ends_of}
use Rattle.vc_core.proofs.WaysOut.{ends_more}
use Rattle.vc_core.proofs.ends.ends_of.Goals as goal

-- what is read past the wires
none : Wire
none = record { one = record { spot = Node 0; link = 0 }; two = record { spot = Node 0; link = 0 } }

pub loop-wire-init : goal.loop-wire-init
loop-wire-init c = c.new-ends.ensures.items

pub end_at-requires : goal.end_at-requires
end_at-requires c = subst (λ n. n ≤ 32) (sym c.len-nodes.ensures) c.requires

pub end_at-requires-in-loop-wire : goal.end_at-requires-in-loop-wire
end_at-requires-in-loop-wire c = subst (λ n. n ≤ 32) (sym c.len-nodes.ensures) c.requires

pub loop-wire-preserved : goal.loop-wire-preserved
unfolding none
loop-wire-preserved c =
    let p = c.args.plan.now in
    let k = c.loop-wire.wire-index in
    let xs = c.as_slice-wire-items.result.now in
    let w = get_or xs k none in
    let n = length p.nodes in
    let there : slice_get p.wires k ≡ Some w = sym (ap (λ z. slice_get z k) c.as_slice-wire-items.ensures) ∙ slice_get-get_or xs k none c.loop-wire-test.true in
    let two : c.end_at.result ≡ end_at n w.two = c.end_at.ensures ∙ ap (λ m. end_at m w.two) c.len-nodes.ensures in
    let one : c.end_at-in-loop-wire.result ≡ end_at n w.one = c.end_at-in-loop-wire.ensures ∙ ap (λ m. end_at m w.one) c.len-nodes.ensures in
    c.in_ok-push-2.ensures.items ∙ ap (λ zs. zs ++ c.end_at-in-loop-wire.result ∷ []) c.in_ok-push.ensures.items ∙ (λ i. (c.loop-wire.invariant i ++ two i ∷ []) ++ one i ∷ [])
    ∙ ends_more n p.wires k w there ∙ ap (λ m. ends_of n (take m p.wires)) (sym (add-one k))

pub returns : goal.returns
returns c =
    let p = c.args.plan.now in
    let past = subst (λ xs. length xs ≤ c.loop-wire.wire-index) c.as_slice-wire-items.ensures c.loop-wire-test.false in
    c.loop-wire.invariant ∙ ap (ends_of (length p.nodes)) (take_all c.loop-wire.wire-index p.wires past)
