use Rattle.std.proofs.Common.{◌≡◌, ◌<◌, Some, sym, ap, subst, arith, slice_set}
use Rattle.std.proofs.lemmas.Option.{slice_get_read}
use Rattle.vc_credit.specs.Ends.{IsFront}
use Rattle.vc_tokens.specs.Tokens.{EndMark}
use Rattle.vc_vcp.specs.Links.{Passes}
use Rattle.vc_vcp.specs.VcpView.{seen, ends_of, taken_of, link_of, carrier_of}
use Rattle.vc_vcp.specs.Steps.{Arrives}
use Rattle.vc_vcp.specs.State.{State, limit_of}
use Rattle.vc_vcp.proofs.Passes.{mark_passes, front_at, wired_passing}
use Rattle.vc_vcp.proofs.vcp.Vcp.pass_mark.Goals as goal

pub pass_mark-requires : goal.pass_mark-requires
pass_mark-requires c =
    let s = c.args.self.now in
    let y = c.self.inside in
    let k = c.from-at.result in
    let within : k < 4 = omega arith in
    let n : State = record { outputs = y.outputs.items; inputs = y.inputs.items; outs = y.outs.items; ins = y.ins.items; strays = y.strays } in
    let z = c.index_mut.result.now in
    let there = slice_get_read y.ins.items 4 k z (sym c.self.invariant.four_in) within c.index_mut.ensures.value in
    let links = subst (λ a. link_of a ≡ link_of s) (sym c.self.view_is) c.take_passed.ensures.links in
    (c.args.mark, front_at s n k z (EndMark c.args.mark) links there (subst (λ j. IsFront (link_of s j).receiver (EndMark c.args.mark)) (sym c.from-at.ensures) c.requires.front))

pub invariant_of-self : goal.invariant_of-self
invariant_of-self c =
    let s = c.args.self.now in
    let y = c.self.inside in
    let k = c.from-at.result in
    let within : k < 4 = omega arith in
    let n : State = record { outputs = y.outputs.items; inputs = y.inputs.items; outs = y.outs.items; ins = y.ins.items; strays = y.strays } in
    let z = c.index_mut.result.now in
    let there = slice_get_read y.ins.items 4 k z (sym c.self.invariant.four_in) within c.index_mut.ensures.value in
    let links = subst (λ a. link_of a ≡ link_of s) (sym c.self.view_is) c.take_passed.ensures.links in
    let front = front_at s n k z (EndMark c.args.mark) links there (subst (λ j. IsFront (link_of s j).receiver (EndMark c.args.mark)) (sym c.from-at.ensures) c.requires.front) in
    wired_passing n k z c.pass_mark.new.self (EndMark c.args.mark) c.self.invariant there (c.pass_mark.ensures.front c.args.mark front) (ap (λ a. a.limit) c.pass_mark.ensures.after)

pub returns-clause-passes : goal.returns-clause-passes
returns-clause-passes c =
    let s = c.args.self.now in
    let y = c.self.inside in
    let k = c.from-at.result in
    let within : k < 4 = omega arith in
    let n : State = record { outputs = y.outputs.items; inputs = y.inputs.items; outs = y.outs.items; ins = y.ins.items; strays = y.strays } in
    let z = c.index_mut.result.now in
    let there = slice_get_read y.ins.items 4 k z (sym c.self.invariant.four_in) within c.index_mut.ensures.value in
    let links = subst (λ a. link_of a ≡ link_of s) (sym c.self.view_is) c.take_passed.ensures.links in
    let front = front_at s n k z (EndMark c.args.mark) links there (subst (λ j. IsFront (link_of s j).receiver (EndMark c.args.mark)) (sym c.from-at.ensures) c.requires.front) in
    let arrives = subst (λ a. Arrives (ends_of s) (carrier_of s) (record { body = (link_of s k).passed; mark = c.args.mark }) (taken_of c.in_ok-taken.taken) (carrier_of a)) (sym c.self.view_is) c.in_ok-taken.ensures.arrives in
    subst (λ j. Passes (limit_of s.ins) (ends_of s) (seen s) j (Some (taken_of c.in_ok-taken.taken)) (seen (record n { ins = slice_set y.ins.items k c.pass_mark.new.self }))) c.from-at.ensures
    (mark_passes s n k (limit_of s.ins) z c.pass_mark.new.self c.args.mark (taken_of c.in_ok-taken.taken) arrives links there (c.pass_mark.ensures.front c.args.mark front) c.pass_mark.ensures.after)
