use Rattle.std.proofs.Common.{◌≡◌, ◌<◌, ◌∙◌, false, true, None, Some, slice_get, sym, refl, subst, length}
use Rattle.std.specs.List.{AllByRecursion}
use Rattle.std.proofs.lemmas.Option.{slice_get_read}
use Rattle.vc_vcp.specs.Names.{named}
use Rattle.vc_vcp.specs.State.{HaveOwnNames, IsInput, IsPieceOf}
use Rattle.vc_vcp.proofs.KeyedLemmas.{named_has}
use Rattle.vc_vcp.proofs.Strays.{piece_strays, full_none, full_some}
use Rattle.vc_vcp.proofs.vcp.Vcp.empty_input.Goals as goal

pub returns-in_default : goal.returns-in_default
returns-in_default c p piece =
    let own = subst (λ z. HaveOwnNames z.outputs z.inputs) c.self.view_is c.self.invariant.names in
    let w = subst (λ z. AllByRecursion IsInput z.inputs) c.self.view_is c.self.invariant.inputs in
    let s = c.args.self.now in
    let none = subst (λ z. named (λ x. x.block) c.args.block z.inputs ≡ None) c.self.view_is
    (subst (λ z. named (λ x. x.block) c.args.block z ≡ None) c.deref.ensures.value c.in_default.ensures.found) in
    piece_strays s p c.args.block own w piece (full_none s c.args.block none)

pub returns-then-may_arrive : goal.returns-then-may_arrive
returns-then-may_arrive c p piece =
    let x = c.self.inside in
    let i = c.in-Some.at in
    let a = c.index.result.now in
    let within : i < length x.inputs.items = subst (λ z. i < length z) c.deref.ensures.value c.in-Some.ensures.within in
    let here = slice_get_read x.inputs.items (length x.inputs.items) i a refl within c.index.ensures in
    let found : slice_get x.inputs.items i ≡ named (λ x. x.block) c.args.block x.inputs.items = subst (λ z. slice_get z i ≡ named (λ x. x.block) c.args.block z) c.deref.ensures.value c.in-Some.ensures.found in
    let block : a.block ≡ c.args.block = named_has (λ x. x.block) c.args.block x.inputs.items a (sym found ∙ here) in
    record {
      input = a;
      here = subst (λ z. slice_get z.inputs i ≡ Some a) c.self.view_is here;
      empty = c.may_arrive.ensures.0 c.if-may_arrive.true;
      piece = subst (λ z. IsPieceOf z p) (sym block) piece;
    }

pub returns-else-may_arrive : goal.returns-else-may_arrive
returns-else-may_arrive c p piece =
    let own = subst (λ z. HaveOwnNames z.outputs z.inputs) c.self.view_is c.self.invariant.names in
    let w = subst (λ z. AllByRecursion IsInput z.inputs) c.self.view_is c.self.invariant.inputs in
    let x = c.self.inside in
    let s = c.args.self.now in
    let i = c.in-Some.at in
    let a = c.index.result.now in
    let within : i < length x.inputs.items = subst (λ z. i < length z) c.deref.ensures.value c.in-Some.ensures.within in
    let here = slice_get_read x.inputs.items (length x.inputs.items) i a refl within c.index.ensures in
    let found : slice_get x.inputs.items i ≡ named (λ x. x.block) c.args.block x.inputs.items = subst (λ z. slice_get z i ≡ named (λ x. x.block) c.args.block z) c.deref.ensures.value c.in-Some.ensures.found in
    let some = subst (λ z. named (λ x. x.block) c.args.block z.inputs ≡ Some a) c.self.view_is (sym found ∙ here) in
    let full = λ (none : a.half.held ≡ None). (let t : c.may_arrive.result ≡ true = c.may_arrive.ensures.1 none in let f : c.may_arrive.result ≡ false = c.if-may_arrive.false in absurd (cc)) in
    piece_strays s p c.args.block own w piece (full_some s c.args.block a some full)
