use Rattle.std.proofs.Common.{◌≡◌, true, false, sym, ◌∙◌, subst, List}
use Rattle.std.specs.List.{Contains}
use Rattle.vc_process.specs.declared.datum.Datum.{Datum}
use Rattle.vc_occam.specs.declared.moves.Move.{Move}
use Rattle.vc_occam.specs.First.{own, first_moves}
use Rattle.vc_occam.specs.Private.Frames.{is_outside}
use Rattle.vc_occam.specs.Frames.{remains}
use Rattle.vc_occam.specs.Runnings.{state, inner_channels}
use Rattle.vc_process.specs.Terms.{store}
use Rattle.vc_process.specs.Usage.{among}
use Rattle.vc_occam.proofs.Meets.{meeting_listed, lists_meeting, other_listed, lists_other}
use Rattle.vc_occam.proofs.running.Running.lists.Goals as goal

pub returns-in-Inner : goal.returns-in-Inner
unfolding state inner_channels
returns-in-Inner c =
    let self = c.args.self.now in
    let ins = among self.inside in
    let r = remains self.task in
    let e = store self.vars.items in
    let i = c.in-Inner.sender in
    let j = c.in-Inner.receiver in
    let k = c.in-Inner.guard in
    let d = c.in-Inner.chan in (
      λ q. subst (λ (m : Move). Contains (first_moves ins r e) m) (sym c.in-Inner.is) (lists_meeting ins r e i j k d (c.meet_now.ensures.0 q)),
      λ q. c.meet_now.ensures.1 (meeting_listed ins r e i j k d (subst (λ (m : Move). Contains (first_moves ins r e) m) c.in-Inner.is q)),
    )

pub returns-then-is_outside : goal.returns-then-is_outside
unfolding state inner_channels
returns-then-is_outside c =
    let self = c.args.self.now in
    let ins = among self.inside in
    let r = remains self.task in
    let e = store self.vars.items in
    let made = c.args.made.now in
    let o : is_outside ins made ≡ true = sym c.is_outside.ensures ∙ c.if-is_outside.true in (
      λ q. lists_other ins r e made o (subst (λ (xs : List Datum). Contains (own r (store xs)) made) c.deref.ensures.value (c.begins_with.ensures.0 q)),
      λ q. c.begins_with.ensures.1 (subst (λ (xs : List Datum). Contains (own r (store xs)) made) (sym c.deref.ensures.value) (other_listed ins r e made c.in_default.not-Inner q).1),
    )

pub returns-else-is_outside : goal.returns-else-is_outside
unfolding state inner_channels
returns-else-is_outside c =
    let self = c.args.self.now in
    let ins = among self.inside in
    let r = remains self.task in
    let e = store self.vars.items in
    let made = c.args.made.now in
    let o : is_outside ins made ≡ false = sym c.is_outside.ensures ∙ c.if-is_outside.false in (
      λ q. absurd (let z : false ≡ true = sym c.if-is_outside.false ∙ q in cc),
      λ q. absurd (let z : false ≡ true = sym o ∙ (other_listed ins r e made c.in_default.not-Inner q).0 in cc),
    )
