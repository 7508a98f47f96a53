use Rattle.std.proofs.Common.{◌≡◌, ◌∙◌, ap, refl, sym, subst}
use Rattle.std.specs.List.{Contains}
use Rattle.vc_occam.specs.declared.moves.Move.{Move}
use Rattle.vc_occam.specs.declared.moves.Move.TheVariants as move
use Rattle.vc_occam.specs.First.{own, first_moves}
use Rattle.vc_occam.specs.Frames.{remains}
use Rattle.vc_occam.specs.Private.MoveSites.{CanBegin, HasMet, at}
use Rattle.vc_occam.specs.MoveSites.{site_of, without}
use Rattle.vc_occam.specs.Runnings.{state, inner_channels}
use Rattle.vc_occam.specs.States.{Acts, FitsMove, doing, sent_by}
use Rattle.vc_process.specs.Terms.{store}
use Rattle.vc_process.specs.Usage.{among}
use Rattle.vc_occam.proofs.Meets.{acts_met, can_begin, meeting_listed, other_listed, met_sites, met_use}
use Rattle.vc_occam.proofs.NoInnerChannels.{apart}
use Rattle.vc_occam.proofs.NotedWaits.{all_stay}
use Rattle.vc_occam.proofs.OtherMoves.{stays}
use Rattle.vc_occam.proofs.StepWaits.{waits_after}
use Rattle.vc_occam.proofs.running.Running.act.Goals as goal

pub meet-requires-clause-meets : goal.meet-requires-clause-meets
unfolding state inner_channels
meet-requires-clause-meets c =
    let self = c.args.self.now in
    let ins = among self.inside in
    let r = remains self.task in
    let e = store self.vars.items in
    let i = c.in-Inner.sender in
    let j = c.in-Inner.receiver in
    let k = c.in-Inner.guard in
    let d = c.in-Inner.chan in
    let n = meeting_listed ins r e i j k d (subst (λ (m : Move). Contains (first_moves ins r e) m) c.in-Inner.is c.requires.listed) in
    subst (λ (m : Move). CanBegin (own r e) i d m) (sym c.partner-taken.ensures) (can_begin ins (own r e) i j k d n)

pub invariant_of-self-clause-own_sites : goal.invariant_of-self-clause-own_sites
invariant_of-self-clause-own_sites c =
    let self = c.args.self.now in
    let before = at (remains self.task) (store self.vars.items) in
    let after = at (remains c.meet.new.task) (store c.meet.new.vars.items) in
    let i = c.in-Inner.sender in
    let d = c.in-Inner.chan in
    met_sites before after i c.in-Inner.receiver c.in-Inner.guard d c.args.answer self.own_sites (subst (λ (m : Move). HasMet before i d m c.args.answer after) c.partner-taken.ensures c.meet.ensures.met)

pub invariant_of-self-clause-uses_lawfully : goal.invariant_of-self-clause-uses_lawfully
invariant_of-self-clause-uses_lawfully c =
    let self = c.args.self.now in
    let before = at (remains self.task) (store self.vars.items) in
    let after = at (remains c.meet.new.task) (store c.meet.new.vars.items) in
    let i = c.in-Inner.sender in
    let d = c.in-Inner.chan in
    met_use before after i c.in-Inner.receiver c.in-Inner.guard d c.args.answer self.uses_lawfully (subst (λ (m : Move). HasMet before i d m c.args.answer after) c.partner-taken.ensures c.meet.ensures.met)

pub invariant_of-self-clause-waiting : goal.invariant_of-self-clause-waiting
unfolding state inner_channels
invariant_of-self-clause-waiting c =
    let self = c.args.self.now in
    let before = at (remains self.task) (store self.vars.items) in
    let after = at (remains c.meet.new.task) (store c.meet.new.vars.items) in
    let i = c.in-Inner.sender in
    let j = c.in-Inner.receiver in
    let k = c.in-Inner.guard in
    let d = c.in-Inner.chan in
    let fits = subst (λ (m : Move). FitsMove m (sent_by before m) c.args.answer) c.in-Inner.is c.requires.fits in
    let acts = acts_met before after i j k d c.args.answer self.uses_lawfully fits (subst (λ (m : Move). HasMet before i d m c.args.answer after) c.partner-taken.ensures c.meet.ensures.met) in
    let kept = waits_after before after (doing (move.Inner i j k d) (sent_by before (move.Inner i j k d)) c.args.answer) acts.0 acts.1 in
    all_stay self.waiters.value _ _ (λ w. (kept w).1) self.waiting

pub returns-in-Inner-clause-made : goal.returns-in-Inner-clause-made
unfolding state inner_channels
returns-in-Inner-clause-made c =
    let self = c.args.self.now in
    let before = at (remains self.task) (store self.vars.items) in
    let after = at (remains c.meet.new.task) (store c.meet.new.vars.items) in
    let i = c.in-Inner.sender in
    let j = c.in-Inner.receiver in
    let k = c.in-Inner.guard in
    let d = c.in-Inner.chan in
    let fits = subst (λ (m : Move). FitsMove m (sent_by before m) c.args.answer) c.in-Inner.is c.requires.fits in
    subst (λ (m : Move). Acts before (doing m (sent_by before m) c.args.answer) after) (sym c.in-Inner.is)
    (acts_met before after i j k d c.args.answer self.uses_lawfully fits (subst (λ (m : Move). HasMet before i d m c.args.answer after) c.partner-taken.ensures c.meet.ensures.met))

pub act_alone-requires-clause-listed : goal.act_alone-requires-clause-listed
unfolding state inner_channels
act_alone-requires-clause-listed c =
    let self = c.args.self.now in
    (other_listed (among self.inside) (remains self.task) (store self.vars.items) c.args.made.now c.in_default.not-Inner c.requires.listed).1

pub returns-in_default-clause-waits : goal.returns-in_default-clause-waits
unfolding state inner_channels
returns-in_default-clause-waits c = λ waits none.
    let self = c.args.self.now in
    let next = c.act_alone.new.self in
    let i = site_of c.args.made.now in
    let ms = own (remains self.task) (store self.vars.items) in
    let ns = own (remains next.task) (store next.vars.items) in
    let kept : ns ≡ without i ms = stays (state self) (state next) c.args.made.now (sent_by (state self) c.args.made.now) c.args.answer self.own_sites c.act_alone.ensures.made waits in
    apart (inner_channels next) (λ d. ap (λ s. s d) c.act_alone.ensures.inside ∙ none d) ns ns ∙ kept ∙ ap (without i) (sym (apart (inner_channels self) none ms ms))

pub meet-requires-clause-fits : goal.meet-requires-clause-fits
unfolding state inner_channels
meet-requires-clause-fits c =
    let s = state c.args.self.now in
    subst (λ (m : Move). FitsMove m (sent_by s m) c.args.answer) c.in-Inner.is c.requires.fits

pub returns-in-Inner-clause-inside : goal.returns-in-Inner-clause-inside
unfolding state inner_channels
returns-in-Inner-clause-inside c = refl
