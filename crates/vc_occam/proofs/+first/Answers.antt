use Rattle.std.proofs.Common.{rules, ◌≡◌, ◌∙◌, ap, List, ℕ, drop, map, subst, sym, true}
use Rattle.vc_occam.specs.declared.frame.Frame.{Frame}
use Rattle.vc_occam.specs.declared.frame.Frame.TheViews.{out-Frame, the_lemmas}
use Rattle.vc_occam.specs.declared.frame.Task.{Task}
use Rattle.vc_occam.specs.First.{own}
use Rattle.vc_occam.specs.Frames.{all_sound, besides, plans_of, task_view, view}
use Rattle.vc_occam.specs.MoveSites.{from_site}
use Rattle.vc_occam.specs.Private.Frames.{seen_guard, seen_task, task_views}
use Rattle.vc_occam.specs.Private.Sites.{PartsInPreorder}
use Rattle.vc_occam.specs.Remains.{Rest}
use Rattle.vc_process.specs.Terms.{store}
use Rattle.vc_occam.proofs.AtItself.{at_itself}
use Rattle.vc_occam.proofs.Choices.{moves_first}
use Rattle.vc_occam.proofs.Innermost.{same_own}
use Rattle.vc_occam.proofs.Inside.{tasks_inside}
use Rattle.vc_occam.proofs.Outcomes.{nothing_own, task_outcome}
use Rattle.vc_occam.proofs.Pars.{par_preorder, par_rest, par_sound, preorder_at, sound_at}
use Rattle.vc_occam.proofs.Sought.{first_own, from_part, none_later, seek_end, seek_found, seek_more}
use Rattle.vc_occam.proofs.+first.Goals as goal

pub frame::Frame::first_from-returns-in-Some : goal.frame::Frame::first_from-returns-in-Some
frame::Frame::first_from-returns-in-Some t c =
    c.first_from.ensures ∙ ap (from_site c.args.site) (sym (same_own (view c.args.self.now).rest (view c.in-Some.part.now).rest (store c.args.vars.now) c.in-Some.ensures.rest))

pub frame::Frame::first_from-part_with-place-requires :
    goal.frame::Frame::first_from-part_with-place-requires
frame::Frame::first_from-part_with-place-requires t c =
    subst (λ (ts : List (Task Frame)). PartsInPreorder (plans_of (task_views ts))) (sym c.as_slice-tasks.ensures.value) (par_preorder c.args.self.now c.in-Par.par c.in-Par.is c.requires.in_preorder)

pub frame::Frame::first_from-loop-place-init : goal.frame::Frame::first_from-loop-place-init
frame::Frame::first_from-loop-place-init t c =
    let ts = c.as_slice-tasks.result.now in
    let e = store c.args.vars.now in
    let pre = subst (λ (ts : List (Task Frame)). PartsInPreorder (plans_of (task_views ts))) (sym c.as_slice-tasks.ensures.value) (par_preorder c.args.self.now c.in-Par.par c.in-Par.is c.requires.in_preorder) in
    ap (λ (k : ℕ). from_site c.args.site (own (besides (task_views (drop k ts))) e)) c.part_with-place.ensures ∙ from_part c.args.site ts e pre (tasks_inside ts)

pub frame::Frame::first_from-first_from-requires-in-loop-place :
    goal.frame::Frame::first_from-first_from-requires-in-loop-place
frame::Frame::first_from-first_from-requires-in-loop-place t c =
    let f = c.args.self.now in
    let ts = c.as_slice-tasks.result.now in
    let k = c.loop-place.place in
    let task = c.index-tasks-place.result in
    let same = sym c.as_slice-tasks.ensures.value in
    let all = subst (λ (ts : List (Task Frame)). all_sound (task_views ts) ≡ true) same (par_sound f c.in-Par.par c.requires.sound c.in-Par.is) in
    let pre = subst (λ (ts : List (Task Frame)). PartsInPreorder (plans_of (task_views ts))) same (par_preorder f c.in-Par.par c.in-Par.is c.requires.in_preorder) in
    (search (rules, the_lemmas), (sound_at ts k task all c.loop-place-test.true c.index-tasks-place.is, preorder_at ts k task pre c.loop-place-test.true c.index-tasks-place.is))

pub frame::Frame::first_from-returns-in-Some-first_from :
    goal.frame::Frame::first_from-returns-in-Some-first_from
frame::Frame::first_from-returns-in-Some-first_from t c =
    let e = store c.args.vars.now in
    let rest = ap (λ (ts : List (Task Frame)). besides (task_views ts)) c.as_slice-tasks.ensures.value ∙ sym (par_rest c.args.self.now c.in-Par.par c.requires.sound c.in-Par.is) in
    seek_found c.args.site c.loop-place.place c.as_slice-tasks.result.now c.index-tasks-place.result e c.loop-place-test.true c.index-tasks-place.is _ c.in-Some-first_from.made (sym c.in-Some-first_from.ensures) c.loop-place.invariant
    ∙ ap (λ (r : Rest). from_site c.args.site (own r e)) rest

pub frame::Frame::first_from-loop-place-preserved :
    goal.frame::Frame::first_from-loop-place-preserved
frame::Frame::first_from-loop-place-preserved t c =
    seek_more c.args.site c.loop-place.place c.as_slice-tasks.result.now c.index-tasks-place.result (store c.args.vars.now) c.loop-place-test.true c.index-tasks-place.is _ (sym c.in_default-first_from.ensures) c.loop-place.invariant

pub frame::Frame::first_from-returns-in-Par : goal.frame::Frame::first_from-returns-in-Par
frame::Frame::first_from-returns-in-Par t c =
    let e = store c.args.vars.now in
    let rest = ap (λ (ts : List (Task Frame)). besides (task_views ts)) c.as_slice-tasks.ensures.value ∙ sym (par_rest c.args.self.now c.in-Par.par c.requires.sound c.in-Par.is) in
    seek_end c.args.site c.loop-place.place c.as_slice-tasks.result.now e _ c.loop-place-test.false c.loop-place.invariant ∙ ap (λ (r : Rest). from_site c.args.site (own r e)) rest

pub frame::Frame::first_from-returns-then-self-site :
    goal.frame::Frame::first_from-returns-then-self-site
frame::Frame::first_from-returns-then-self-site t c =
    let f = c.args.self.now in
    none_later f c.args.site (store c.args.vars.now) (at_itself f c.in_default-construct.not-Par c.in_default.ensures) c.if-self-site.true

pub frame::Frame::first_from-returns-in-Some-open_guards :
    goal.frame::Frame::first_from-returns-in-Some-open_guards
frame::Frame::first_from-returns-in-Some-open_guards t c =
    let f = c.args.self.now in
    let e = store c.args.vars.now in
    c.first_choice.ensures ∙ sym (ap (λ (r : Rest). from_site c.args.site (own r e)) c.in-Some-open_guards.ensures.rest ∙ moves_first c.args.site (out-Frame f).site (map seen_guard c.in-Some-open_guards.guards.now) e c.if-self-site.false)

pub frame::Frame::first_from-returns-in-None : goal.frame::Frame::first_from-returns-in-None
frame::Frame::first_from-returns-in-None t c =
    let f = c.args.self.now in
    first_own f c.args.site (store c.args.vars.now) c.own_move.result (at_itself f c.in_default-construct.not-Par c.in_default.ensures) c.if-self-site.false c.own_move.ensures

pub frame_moves::Task+Frame::first_from-returns-in-Nothing :
    goal.frame_moves::Task+Frame::first_from-returns-in-Nothing
frame_moves::Task+Frame::first_from-returns-in-Nothing t c =
    let task = seen_task c.args.self.now in
    sym (ap (from_site c.args.site) (nothing_own (task_view task).rest (store c.args.vars.now) (task_outcome task c.requires.sound ∙ c.in-Nothing.is)))
