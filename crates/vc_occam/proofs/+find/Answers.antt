use Rattle.std.proofs.Common.{rules, ◌<◌, ◌∙◌, ap, List, length, subst, sym, arith}
use Rattle.vc_occam.specs.declared.frame.Frame.{Frame}
use Rattle.vc_occam.specs.declared.frame.Frame.TheViews.{the_lemmas}
use Rattle.vc_occam.specs.declared.frame.Task.{Task}
use Rattle.vc_occam.specs.Frames.{plans_of, view}
use Rattle.vc_occam.specs.Private.Frames.{place_with, shown, task_views}
use Rattle.vc_occam.specs.Private.Sites.{PartsInPreorder}
use Rattle.vc_occam.specs.Remains.{Rest}
use Rattle.vc_occam.proofs.Found.{GoesOnIn, alone_in, found_in, together_in}
use Rattle.vc_occam.proofs.Pars.{par_preorder, par_rest, par_some, par_sound, place_there, preorder_at, sound_at}
use Rattle.vc_occam.proofs.+find.Goals as goal

pub frame::Frame::find-returns-in-Some : goal.frame::Frame::find-returns-in-Some
frame::Frame::find-returns-in-Some t c =
    let part = c.in-Some.part.now in
    let whole = c.args.self.now in
    found_in (λ f. f.now) c.args.site c.find.result (view part).rest (view whole).rest (alone_in c.args.site part whole c.in-Some.ensures) c.find.ensures

pub frame::Frame::find-part_with-requires : goal.frame::Frame::find-part_with-requires
frame::Frame::find-part_with-requires t c =
    subst (λ (ts : List (Task Frame)). PartsInPreorder (plans_of (task_views ts))) (sym c.as_slice.ensures.value) (par_preorder c.args.self.now c.in-Par.par c.in-Par.is c.requires.in_preorder)

pub frame::Frame::find-index-requires : goal.frame::Frame::find-index-requires
frame::Frame::find-index-requires t c =
    let ts = c.in-Par.par.tasks.items in
    let o = c.in-Par.par.tasks.ok.0 in
    let l = place_there ts c.args.site (par_some c.args.self.now c.in-Par.par c.requires.sound c.in-Par.is) in
    let p = c.part_with.ensures ∙ ap (λ (ts : List (Task Frame)). place_with c.args.site (task_views ts)) c.as_slice.ensures.value in
    omega arith

pub frame::Frame::find-find-requires-in-Par : goal.frame::Frame::find-find-requires-in-Par
frame::Frame::find-find-requires-in-Par t c =
    let f = c.args.self.now in
    let par = c.in-Par.par in
    let ts = par.tasks.items in
    let l = place_there ts c.args.site (par_some f par c.requires.sound c.in-Par.is) in
    let p = c.part_with.ensures ∙ ap (λ (ts : List (Task Frame)). place_with c.args.site (task_views ts)) c.as_slice.ensures.value in
    let there : c.part_with.result < length ts = omega arith in (
      search (rules, the_lemmas),
      (
        sound_at ts c.part_with.result c.index.result.now (par_sound f par c.requires.sound c.in-Par.is) there c.index.ensures,
        preorder_at ts c.part_with.result c.index.result.now (par_preorder f par c.in-Par.is c.requires.in_preorder) there c.index.ensures,
      ),
    )

pub frame::Frame::find-returns-in-Par : goal.frame::Frame::find-returns-in-Par
frame::Frame::find-returns-in-Par t c =
    let f = c.args.self.now in
    let par = c.in-Par.par in
    let ts = par.tasks.items in
    let task = c.index.result.now in
    let l = place_there ts c.args.site (par_some f par c.requires.sound c.in-Par.is) in
    let p = c.part_with.ensures ∙ ap (λ (ts : List (Task Frame)). place_with c.args.site (task_views ts)) c.as_slice.ensures.value in
    let there : c.part_with.result < length ts = omega arith in
    let goes = together_in c.args.site c.part_with.result ts task (par_preorder f par c.in-Par.is c.requires.in_preorder) there c.index.ensures p in
    let within = subst (λ (r : Rest). GoesOnIn c.args.site (shown task).rest r) (sym (par_rest f par c.requires.sound c.in-Par.is)) goes in
    found_in (λ f. f.now) c.args.site c.find-in-Par.result (shown task).rest (view f).rest within c.find-in-Par.ensures
