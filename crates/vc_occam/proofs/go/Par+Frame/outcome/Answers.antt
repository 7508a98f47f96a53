use Rattle.std.proofs.Common.{◌≡◌, ◌∙◌, ◌+◌, ◌-◌, ◌<◌, suc, length, drop, ap, sym, arith}
use Rattle.vc_occam.specs.Frames.{besides, outcome_of, task_view}
use Rattle.vc_occam.specs.Private.Frames.{seen_task, task_views}
use Rattle.vc_occam.proofs.Abreast.{besides_go, besides_more, task_ended, task_goes}
use Rattle.vc_occam.proofs.PartSteps.{part_is_sound}
use Rattle.vc_occam.proofs.Pars.{task_at}
use Rattle.vc_occam.proofs.go.Par+Frame.outcome.Goals as goal

pub returns-then-not-has_ended : goal.returns-then-not-has_ended
returns-then-not-has_ended c =
    let s = c.args.self.now in
    let ts = s.tasks.items in
    let vs = task_views ts in
    let o = s.tasks.ok.0 in
    let k = c.len.result - 1 - c.loop-behind.behind in
    let l : k < length ts = omega (arith, c.len.ensures, c.len-behind-end.ensures) in
    let t = seen_task c.index.result.now in
    let is = task_at ts k c.index.result.now l c.index.ensures in
    sym (besides_go vs k (task_view t) is (task_goes t (part_is_sound vs k (task_view t) is c.requires.sound) (sym c.has_ended.ensures ∙ c.if-not-has_ended.true)))

pub loop-behind-preserved : goal.loop-behind-preserved
loop-behind-preserved c =
    let s = c.args.self.now in
    let ts = s.tasks.items in
    let vs = task_views ts in
    let o = s.tasks.ok.0 in
    let k = c.len.result - 1 - c.loop-behind.behind in
    let l : k < length ts = omega (arith, c.len.ensures, c.len-behind-end.ensures) in
    let t = seen_task c.index.result.now in
    let is = task_at ts k c.index.result.now l c.index.ensures in
    let after : suc k ≡ length ts - c.loop-behind.behind = omega (arith, c.len.ensures, c.len-behind-end.ensures) in
    let before : length ts - (c.loop-behind.behind + 1) ≡ k = omega (arith, c.len.ensures, c.len-behind-end.ensures) in
    ap (λ n. besides (drop n vs)) before ∙ besides_more vs k (task_view t) is (task_ended t (sym c.has_ended.ensures ∙ c.if-not-has_ended.false)) (ap (λ n. besides (drop n vs)) after ∙ c.loop-behind.invariant)

pub returns : goal.returns
returns c =
    let s = c.args.self.now in
    let ts = s.tasks.items in
    let vs = task_views ts in
    let o = s.tasks.ok.0 in
    let none : length ts - c.loop-behind.behind ≡ 0 = omega (arith, c.len-behind-end.ensures) in
    ap outcome_of (sym c.loop-behind.invariant ∙ ap (λ n. besides (drop n vs)) none)
