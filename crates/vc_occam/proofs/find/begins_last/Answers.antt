use Rattle.std.proofs.Common.{◌≡◌, ℕ, suc, ◌+◌, ◌<◌, ◌≤◌, sym, subst, rules, arith}
use Rattle.std.specs.Prelude.{get_or}
use Rattle.vc_occam.specs.declared.frame.Frame.{Frame}
use Rattle.vc_occam.specs.declared.frame.Frame.TheViews.{out-Frame}
use Rattle.vc_occam.specs.declared.frame.Task.{Task}
use Rattle.vc_occam.proofs.Places.{last_has, next_later}
use Rattle.vc_occam.proofs.find.begins_last.Goals as goal

pub returns-then-tasks-at-eq1 : goal.returns-then-tasks-at-eq1
returns-then-tasks-at-eq1 c t =
    let here = subst (λ (t : Task Frame). (out-Frame t.frame).site ≤ c.args.site) (sym c.index-tasks-at.is) c.if-tasks-at.false in
    last_has c.args.tasks.now c.args.at c.args.site c.index-tasks-at.result c.requires (search rules) c.index-tasks-at.is here

pub returns-else-tasks-at-eq1 : goal.returns-else-tasks-at-eq1
returns-else-tasks-at-eq1 c t =
    let ts = c.args.tasks.now in
    let g = c.index-tasks-at-else-tasks-at-eq1.result in
    let n : c.args.at + 1 ≡ suc c.args.at = omega arith in
    let d = subst (λ (k : ℕ). g ≡ get_or ts k g) n c.index-tasks-at-else-tasks-at-eq1.is in
    let here = subst (λ (t : Task Frame). (out-Frame t.frame).site ≤ c.args.site) (sym c.index-tasks-at.is) c.if-tasks-at.false in
    let next = subst (λ (t : Task Frame). c.args.site < (out-Frame t.frame).site) (sym c.index-tasks-at-else-tasks-at-eq1.is) (search rules) in
    next_later ts c.args.at c.args.site c.index-tasks-at.result g c.requires (search rules) c.index-tasks-at.is d here next
