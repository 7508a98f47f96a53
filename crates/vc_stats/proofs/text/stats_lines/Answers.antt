use Rattle.std.proofs.Common.{◌++◌, ◌∙◌, ap, append_assoc, map, sym}
use Rattle.vc_stats.specs.Monitor.{figures}
use Rattle.vc_stats.specs.Sections.{stats_text}
use Rattle.vc_stats.specs.declared.form.Form.TheVariants.{Lines}
use Rattle.vc_text.specs.Tail.{tail_text}
use Rattle.vc_text.specs.Traffic.{traffic}
use Rattle.vc_text.specs.Views as views
use Rattle.vc_stats.proofs.text.stats_lines.Goals as goal

pub returns : goal.returns
returns c = λ es counts.
    let tail = c.in_ok-tail.tail in
    let p = c.args.plan.now in
    let states = figures c.args.states.now in
    let before = traffic (map views.shown tail.views.items) tail.close in (
      tail_text tail,
      c.in_ok-tail.ensures.text es,
      ap (λ z. before ++ z) (c.in_ok-push_stats.ensures es counts ∙ ap (λ v. tail.after.items ++ stats_text Lines p es states v) (ap (map views.shown) c.as_slice-views.ensures.value ∙ c.in_ok-tail.ensures.views))
          ∙ sym (append_assoc before tail.after.items (stats_text Lines p es states _)),
    )
