use Rattle.std.proofs.Common.{◌≡◌, ◌≤◌, Err, [], arith, length, subst, sym}
use Rattle.vc_core.specs.Replay.{IsOpening}
use Rattle.vc_core.specs.State.{shown, state_of}
use Rattle.vc_plan.specs.declared.plan.Plan.{Plan}
use Rattle.vc_text.specs.RunText.{RunText, WritesRun}
use Rattle.vc_text.proofs.StepText.{handed_on, run_unwritten, writes_one}
use Rattle.vc_stats.specs.Counts.{AreCounts, most_events}
use Rattle.vc_stats.specs.Private.Told.{told_text}
use Rattle.vc_stats.specs.Texts.{IsCountedText, IsStatsText}
use Rattle.vc_stats.specs.Monitor.{IsMonitorOf, Monitors, figures}
use Rattle.vc_stats.specs.StateFigures.{figures_of}
use Rattle.vc_stats.proofs.Figures.{counted_text}
use Rattle.vc_stats.proofs.step_run.stats_plan.Goals as goal

pub run_into-requires : goal.run_into-requires
run_into-requires g c = λ s open_at.
    let same = c.plan-plan.ensures.plan in
    subst (λ (q : Plan). Monitors c.in_ok-monitor.monitor q [] (shown s)) same (c.in_ok-monitor.ensures s (subst (λ (q : Plan). IsOpening q s) (sym same) open_at))

pub returns-in_err-write_told : goal.returns-in_err-write_told
returns-in_err-write_told g c =
    let options = c.args.options in
    let p = c.args.accepted.now in
    let x = shown (state_of c.in_ok-network.network) in
    let close = c.in_ok-network.close in
    let ran = c.in_ok-network.ensures.run in
    let events = ran.0 in
    let small = ran.2.so_far.few in
    let few : length events ≤ most_events = omega (arith, small) in
    let seen = ran.1 few in
    let IsText : RunText = IsStatsText c.args.form options.is_why in
    let old = g.W.Write.contents c.args.writer.now in
    let new = g.W.Write.contents c.write_told.new.writer in
    let fault = c.in_err-write_told.field-0.0 in
    let text = told_text c.args.form c.in_ok-tail.tail in
    let same = c.plan-plan.ensures.plan in
    let made = subst (λ (q : Plan). IsCountedText c.args.form options.is_why (figures c.in_ok-states.states) q events x close text) same (c.in_ok-tail.ensures events (subst (λ stats. AreCounts stats events) (sym c.stats.ensures) seen.1.counts)) in
    let are = subst (λ (q : Plan). figures c.in_ok-states.states ≡ figures_of q events seen.0) same (c.in_ok-states.ensures events seen.0 x (subst (λ (q : Plan). IsMonitorOf c.run_into.new.events q events seen.0 x) (sym same) seen.1)) in
    let is = counted_text c.args.form options.is_why p events seen.0 x close text _ seen.1.visits are made in
    let wrote = c.in_err-write_told.ensures in
    subst (WritesRun IsText p old new options.schedule options.limit) (sym (handed_on c.from_residual-in_err-write_told.result fault c.from_residual-in_err-write_told.ensures))
    (run_unwritten IsText old new options.schedule options.limit p events x close fault ran.2 (writes_one (IsText p events x close) old new text (Err fault) is wrote))

pub returns : goal.returns
returns g c =
    let options = c.args.options in
    let p = c.args.accepted.now in
    let x = shown (state_of c.in_ok-network.network) in
    let close = c.in_ok-network.close in
    let ran = c.in_ok-network.ensures.run in
    let events = ran.0 in
    let small = ran.2.so_far.few in
    let few : length events ≤ most_events = omega (arith, small) in
    let seen = ran.1 few in
    let text = told_text c.args.form c.in_ok-tail.tail in
    let same = c.plan-plan.ensures.plan in
    let made = subst (λ (q : Plan). IsCountedText c.args.form options.is_why (figures c.in_ok-states.states) q events x close text) same (c.in_ok-tail.ensures events (subst (λ stats. AreCounts stats events) (sym c.stats.ensures) seen.1.counts)) in
    let are = subst (λ (q : Plan). figures c.in_ok-states.states ≡ figures_of q events seen.0) same (c.in_ok-states.ensures events seen.0 x (subst (λ (q : Plan). IsMonitorOf c.run_into.new.events q events seen.0 x) (sym same) seen.1)) in
    let is = counted_text c.args.form options.is_why p events seen.0 x close text _ seen.1.visits are made in
    let wrote = c.in_ok-write_told.ensures in
    (events, x, ran.2, (text, is, wrote))
