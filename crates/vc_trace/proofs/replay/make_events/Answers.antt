use Rattle.std.proofs.Common.{◌≡◌, ◌==◌, ℕ, List, None, Option, if◌then◌else◌, rules, subst}
use Rattle.std.specs.Io.KnownBytes.{prepend_known}
use Rattle.std.specs.List.{slice_range}
use Rattle.std.specs.Prelude.{IfOk}
use Rattle.std.specs.Vec.{vec_len}
use Rattle.vc_core.specs.State.{state_of}
use Rattle.vc_trace.specs.Private.Replay.{MakesEvents}
use Rattle.vc_trace.proofs.replay.make_events.Goals as goal

-- a reader through a buffer that is empty has what the reader has
pub returns-clause-made : goal.returns-clause-made
returns-clause-made g c =
    let buffer = c.in-Ok.events.buf in
    let same : (if vec_len buffer.buf == 0 then None else prepend_known (slice_range buffer.buf.items buffer.start buffer.end) (g.E.Read.remaining c.in-Ok.events.inner.now)) ≡ g.E.Read.remaining c.args.events.now = search rules in
    subst (λ (known : Option (List ℕ)). IfOk c.make_lines.result (MakesEvents known c.args.plan.now (state_of c.make_lines.new.network))) same c.make_lines.ensures.made
