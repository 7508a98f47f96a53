use Rattle.std.proofs.Common.{◌≡◌, true, sym, ◌∙◌}
use Rattle.vc_uses.proofs.NeverQuiet.{never_quiet}
use Rattle.vc_uses.proofs.rest.is_never_quiet.Goals as goal

pub returns-in-Free : goal.returns-in-Free
returns-in-Free g c =
    let (plan, explored, cycle, reads, is, found, wrote) = c.in_ok-finding.ensures in
    λ never. (plan, reads, λ limit events end close run. never_quiet plan limit events end close (is.never_stops (sym found ∙ c.in-Free.is)) run)
