-- The bodies that fit are those whose headers lead on.
use Rattle.std.proofs.Common.{◌+◌, ◌*◌}
use Rattle.vc_machine.specs.Private.Laws.{FitsWay}
use Rattle.vc_machine.proofs.Limits.{sound}
use Rattle.vc_machine.proofs.PacketSizes.{limits, all_fit}
use Rattle.vc_machine.proofs.each_token_run_is_sound.Goals as goal

pub returns : goal.returns
returns c = λ net back waiting most accepted headers es u run.
    sound net back waiting (FitsWay net most) (2 * most + 32) (accepted).ranges (limits net most headers) (all_fit net most accepted headers) es u run
