-- How a process uses channels, site by site.
use Rattle.std.specs.Prelude.{ℕ, true, false, List, [], ◌∷◌, ◌++◌, Option, Some, None, slice_get}
use Rattle.vc_process.specs.declared.value_kind.ValueKind.{ValueKind}
use Rattle.vc_process.specs.declared.channel_use.ChannelUse.{ChannelUse}
use Rattle.vc_process.specs.Syntax.{Proc, Output, Input, StopChan, SEQ, PAR, IF, WHILE, COUNT, ALT, Procs, no_parts, part, Branches, no_branches, branch, Guards, no_guards, guard}
use Rattle.vc_process.specs.Limits.{given_kind}

-- an input, guard or stop of a channel
abbrev pub inputs_on : ℕ → Option ValueKind → ChannelUse
inputs_on c k = record { chan = c; is_output = false; kind = k }

-- the guards of an ALT belong to its own site
abbrev pub guard_uses : List ValueKind → Guards → List ChannelUse
guard_uses kinds no_guards = []
guard_uses kinds (guard t c v p gs) = inputs_on c (slice_get kinds v) ∷ guard_uses kinds gs

-- the uses of a process whose node has variables of these kinds, in order of site
abbrev mutual
  pub channel_uses : List ValueKind → Proc → List ChannelUse
  channel_uses kinds (Output i c a) = record { chan = c; is_output = true; kind = Some (given_kind a) } ∷ []
  channel_uses kinds (Input i c v) = inputs_on c (slice_get kinds v) ∷ []
  channel_uses kinds (StopChan i c) = inputs_on c None ∷ []
  channel_uses kinds (SEQ i ps) = uses_of_all kinds ps
  channel_uses kinds (PAR i ps) = uses_of_all kinds ps
  channel_uses kinds (IF i bs) = uses_of_branches kinds bs
  channel_uses kinds (WHILE i t p) = channel_uses kinds p
  channel_uses kinds (COUNT i v a n p) = channel_uses kinds p
  channel_uses kinds (ALT i gs) = guard_uses kinds gs ++ uses_of_bodies kinds gs
  channel_uses kinds p = []

  pub uses_of_all : List ValueKind → Procs → List ChannelUse
  uses_of_all kinds no_parts = []
  uses_of_all kinds (part p ps) = channel_uses kinds p ++ uses_of_all kinds ps

  pub uses_of_branches : List ValueKind → Branches → List ChannelUse
  uses_of_branches kinds no_branches = []
  uses_of_branches kinds (branch t p bs) = channel_uses kinds p ++ uses_of_branches kinds bs

  pub uses_of_bodies : List ValueKind → Guards → List ChannelUse
  uses_of_bodies kinds no_guards = []
  uses_of_bodies kinds (guard t c v p gs) = channel_uses kinds p ++ uses_of_bodies kinds gs
