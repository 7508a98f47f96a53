-- A free network delivers, so where no event can happen nothing goes on among its processes.
use Rattle.vc_accepted.proofs.Processes.{kind_on}
use Rattle.vc_free.proofs.Main.{delivers}
use Rattle.vc_free.proofs.Rest.{quiet_is_quiet}
use Rattle.vc_free.specs.Rest.{QuietNetworksAreQuiet}
use Rattle.vc_free.proofs.RestKnown.{known_of}

pub quiet_networks : QuietNetworksAreQuiet
quiet_networks p waiting es s acc ranks happen none_there = quiet_is_quiet p waiting (kind_on p) (known_of p acc) es s (delivers p waiting es s acc ranks happen) happen none_there
