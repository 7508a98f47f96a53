-- A line with a newline behind it, as it is printed.
use Rattle.std.proofs.Common.{◌≡◌, ◌++◌, List, ℕ}
use Rattle.std.proofs.lemmas.List.Concat.{flat_map-append}
use Rattle.vc_waits.specs.Waits.{newline}
use Rattle.vc_trace.specs.Escapes.{escaped, escaped_byte}

pub escaped_end : (line : List ℕ) → escaped (line ++ newline) ≡ escaped line ++ newline
escaped_end line = flat_map-append escaped_byte line newline
