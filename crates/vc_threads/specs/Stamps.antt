-- Stamps and stamped items of the code, in the words of local runs.
use Rattle.std.specs.Prelude.{ℕ, List, map, Option, Some, None}
use Rattle.vc_network.specs.Actors.{Label}
use Rattle.vc_network.specs.Actors.Label.{Own, Takes}
use Rattle.vc_network.specs.LocalRun as local
use Rattle.vc_tokens.specs.declared.token.Token.{Token}
use Rattle.vc_threads.specs.declared.link.Stamped.{Stamped}

-- a step that takes an item with this stamp, or that takes none
abbrev pub step_with : Option ℕ → Label (Unit {0}) (local.Stamped (Unit {0}))
step_with None = Own tt
step_with (Some at) = Takes tt 0 (record { at = at; it = tt })

abbrev pub item_of : Stamped → Token
item_of s = s.item

abbrev pub stamped : Stamped → local.Stamped Token
stamped s = record { at = s.at; it = s.item }

abbrev pub all_stamped : List Stamped → List (local.Stamped Token)
all_stamped = map stamped
