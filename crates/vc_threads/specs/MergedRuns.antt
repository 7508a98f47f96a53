-- The acts of the actors, in the words of merges.
use Rattle.std.specs.Prelude.{ℕ, map}
use Rattle.vc_network.specs.LocalRun.{Stamped}
use Rattle.vc_network.specs.Merge.{Made, Numbered}
use Rattle.vc_actor.specs.declared.act.Act.{Act}
use Rattle.vc_core.specs.declared.event.Event.{Event}
use Rattle.vc_threads.specs.declared.act_log.ActorActs.{ActorActs}

abbrev pub of_pair : ℕ × Act → Stamped Act
of_pair p = record { at = p.0; it = p.1 }

abbrev pub numbered : ActorActs → Numbered Act
numbered r = record { actor = r.id; run = map of_pair r.acts.items }

abbrev pub made_event : Made Act → Event
made_event m = record { actor = m.actor; act = m.act.it }
