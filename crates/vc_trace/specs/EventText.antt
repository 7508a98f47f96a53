-- The text of an event: its words, behind the word `event`, on one line.
use Rattle.std.specs.Prelude.{ℕ, List, [], ◌∷◌, ◌++◌, codes, decimal, Option, Some, None}
use Rattle.std.specs.List.{flat_map}
use Rattle.vc_actor.specs.declared.act.Act.{Act}
use Rattle.vc_actor.specs.declared.act.Act.TheVariants.{Proc, Take, Put, Route, Fct, Pass}
use Rattle.vc_core.specs.declared.event.Event.{Event}
use Rattle.vc_occam.specs.declared.moves.Move.{Move}
use Rattle.vc_occam.specs.declared.moves.Move.TheVariants.{Offer, Want, Choose, Stopch, Inner, Quiet}
use Rattle.vc_plan.specs.Names.{actor_name, channel_name}
use Rattle.vc_plan.specs.declared.plan.Plan.{Plan}
use Rattle.vc_waits.specs.Waits.{newline}

-- the place of a guard, and - where an input meets the output
abbrev pub guard_word : Option ℕ → List ℕ
guard_word None = codes "-"
guard_word (Some guard) = decimal guard

-- the words of a move of a process: what it does, its site, and its channel
abbrev pub move_words : Plan → Move → List (List ℕ)
move_words p (Offer site chan) = codes "offer" ∷ decimal site ∷ channel_name p chan ∷ []
move_words p (Want site chan) = codes "want" ∷ decimal site ∷ channel_name p chan ∷ []
move_words p (Choose site guard chan) = codes "choose" ∷ decimal site ∷ decimal guard ∷ channel_name p chan ∷ []
move_words p (Stopch site chan) = codes "stopch" ∷ decimal site ∷ channel_name p chan ∷ []
move_words p (Inner sender receiver guard chan) = codes "inner" ∷ decimal sender ∷ decimal receiver ∷ guard_word guard ∷ channel_name p chan ∷ []
move_words p (Quiet site) = codes "quiet" ∷ decimal site ∷ []

-- the words of an act
abbrev pub act_words : Plan → Act → List (List ℕ)
act_words p (Proc made) = codes "proc" ∷ move_words p made
act_words p (Take link word) = codes "take" ∷ decimal link ∷ decimal word ∷ []
act_words p (Put link) = codes "put" ∷ decimal link ∷ []
act_words p (Route input output) = codes "route" ∷ decimal input ∷ decimal output ∷ []
act_words p (Fct link) = codes "fct" ∷ decimal link ∷ []
act_words p (Pass link) = codes "pass" ∷ decimal link ∷ []

-- words, each behind a space
abbrev pub spaced : List (List ℕ) → List ℕ
spaced = flat_map (λ word. codes " " ++ word)

-- the line of an event: `event`, the actor's name, and what it does
abbrev pub event_line : Plan → Event → List ℕ
event_line p e = codes "event" ++ spaced (actor_name p e.actor ∷ act_words p e.act) ++ newline

-- the lines of events, in order
abbrev pub events_text : Plan → List Event → List ℕ
events_text p = flat_map (event_line p)
