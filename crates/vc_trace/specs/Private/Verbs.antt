-- The word for what an event does, and that for what a move of a process does.
use Rattle.std.specs.Prelude.{ℕ, List, codes}
use Rattle.vc_trace.specs.declared.move_verb.MoveVerb.{MoveVerb}
use Rattle.vc_trace.specs.declared.move_verb.MoveVerb.TheVariants.{Offer, Want, Choose, Stopch, Inner, Quiet}
use Rattle.vc_trace.specs.declared.verb.Verb.{Verb}
use Rattle.vc_trace.specs.declared.verb.Verb.TheVariants.{Proc, Take, Put, Route, Fct, Pass}

abbrev pub verb_word : Verb → List ℕ
verb_word Proc = codes "proc"
verb_word Take = codes "take"
verb_word Put = codes "put"
verb_word Route = codes "route"
verb_word Fct = codes "fct"
verb_word Pass = codes "pass"

abbrev pub move_word : MoveVerb → List ℕ
move_word Offer = codes "offer"
move_word Want = codes "want"
move_word Choose = codes "choose"
move_word Stopch = codes "stopch"
move_word Inner = codes "inner"
move_word Quiet = codes "quiet"
