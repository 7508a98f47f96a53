-- Kinds of events.
use Rattle.std.specs.Prelude.{ℕ, List, [], ◌∷◌, codes}
use Rattle.vc_actor.specs.declared.act.Act.{Act}
use Rattle.vc_actor.specs.declared.act.Act.TheVariants as act
use Rattle.vc_occam.specs.declared.moves.Move.{Move}
use Rattle.vc_occam.specs.declared.moves.Move.TheVariants as move
use Rattle.vc_stats.specs.declared.kind.Kind.{Kind}
use Rattle.vc_stats.specs.declared.kind.Kind.TheVariants.{Offer, Want, Choose, Stopch, Inner, Quiet, Take, Put, Route, Fct, Pass}

-- the kind of a move of a process
abbrev pub kind_of_move : Move → Kind
kind_of_move (move.Offer site chan) = Offer
kind_of_move (move.Want site chan) = Want
kind_of_move (move.Choose site guard chan) = Choose
kind_of_move (move.Stopch site chan) = Stopch
kind_of_move (move.Inner sender receiver guard chan) = Inner
kind_of_move (move.Quiet site) = Quiet

-- the kind of an act
abbrev pub kind_of : Act → Kind
kind_of (act.Proc made) = kind_of_move made
kind_of (act.Take link word) = Take
kind_of (act.Put link) = Put
kind_of (act.Route input output) = Route
kind_of (act.Fct link) = Fct
kind_of (act.Pass link) = Pass

-- the kinds, in the order in which they are told
abbrev pub kinds : List Kind
kinds = Offer ∷ Want ∷ Choose ∷ Stopch ∷ Inner ∷ Quiet ∷ Take ∷ Put ∷ Route ∷ Fct ∷ Pass ∷ []

-- the kind's number
abbrev pub number_of : Kind → ℕ
number_of Offer = 0
number_of Want = 1
number_of Choose = 2
number_of Stopch = 3
number_of Inner = 4
number_of Quiet = 5
number_of Take = 6
number_of Put = 7
number_of Route = 8
number_of Fct = 9
number_of Pass = 10

-- the word by which an event of the kind is told
abbrev pub word_of : Kind → List ℕ
word_of Offer = codes "offer"
word_of Want = codes "want"
word_of Choose = codes "choose"
word_of Stopch = codes "stopch"
word_of Inner = codes "inner"
word_of Quiet = codes "quiet"
word_of Take = codes "take"
word_of Put = codes "put"
word_of Route = codes "route"
word_of Fct = codes "fct"
word_of Pass = codes "pass"
