-- Which events a log's entries, words and moves stand for.
use Rattle.std.specs.Prelude.{◌≡◌, ℕ, ◌+◌, List, [], ◌∷◌, length}
use Rattle.vc_actor.specs.declared.act.Act.{Act}
use Rattle.vc_actor.specs.declared.act.Act.TheVariants as act
use Rattle.vc_core.specs.declared.event.Event.{Event}
use Rattle.vc_occam.specs.declared.moves.Move.{Move}
use Rattle.vc_occam.specs.declared.moves.Move.TheVariants as move
use Rattle.vc_text.specs.declared.entry.Brief.{Brief}
use Rattle.vc_text.specs.declared.entry.Brief.TheVariants as brief
use Rattle.vc_text.specs.declared.entry.Entry.{Entry}
use Rattle.vc_text.specs.declared.events.Events.{Events}

-- the next word, and the next move
abbrev pub first_word : List ℕ → ℕ
first_word [] = 0
first_word (word ∷ words) = word

abbrev pub first_move : List Move → Move
first_move [] = move.Quiet 0
first_move (made ∷ moves) = made

-- what is left of a list behind its first
abbrev pub rest_of : {X : Type 0} → List X → List X
rest_of [] = []
rest_of (x ∷ xs) = xs

-- the act, of which a take has the next word, and a move that communicates is the next
abbrev pub act_of : Brief → List ℕ → List Move → Act
act_of (brief.Quiet site) words moves = act.Proc (move.Quiet site)
act_of brief.Move words moves = act.Proc (first_move moves)
act_of (brief.Take link) words moves = act.Take link (first_word words)
act_of (brief.Put link) words moves = act.Put link
act_of (brief.Route input output) words moves = act.Route input output
act_of (brief.Fct link) words moves = act.Fct link
act_of (brief.Pass link) words moves = act.Pass link

abbrev pub words_left : Brief → List ℕ → List ℕ
words_left (brief.Take link) words = rest_of words
words_left _ words = words

abbrev pub moves_left : Brief → List Move → List Move
moves_left brief.Move moves = rest_of moves
moves_left _ moves = moves

-- the events, in order
abbrev pub events_of : List Entry → List ℕ → List Move → List Event
events_of [] words moves = []
events_of (e ∷ es) words moves = record { actor = e.actor; act = act_of e.brief words moves } ∷ events_of es (words_left e.brief words) (moves_left e.brief moves)

-- the events that are still to come
abbrev pub events_left : Events → List Event
events_left left = events_of left.entries.now left.words.now left.moves.now

-- how many words, and how many moves, a brief and entries take
abbrev pub words_of : Brief → ℕ
words_of (brief.Take link) = 1
words_of _ = 0

abbrev pub moves_of : Brief → ℕ
moves_of brief.Move = 1
moves_of _ = 0

abbrev pub words_in : List Entry → ℕ
words_in [] = 0
words_in (e ∷ es) = words_of e.brief + words_in es

abbrev pub moves_in : List Entry → ℕ
moves_in [] = 0
moves_in (e ∷ es) = moves_of e.brief + moves_in es

-- each take has its word, and each move that communicates stands there, and no others do
abbrev pub Fit : List Entry → List ℕ → List Move → Type 0
Fit es words moves = (words_in es ≡ length words) × (moves_in es ≡ length moves)
