-- The text of an event: its words, behind the word `event`, on one line.
use Rattle.std.specs.Prelude.{ℕ, List, [], ◌∷◌, ◌++◌, codes, decimal}
use Rattle.std.specs.List.{flat_map}
use Rattle.vc_plan.specs.Names.{channel_name}
use Rattle.vc_plan.specs.declared.plan.Plan.{Plan}
use Rattle.vc_trace.specs.EventText.{spaced}
use Rattle.vc_trace.specs.declared.word.Word.{Word}
use Rattle.vc_trace.specs.declared.word.Word.TheVariants.{Text, Number}

-- what a word of the code is
abbrev pub word_text : Word → List ℕ
word_text (Text text) = text.now
word_text (Number n) = decimal n

abbrev pub spaced_word : Word → List ℕ
spaced_word word = codes " " ++ word_text word

-- and what such words are, each behind a space
abbrev pub words_text : List Word → List ℕ
words_text = flat_map spaced_word

-- the words of a move of a site on a channel, each behind a space
abbrev pub site_text : Plan → List ℕ → ℕ → ℕ → List ℕ
site_text p word site chan = spaced (word ∷ decimal site ∷ channel_name p chan ∷ [])
