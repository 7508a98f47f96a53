-- Which texts are read as the short form of a network file.
use Rattle.std.specs.Prelude.{◌≡◌, ℕ, List, Option, Some, None, Err, IsUtf8}
use Rattle.serde_json.specs.Data.{Data}
use Rattle.serde_json.specs.Find.{get}
use Rattle.serde_json.specs.Read.{read}
use Rattle.vc_reader.specs.declared.fault.Fault.{Fault}
use Rattle.vc_reader.specs.declared.word.Word.TheVariants.{Vlinks}
use Rattle.vc_reader.specs.NetworkText.{TextMeans}
use Rattle.vc_reader.specs.Words.{word_text}

-- the value of a text has no field `vlinks`
abbrev pub LacksVlinks : List ℕ → Type 0
LacksVlinks text = (d : Data) × IsUtf8 text × (read text ≡ Some d) × (get (word_text Vlinks) d ≡ None)

-- a text is the short form of a network file: its value has no field `vlinks`, and is no whole file
abbrev pub IsShort : List ℕ → Type 0
IsShort text = LacksVlinks text × ((fault : Fault) × TextMeans text (Err fault))
