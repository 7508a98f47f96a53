-- Texts of the nodes of a file.
use Rattle.std.specs.Prelude.{◌≡◌, ℕ, List, Option, Some, None, String, string_bytes}
use Rattle.std.specs.declared.alloc.Global.{Global}
use Rattle.serde_json.specs.Data.{Data}
use Rattle.serde_json.specs.Find.{get}
use Rattle.serde_json.specs.Read.{read}
use Rattle.vc_reader.specs.declared.word.Word.TheVariants.{Nodes}
use Rattle.vc_reader.specs.Words.{word_text}

-- the text is that of the nodes of a file's value
pub record IsNodesText (text : List ℕ) (file : Data) : Type 0 where
  pub nodes : Data
  pub there : get (word_text Nodes) file ≡ Some nodes
  pub reads : read text ≡ Some nodes

-- and of a file's text
pub record HasNodes (file_text text : List ℕ) : Type 0 where
  pub file : Data
  pub reads : read file_text ≡ Some file
  pub nodes : IsNodesText text file

-- both are there, and one
abbrev pub AreSame : Option (String Global) → Option (String Global) → Type 0
AreSame (Some s) (Some t) = string_bytes s ≡ string_bytes t
AreSame _ _ = ⊥
