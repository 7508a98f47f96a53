-- What reading all of a reader and writing a whole text do, where the streams tell their bytes.
use Rattle.std.specs.Prelude.{◌≡◌, ℕ, List, Option, Result, Ok, Err, ⊤}
use Rattle.std.specs.Io.KnownBytes.{Appends}
use Rattle.vc_text.specs.declared.fault.RunFault.{RunFault}
use Rattle.vc_text.specs.declared.fault.RunFault.TheVariants.{Write, Memory}
use Rattle.vc_text.specs.Streams.{AppendsFront}

-- a text of this kind was written, or a front of one before a fault of the writer, or nothing for want of memory
abbrev pub WritesOne : (List ℕ → Type 0) → Option (List ℕ) → Option (List ℕ) → Result ⊤ RunFault → Type 0
WritesOne IsText old new (Ok u) = (text : List ℕ) × IsText text × Appends old new text
WritesOne IsText old new (Err Write) = (text : List ℕ) × IsText text × AppendsFront old new text
WritesOne IsText old new (Err Memory) = new ≡ old
WritesOne IsText old new (Err _) = ⊥
