-- What reading all of a reader and writing a whole text do, where the streams tell their bytes.
use Rattle.std.specs.Prelude.{◌≡◌, ℕ, List, take, Option, Some, None, Result, Ok, Err, ⊤}
use Rattle.std.specs.Io.KnownBytes.{Appends}
use Rattle.vc_text.specs.declared.fault.RunFault.{RunFault}
use Rattle.vc_text.specs.declared.fault.RunFault.TheVariants.{Read, Write, Memory}

-- the bytes are all that the reader had
abbrev pub IsAllOf : Option (List ℕ) → List ℕ → Type 0
IsAllOf None bytes = ⊤
IsAllOf (Some xs) bytes = bytes ≡ xs

-- reading fails by the reader or for want of memory
abbrev pub IsReadFault : RunFault → Type 0
IsReadFault Read = ⊤
IsReadFault Memory = ⊤
IsReadFault _ = ⊥

-- some front of the text was written
abbrev pub AppendsFront : Option (List ℕ) → Option (List ℕ) → List ℕ → Type 0
AppendsFront old new text = (k : ℕ) × Appends old new (take k text)

-- the text was written, or a front of it before a fault of the writer, or nothing for want of memory
abbrev pub Writes : Option (List ℕ) → Option (List ℕ) → List ℕ → Result ⊤ RunFault → Type 0
Writes old new text (Ok u) = Appends old new text
Writes old new text (Err Write) = AppendsFront old new text
Writes old new text (Err Memory) = new ≡ old
Writes old new text (Err _) = ⊥

-- a network file has at most so many bytes
abbrev pub most_bytes : ℕ
most_bytes = 16777216
