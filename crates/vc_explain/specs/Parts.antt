-- Where in a JSON text the parts of its value stand. A place is told by the bytes that begin there.
use Rattle.std.specs.Prelude.{ℕ, suc, ◌+◌, ◌-◌, ◌*◌, ◌==◌, ◌&&◌, ◌||◌, Bool, true, false, if◌then◌else◌, List, [], ◌∷◌, drop, get_or, length, slice_index, nat_le}
use Rattle.vc_reader.specs.Words.{word_text}
use Rattle.vc_reader.specs.declared.path.Step.{Step}
use Rattle.vc_reader.specs.declared.path.Step.TheVariants.{Field, Index}
use Rattle.vc_explain.specs.declared.quoting.Quoting.{Quoting}
use Rattle.vc_explain.specs.declared.quoting.Quoting.TheVariants.{Outside, Inside, Escaped}

-- white space
abbrev pub is_blank : ℕ → Bool
is_blank b = b == 32 || b == 9 || b == 10 || b == 13

-- from the first byte that is no white space
abbrev pub past_blanks : List ℕ → List ℕ
past_blanks [] = []
past_blanks (b ∷ bs) = if is_blank b then past_blanks bs else b ∷ bs

-- a quote begins a string, and the next one ends it; a byte behind a backslash does neither
abbrev pub after : Quoting → ℕ → Quoting
after Outside b = if b == 34 then Inside else Outside
after Inside b = if b == 34 then Outside else (if b == 92 then Escaped else Inside)
after Escaped b = Inside

abbrev pub is_outside : Quoting → Bool
is_outside Outside = true
is_outside Inside = false
is_outside Escaped = false

abbrev pub opens : ℕ → Bool
opens b = b == 91 || b == 123

abbrev pub closes : ℕ → Bool
closes b = b == 93 || b == 125

-- how many brackets are open behind a byte
abbrev pub deeper : Quoting → ℕ → ℕ → ℕ
deeper q depth b = if is_outside q && opens b then suc depth else (if is_outside q && closes b then depth - 1 else depth)

-- behind each comma that stands outside of strings and inner brackets, until the bracket around them closes
abbrev pub parts_after : Quoting → ℕ → List ℕ → List (List ℕ)
parts_after q depth [] = []
parts_after q depth (b ∷ bs) =
    if is_outside q && depth == 0 && b == 44 then bs ∷ parts_after Outside 0 bs
    else (if is_outside q && depth == 0 && closes b then [] else parts_after (after q b) (deeper q depth b) bs)

-- the items of an array or the members of an object, from behind its opening bracket
abbrev pub parts : List ℕ → List (List ℕ)
parts text = text ∷ parts_after Outside 0 text

-- behind the first colon that stands outside of strings
abbrev pub past_colon : Quoting → List ℕ → List ℕ
past_colon q [] = []
past_colon q (b ∷ bs) = if is_outside q && b == 58 then bs else past_colon (after q b) bs

abbrev pub hex_digit : ℕ → ℕ
hex_digit b = if nat_le b 57 then b - 48 else (if nat_le b 70 then b - 55 else b - 87)

-- \u and four hexadecimal digits
abbrev pub is_escape : List ℕ → Bool
is_escape text = slice_index text 0 == 92 && slice_index text 1 == 117

abbrev pub escaped : List ℕ → ℕ
escaped text =
    4096 * hex_digit (slice_index text 2) + 256 * hex_digit (slice_index text 3) + 16 * hex_digit (slice_index text 4) + hex_digit (slice_index text 5)

-- the string that goes on so is this name, of which each byte may be written as an escape
abbrev pub spells : List ℕ → List ℕ → Bool
spells [] text = slice_index text 0 == 34
spells (c ∷ cs) text =
    if is_escape text then escaped text == c && spells cs (drop 6 text) else slice_index text 0 == c && spells cs (drop 1 text)

-- a member of this name
abbrev pub is_named : List ℕ → List ℕ → Bool
is_named name member = spells name (drop 1 (past_blanks member))

-- the last member of this name, where `found` is the last one before
abbrev pub last_named : List ℕ → List ℕ → List (List ℕ) → List ℕ
last_named name found [] = found
last_named name found (m ∷ ms) = last_named name (if is_named name m then m else found) ms

-- behind the bracket that opens an array or an object
abbrev pub inside : List ℕ → List ℕ
inside text = drop 1 (past_blanks text)

-- item n of the array, and the value of the last member of this name, of which an object with a name twice has the last
abbrev pub item : ℕ → List ℕ → List ℕ
item n text = get_or (parts (inside text)) n []

abbrev pub member : List ℕ → List ℕ → List ℕ
member name text = past_colon Outside (last_named name [] (parts (inside text)))

-- the part to which a step leads
abbrev pub part : Step → List ℕ → List ℕ
part (Field w) text = member (word_text w) text
part (Index n) text = item n text

-- the value to which a path leads
abbrev pub value_at : List Step → List ℕ → List ℕ
value_at [] text = past_blanks text
value_at (s ∷ path) text = value_at path (part s text)

-- how many bytes stand before it
abbrev pub offset : List Step → List ℕ → ℕ
offset path text = length text - length (value_at path text)
