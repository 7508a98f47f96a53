-- What is said of a value that was found in the file.
use Rattle.std.specs.Prelude.{ℕ, ◌+◌, ◌==◌, ◌&&◌, Bool, true, false, not, nat_le, nat_lt, if◌then◌else◌, List, ◌++◌, length, codes, decimal}
use Rattle.std.specs.List.{list_all}
use Rattle.serde_json.specs.Data.{Data, null, boolean, number, string, array, object, unsigned, negative, float, Members, no_members, member}
use Rattle.vc_reader.specs.Reading.{count}

-- a printable character of ASCII, other than a backtick
abbrev pub is_plain : ℕ → Bool
is_plain b = nat_le 32 b && (nat_lt b 127 && not (b == 96))

-- a text that is shown as it is: at most 40 such characters
abbrev pub is_shown : List ℕ → Bool
is_shown s = nat_le (length s) 40 && list_all is_plain s

-- the text between backticks, or else its length
unfoldable pub quoted : List ℕ → List ℕ
quoted s = if is_shown s then codes "`" ++ s ++ codes "`" else codes "of " ++ decimal (length s) ++ codes " bytes"

abbrev pub count_members : Members → ℕ
count_members no_members = 0
count_members (member k d ms) = 1 + count_members ms

-- what a value is
unfoldable pub found_words : Data → List ℕ
found_words null = codes "`null`"
found_words (boolean true) = codes "`true`"
found_words (boolean false) = codes "`false`"
found_words (number (unsigned n)) = codes "the number " ++ decimal n
found_words (number (negative z)) = codes "a number below 0"
found_words (number (float x)) = codes "a number that is not whole, or past 64 bits"
found_words (string s) = codes "the text " ++ quoted s
found_words (array ds) = codes "a list of length " ++ decimal (count ds)
found_words (object ms) = codes "an object of size " ++ decimal (count_members ms)
