-- Reading a JSON value part by part, up to its first fault.
use Rattle.std.specs.Prelude.{ℕ, ◌+◌, List, [], ◌∷◌, ◌++◌, length, Bool, true, nat_le, ◌==◌, ◌&&◌, if◌then◌else◌, Option, Some, None, is_some, Result, Ok, Err, ⊤}
use Rattle.std.specs.Str.{bytes_eq}
use Rattle.std.specs.List.{list_any}
use Rattle.serde_json.specs.Data.{Data, number, string, array, object, Items, no_items, item, Members, no_members, member, unsigned, negative, float}
use Rattle.serde_json.specs.Find.{get, at}
use Rattle.vc_reader.specs.Words.{word_text}
use Rattle.vc_reader.specs.declared.word.Word.{Word}
use Rattle.vc_reader.specs.declared.path.Step.{Step}
use Rattle.vc_reader.specs.declared.path.Step.TheVariants.{Field, Index}
use Rattle.vc_reader.specs.declared.fault.Why.{Why}
use Rattle.vc_reader.specs.declared.fault.Why.TheVariants.{Missing, Kind, Range, Unknown}
use Rattle.vc_reader.specs.declared.fault.Fault.{Fault}

infixl 10 ◌>>=◌
abbrev pub ◌>>=◌ : {A B : Type 0} → Result A Fault → (A → Result B Fault) → Result B Fault
(Ok x) >>= f = f x
(Err e) >>= f = Err e

-- the value where one stands is at fault
abbrev pub wrong : {A : Type 0} → Why → Result A Fault
wrong w = Err (record { why = w; path = [] })

-- the same, seen from one step further up
abbrev pub under : {A : Type 0} → Step → Result A Fault → Result A Fault
under s (Ok x) = Ok x
under s (Err f) = Err (record { why = f.why; path = s ∷ f.path })

abbrev pub present : {A : Type 0} → (Data → Result A Fault) → Option Data → Result A Fault
present read None = wrong Missing
present read (Some d) = read d

-- a field of an object
abbrev pub field : {A : Type 0} → Word → (Data → Result A Fault) → Data → Result A Fault
field w read d = under (Field w) (present read (get (word_text w) d))

-- an item of a list
abbrev pub cell : {A : Type 0} → ℕ → (Data → Result A Fault) → Data → Result A Fault
cell n read d = under (Index n) (present read (at n d))

abbrev pub read_text : Data → Result (List ℕ) Fault
read_text (string s) = Ok s
read_text _ = wrong Kind

-- a whole number from least to most
abbrev pub read_number : ℕ → ℕ → Data → Result ℕ Fault
read_number least most (number (unsigned n)) = if nat_le least n && nat_le n most then Ok n else wrong Range
read_number least most (number (negative z)) = wrong Range
read_number least most (number (float x)) = wrong Kind
read_number least most _ = wrong Kind

-- each item of a list, which may be judged by those read before it
abbrev pub each : {A : Type 0} → (List A → Data → Result A Fault) → List A → Items → Result (List A) Fault
each read before no_items = Ok before
each read before (item d ds) = under (Index (length before)) (read before d) >>= λ x. each read (before ++ x ∷ []) ds

-- the items of a list
abbrev pub read_array : Data → Result Items Fault
read_array (array ds) = Ok ds
read_array _ = wrong Kind

-- a list, each of whose items is read with those before it
abbrev pub read_list : {A : Type 0} → (List A → Data → Result A Fault) → Data → Result (List A) Fault
read_list read d = read_array d >>= each read []

-- a list field, which may be absent
abbrev pub absent_or_list : {A : Type 0} → (List A → Data → Result A Fault) → Option Data → Result (List A) Fault
absent_or_list read None = Ok []
absent_or_list read (Some d) = read_list read d

abbrev pub list_field : {A : Type 0} → Word → (List A → Data → Result A Fault) → Data → Result (List A) Fault
list_field w read d = under (Field w) (absent_or_list read (get (word_text w) d))

abbrev pub count : Items → ℕ
count no_items = 0
count (item d ds) = 1 + count ds

-- how many items a list has
abbrev pub items_in : Data → ℕ
items_in (array ds) = count ds
items_in _ = 0

-- a list of exactly n items
abbrev pub row : ℕ → Data → Result ⊤ Fault
row n (array ds) = if count ds == n then Ok tt else wrong Kind
row n _ = wrong Kind

-- an object that has no fields but these
abbrev pub is_word : List Word → List ℕ → Bool
is_word ws key = list_any (λ w. bytes_eq (word_text w) key) ws

abbrev pub has_only : List Word → Members → Bool
has_only ws no_members = true
has_only ws (member key d ms) = is_word ws key && has_only ws ms

abbrev pub read_object : List Word → Data → Result ⊤ Fault
read_object ws (object ms) = if has_only ws ms then Ok tt else wrong Unknown
read_object ws _ = wrong Kind

-- whether an object has a field
abbrev pub has_field : Word → Data → Bool
has_field w d = is_some (get (word_text w) d)

-- the one field of an object of one field
abbrev pub only : Data → Option (List ℕ × Data)
only (object (member key d no_members)) = Some (key, d)
only _ = None

abbrev pub by_only : {A : Type 0} → (List ℕ → Data → Result A Fault) → Option (List ℕ × Data) → Result A Fault
by_only read None = wrong Kind
by_only read (Some p) = read p.0 p.1
