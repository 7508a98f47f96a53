-- Names, and the numbers of what has them.
use Rattle.std.specs.Prelude.{◌≡◌, ℕ, List, Bool, not, ◌&&◌, if◌then◌else◌, Option, Some, None, is_some, option_map, option_and_then, Result, Ok, Vec}
use Rattle.std.specs.Str.{bytes_eq}
use Rattle.std.specs.List.{position, slice_get}
use Rattle.std.specs.Ordering.{nat_cmp}
use Rattle.std.specs.Cmp.Lexicographic.{slice_cmp}
use Rattle.std.specs.BTreeMap.{BTreeMap, get_by}
use Rattle.std.specs.Option.{option_or}
use Rattle.serde_json.specs.Data.{Data}
use Rattle.vc_plan.specs.Limits.{is_name}
use Rattle.vc_reader.specs.declared.fault.Why.TheVariants.{Kind, Unknown}
use Rattle.vc_reader.specs.declared.fault.Fault.{Fault}
use Rattle.vc_reader.specs.Reading.{◌>>=◌, wrong, read_text}

-- the number of the first that has the name
abbrev pub position_of : {A : Type 0} → (A → List ℕ) → List A → List ℕ → Option ℕ
position_of name_of known name = position (λ x. bytes_eq name (name_of x)) known

-- the first that has the name, behind its number
abbrev pub with_number : {A : Type 0} → List A → ℕ → Option (ℕ × A)
with_number known n = option_map (λ x. (n, x)) (slice_get known n)

abbrev pub found_of : {A : Type 0} → (A → List ℕ) → List A → List ℕ → Option (ℕ × A)
found_of name_of known name = option_and_then (with_number known) (position_of name_of known name)

-- some one of them has the name
abbrev pub has_name : {A : Type 0} → (A → List ℕ) → List A → List ℕ → Bool
has_name name_of known name = is_some (position_of name_of known name)

-- a text that gives a name, which must be a name and not be taken
abbrev pub own_name : Bool → List ℕ → Result (List ℕ) Fault
own_name is_taken s = if is_name s && not is_taken then Ok s else wrong Kind

abbrev pub new_name : (List ℕ → Bool) → Data → Result (List ℕ) Fault
new_name is_taken d = read_text d >>= λ s. own_name (is_taken s) s

-- a text that refers to a name
abbrev pub known_or_not : {X : Type 0} → Option X → Result X Fault
known_or_not None = wrong Unknown
known_or_not (Some x) = Ok x

abbrev pub one_of : {A : Type 0} → (A → List ℕ) → List A → Data → Result (ℕ × A) Fault
one_of name_of known d = read_text d >>= λ s. known_or_not (found_of name_of known s)

-- the number that an index holds at a name
abbrev pub number_at : {Y : Type 0} → BTreeMap (Vec ℕ Y) ℕ → List ℕ → Option ℕ
number_at numbers name = get_by (λ k. slice_cmp nat_cmp name k.items) numbers

-- the index after has a number for the name, if it had none before, and else what it had
abbrev pub AddsNumber : {Y : Type 0} → BTreeMap (Vec ℕ Y) ℕ → BTreeMap (Vec ℕ Y) ℕ → List ℕ → ℕ → Type 0
AddsNumber before after name n = (other : List ℕ) → number_at after other ≡ option_or (number_at before other) (if bytes_eq other name then Some n else None)
