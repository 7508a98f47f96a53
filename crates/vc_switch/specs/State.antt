-- What a switch keeps: its table, what its links do with headers, and the two ends of its links.
use Rattle.std.specs.Prelude.{◌≡◌, ◌≢◌, ℕ, ◌+◌, ◌<◌, ◌≤◌, Bool, false, List, [], ◌∷◌, length, drop, slice_get, Option, Some, None}
use Rattle.std.specs.List.{AllByRecursion}
use Rattle.vc_labels.specs.declared.row.Row.{Row}
use Rattle.vc_labels.specs.Lawful.{IsLawful}
use Rattle.vc_tokens.specs.Tokens.{Fct}
use Rattle.vc_switch.specs.Forward.{SwitchPlan, Interval}
use Rattle.vc_switch.specs.Switch.{BodyLeaves}
use Rattle.vc_switch.specs.declared.random_range.RandomRange.{RandomRange}
use Rattle.vc_switch.specs.declared.link_in.LinkIn.{LinkIn}
use Rattle.vc_switch.specs.declared.link_in.Bound.{Bound}
use Rattle.vc_switch.specs.declared.link_out.LinkOut.{LinkOut}
use Rattle.vc_packets.specs.Functions.{shown_or}

pub record State : Type 0 where
  pub table : List Row
  pub ranges : List (Option RandomRange)  -- by input link
  pub deletes : List Bool  -- by output link
  pub inputs : List LinkIn  -- by link
  pub outputs : List LinkOut  -- by link
  pub lost : ℕ

abbrev pub interval_of : Option RandomRange → Option Interval
interval_of None = None
interval_of (Some r) = Some (record { lower = r.lower; limit = r.limit })

-- what the table and the links do with headers
abbrev pub plan_of : State → SwitchPlan
plan_of s = record {
  table = s.table;
  random = λ link. shown_or None interval_of (slice_get s.ranges link);
  deletes = λ link. shown_or false (λ b. b) (slice_get s.deletes link);
}

-- a range has headers, all of 16 bits
abbrev pub IsRange : Option RandomRange → Type 0
IsRange None = Unit {0}
IsRange (Some r) = (r.lower < r.limit) × (r.limit ≤ 65536)

-- the output link to which an input is bound
abbrev pub output_of : Option Bound → Option ℕ
output_of None = None
output_of (Some b) = Some b.output

abbrev pub bound_at : List LinkIn → ℕ → Option ℕ
bound_at inputs link = shown_or None (λ x. output_of x.bound) (slice_get inputs link)

-- the input link that is bound to an output
abbrev pub source_at : List LinkOut → ℕ → Option ℕ
source_at outputs link = shown_or None (λ x. x.source) (slice_get outputs link)

-- an input is bound to an output where the output's source is that input
pub record ArePaired (bound source : ℕ → Option ℕ) : Type 0 where
  pub outs : (j i : ℕ) → source j ≡ Some i → bound i ≡ Some j
  pub ins : (i j : ℕ) → bound i ≡ Some j → source j ≡ Some i

-- from its place on, the packet leaves by the output, and no more was put of it than has come
pub record IsUnderWay (plan : SwitchPlan) (got : List ℕ) (b : Bound) : Type 0 where
  pub leaves : BodyLeaves plan got b.output (drop b.from got)
  pub within : b.from + b.sent ≤ length got

abbrev pub MayBeBound : SwitchPlan → List ℕ → Option Bound → Type 0
MayBeBound plan got None = Unit {0}
MayBeBound plan got (Some b) = IsUnderWay plan got b

-- An FCT never waits in a buffer, and each input has the same limit.
pub record IsLinkIn (plan : SwitchPlan) (most : ℕ) (x : LinkIn) : Type 0 where
  pub no_fct : AllByRecursion (λ k. k ≢ Fct) x.receiver.buffer
  pub limit : x.got.limit ≡ most
  pub bound : MayBeBound plan x.got.passed x.bound

-- how many bytes a packet that comes may have
abbrev pub limit_of : List LinkIn → ℕ
limit_of [] = 0
limit_of (x ∷ xs) = x.got.limit

-- There are 32 links.
pub record IsSwitch (s : State) : Type 0 where
  pub range_links : length s.ranges ≡ 32
  pub delete_links : length s.deletes ≡ 32
  pub input_links : length s.inputs ≡ 32
  pub output_links : length s.outputs ≡ 32
  pub table : IsLawful s.table
  pub ranges : AllByRecursion IsRange s.ranges
  pub room : 2 ≤ limit_of s.inputs
  pub inputs : AllByRecursion (IsLinkIn (plan_of s) (limit_of s.inputs)) s.inputs
  pub paired : ArePaired (bound_at s.inputs) (source_at s.outputs)
