-- What a switch is, in the words of its steps.
use Rattle.std.specs.Prelude.{◌≡◌, ℕ, ◌+◌, Bool, ◌||◌, is_some, slice_get, Option, Some}
use Rattle.vc_switch.specs.State.{State, source_at}
use Rattle.vc_switch.specs.declared.link_in.LinkIn.{LinkIn}
use Rattle.vc_switch.specs.declared.link_in.Bound.{Bound}

-- a byte of the packet, or its mark, is there to be put
abbrev pub has_next : LinkIn → Bound → Bool
has_next x b = is_some (slice_get x.got.passed (b.from + b.sent)) || is_some x.mark

-- the input's packet is bound to the output, and leaves so
pub record IsBoundTo (s : State) (output link : ℕ) (b : Bound) : Type 0 where
  pub input : LinkIn
  pub here : slice_get s.inputs link ≡ Some input
  pub bound : input.bound ≡ Some b
  pub source : source_at s.outputs output ≡ Some link

-- the next byte of the packet, where one has come that was not put
abbrev pub IsNext : State → ℕ → Bound → Option ℕ → Type 0
IsNext s link b byte = (x : LinkIn) → slice_get s.inputs link ≡ Some x → slice_get x.got.passed (b.from + b.sent) ≡ byte
