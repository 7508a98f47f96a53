-- A node's processor as it begins, by the ends that it is given.
use Rattle.std.specs.Prelude.{◌≡◌, ℕ, Bool, false, List, [], ◌∷◌, Option, Some, None, nat_eq, if◌then◌else◌, slice_get}
use Rattle.vc_vcp.specs.Names.{NamesDiffer}
use Rattle.vc_vcp.specs.declared.end.End.{End as Given}
use Rattle.vc_vcp.specs.Carrier.{End, Ends}

abbrev pub end_at : Given → End
end_at e = record { link = e.link; block = e.block; route = e.route }

abbrev pub is_chan : ℕ → Option ℕ → Bool
is_chan c None = false
is_chan c (Some d) = nat_eq d c

-- the end that has the channel
abbrev pub end_with : (Given → Option ℕ) → List Given → ℕ → Option End
end_with chan [] c = None
end_with chan (e ∷ es) c = if is_chan c (chan e) then Some (end_at e) else end_with chan es c

abbrev pub ends_given : List Given → Ends
ends_given es = record { output = end_with (λ e. e.output) es; input = end_with (λ e. e.input) es }

-- no two ends have the same channel
abbrev pub NoneTwice : (Given → Option ℕ) → List Given → Type 0
NoneTwice chan es = (i j c : ℕ) (d e : Given) → slice_get es i ≡ Some d → slice_get es j ≡ Some e → chan d ≡ Some c → chan e ≡ Some c → i ≡ j

-- each end has a block and channels of its own
pub record AreDistinct (es : List Given) : Type 0 where
  pub blocks : NamesDiffer (λ e. e.block) es
  pub outputs : NoneTwice (λ e. e.output) es
  pub inputs : NoneTwice (λ e. e.input) es
