-- Which ways go out and come in by the links of actors, as the code keeps them: 32 places an actor.
use Rattle.std.specs.Prelude.{◌≡◌, ℕ, ◌+◌, ◌*◌, nat_lt, List, ◌∷◌, Option, Some, None, slice_get, if◌then◌else◌}
use Rattle.std.specs.Option.{option_map}
use Rattle.vc_network.specs.Plan.{back}
use Rattle.vc_plan.specs.declared.plan.Plan.{Plan}
use Rattle.vc_accepted.specs.ActorWays.{outgoing}
use Rattle.vc_tokens.specs.Tokens.{Token}

abbrev pub there : Option (Option ℕ) → Option ℕ
there None = None
there (Some way) = way

abbrev pub out_at : List (Option ℕ) → ℕ → ℕ → Option ℕ
out_at out actor link = if nat_lt link 32 then there (slice_get out (actor * 32 + link)) else None

abbrev pub in_at : List (Option ℕ) → ℕ → ℕ → Option ℕ
in_at out actor link = option_map back (out_at out actor link)

-- these are the ways at the actors of plan p
abbrev pub AreWaysAt : Plan → List (Option ℕ) → Type 0
AreWaysAt p out = (actor link : ℕ) → out_at out actor link ≡ outgoing p actor link

-- a way goes out by the link
abbrev pub IsWired : List (Option ℕ) → ℕ → ℕ → Type 0
IsWired out actor link = (way : ℕ) × (out_at out actor link ≡ Some way)

-- a token comes by the link, where these tokens stand on the ways
pub record Comes (wiring : List (Option ℕ)) (ways : List (List Token)) (actor link : ℕ) : Type 0 where
  pub way : ℕ
  pub token : Token
  pub rest : List Token
  pub into : in_at wiring actor link ≡ Some way
  pub stands : slice_get ways way ≡ Some (token ∷ rest)

-- a way goes out by the link, with tokens on it
pub record Goes (wiring : List (Option ℕ)) (ways : List (List Token)) (actor link : ℕ) : Type 0 where
  pub way : ℕ
  pub tokens : List Token
  pub out : out_at wiring actor link ≡ Some way
  pub stand : slice_get ways way ≡ Some tokens
