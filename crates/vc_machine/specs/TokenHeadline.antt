-- The headline over tokens.
use Rattle.std.specs.Prelude.{◌≡◌, ℕ, true, List}
use Rattle.vc_machine.specs.Paths.{Carries, Net, IsAccepted}
use Rattle.vc_machine.specs.Machine.{Event}
use Rattle.vc_machine.specs.Headline.{Headline}
use Rattle.vc_machine.specs.Links.{Tokens, no_tokens}
use Rattle.vc_switch.specs.Waiting.{Waiting}
use Rattle.vc_machine.specs.TokenMachine.{TokenEvent, TokenRun}
use Rattle.vc_machine.specs.View.{TokenView}
use Rattle.vc_machine.specs.PacketsOfTokens.{seen}

-- the state that the tokens stand for has the headline; after a stop nothing more is taken; nothing is dropped
pub record TokenHeadline (net : Net) (back : ℕ → ℕ) (waiting : Waiting) (u : Tokens) : Type 0 where
  pub view : TokenView net u (seen net u)
  pub events : List Event
  pub headline : Headline net events (seen net u)
  pub stopped : (es : List TokenEvent) (x : Tokens) (c : ℕ) → Carries net c → TokenRun net back waiting u es x → (u.nodes.chans c).stopped ≡ true →
      (x.nodes.chans c).taken ≡ (u.nodes.chans c).taken
  pub no_strays : u.nodes.strays ≡ 0
  pub none_lost : u.nodes.lost ≡ 0

abbrev pub TokensKeepHeadline : Net → (ℕ → ℕ) → Waiting → Type 0
TokensKeepHeadline net back waiting = (es : List TokenEvent) (u : Tokens) → IsAccepted net → TokenRun net back waiting no_tokens es u → TokenHeadline net back waiting u
