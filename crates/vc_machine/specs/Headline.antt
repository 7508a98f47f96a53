-- The headline: first in, first out, each once.
use Rattle.std.specs.Prelude.{◌≡◌, ℕ, suc, ◌≤◌, true, List, length}
use Rattle.vc_machine.specs.Paths.{Carries, Net}
use Rattle.vc_machine.specs.Rendezvous.{IsPrefixOf, Comm, DoesAll, part, nothing_yet}
use Rattle.vc_machine.specs.Machine.{State, Event, Run, RunTells, start, view}
use Rattle.vc_machine.specs.Places.{BelongsTo, everywhere, Number}

-- what holds of channel c in a state
pub record IsFaithful (net : Net) (s : State) (c : ℕ) : Type 0 where
  pub in_order : IsPrefixOf (s.chans c).taken (s.chans c).offered
  pub finished : (s.chans c).finished ≤ length (s.chans c).taken
  -- at most one output is unfinished, and while one is, one packet belongs to the channel
  pub one_output : length (s.chans c).offered ≤ suc (s.chans c).finished
  pub one_packet : length (s.chans c).offered ≡ suc (s.chans c).finished → Number (BelongsTo net c) (everywhere net s) 1
  pub no_packet : length (s.chans c).offered ≡ (s.chans c).finished → Number (BelongsTo net c) (everywhere net s) 0

-- after any list of steps of an accepted network
pub record Headline (net : Net) (es : List Event) (s : State) : Type 0 where
  pub each : (c : ℕ) → Carries net c → IsFaithful net s c
  -- the steps tell one list of communications, whose part for each channel is a run of the rendezvous machine
  pub told : (ks : List (ℕ × Comm)) × RunTells net start es ks s × ((c : ℕ) → DoesAll nothing_yet (part c ks) (view s c))
  pub stopped : (fs : List Event) (t : State) (c : ℕ) → Carries net c → Run net s fs t → (s.chans c).stopped ≡ true → (t.chans c).taken ≡ (s.chans c).taken
  pub no_strays : s.strays ≡ 0
  pub none_lost : s.lost ≡ 0
