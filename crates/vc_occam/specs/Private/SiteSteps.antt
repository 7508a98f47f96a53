-- What one site does while the frames are gone through once.
use Rattle.std.specs.Prelude.{ℕ, List, Option, None}
use Rattle.vc_occam.specs.SiteActions.{SiteAction}
use Rattle.vc_occam.specs.SiteActions as action
use Rattle.vc_process.specs.declared.datum.Datum.{Datum}

-- one action, or an output begins and is finished
pub data Actions : Type 0 where
  one : SiteAction → Actions
  whole_output : (chan : ℕ) → Actions

abbrev pub first_action : Actions → SiteAction
first_action (one d) = d
first_action (whole_output c) = action.Offer c

-- a site, what it does, and the bytes that come along for it to assign
pub record StepAt : Type 0 where
  pub site : ℕ
  pub actions : Actions
  pub assigned : Option Datum

-- a site that assigns no bytes
abbrev pub step_at : ℕ → Actions → StepAt
step_at i d = record { site = i; actions = d; assigned = None }

-- a step without a communication
abbrev pub quiet_at : ℕ → Option Datum → StepAt
quiet_at i x = record { site = i; actions = one action.Quiet; assigned = x }

-- the message comes that a site waits for
abbrev pub message_at : ℕ → List ℕ → StepAt
message_at i m = step_at i (one (action.Message m))
