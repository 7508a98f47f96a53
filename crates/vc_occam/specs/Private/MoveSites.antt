-- What a site does where a move is made, or where it goes on.
use Rattle.std.specs.Prelude.{◌≡◌, ℕ, true, List, [], ◌∷◌, Option, Some, None}
use Rattle.std.specs.List.{Contains}
use Rattle.vc_occam.specs.declared.answer.Answer.{Answer}
use Rattle.vc_occam.specs.SiteActions.{SiteAction}
use Rattle.vc_occam.specs.SiteActions as action
use Rattle.vc_occam.specs.declared.moves.Move.{Move}
use Rattle.vc_occam.specs.declared.moves.Move.TheVariants.{Offer, Want, Choose, Stopch, Inner, Quiet}
use Rattle.vc_occam.specs.Remains.{Rest}
use Rattle.vc_occam.specs.States.{State, Does, bytes_or_none, came}
use Rattle.vc_process.specs.ProcessStep.{Meets}
use Rattle.vc_occam.specs.Traces.{Comm}
use Rattle.vc_process.specs.Usage.{Set}
use Rattle.vc_process.specs.Values.{Store}

-- what its site does, where the channel gave this answer
abbrev pub action_for : Move → Answer → SiteAction
action_for (Offer i c) a = action.Offer c
action_for (Want i c) a = action.Want c (came a)
action_for (Choose i k c) a = action.Choose k c (came a)
action_for (Stopch i c) a = action.StopChannel c
action_for (Inner i j k c) a = action.Offer c
action_for (Quiet i) a = action.Quiet

-- an output is finished, or a message comes
abbrev pub action_on : Option (List ℕ) → SiteAction
action_on None = action.Finish
action_on (Some m) = action.Message m

-- it is no meeting inside the node
abbrev pub IsAlone : Move → Type 0
IsAlone (Inner i j k c) = ⊥
IsAlone m = Unit {0}

-- the input, or the guard of an ALT, that an output meets
abbrev pub partner : ℕ → Option ℕ → ℕ → Move
partner j None c = Want j c
partner j (Some k) c = Choose j k c

-- an output and this input or guard on its channel can begin
abbrev pub CanBegin : List Move → ℕ → ℕ → Move → Type 0
CanBegin ms i c (Want j d) = (d ≡ c) × Contains ms (Offer i c) × Contains ms (Want j d)
CanBegin ms i c (Choose j k d) = (d ≡ c) × Contains ms (Offer i c) × Contains ms (Choose j k d)
CanBegin ms i c m = ⊥

-- an output and an input or guard can begin on a channel inside the node
abbrev pub CanMeet : Set → List Move → ℕ → ℕ → Option ℕ → ℕ → Type 0
CanMeet inside ms i j k c = (inside c ≡ true) × Contains ms (Offer i c) × Contains ms (partner j k c)

-- one begins with an output alone and another with an input alone, which meet on a channel inside the node
pub record MeetAlone (inside : Set) (offered wanted : List Move) (met : Move) : Type 0 where
  pub sender : ℕ
  pub receiver : ℕ
  pub chan : ℕ
  pub within : inside chan ≡ true
  pub output : offered ≡ Offer sender chan ∷ []
  pub input : wanted ≡ Want receiver chan ∷ []
  pub is : met ≡ Inner sender receiver None chan

abbrev pub at : Rest → Store → State
at r e = record { rest = r; store = e }

-- an output met this input or guard, and its message was what the channel answered
abbrev pub HasMet : State → ℕ → ℕ → Move → Answer → State → Type 0
HasMet s i c (Want j d) a s' = (ks : List Comm) × Does s (Meets i j None c (bytes_or_none (came a))) ks s'
HasMet s i c (Choose j k d) a s' = (ks : List Comm) × Does s (Meets i j (Some k) c (bytes_or_none (came a))) ks s'
HasMet s i c m a s' = ⊥
