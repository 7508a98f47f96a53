-- Lawful use of what remains of a process: no step loses it.
use Rattle.std.specs.Prelude.{◌≡◌, ℕ, false, List}
use Rattle.vc_occam.specs.SiteActions.{SiteAction}
use Rattle.vc_process.specs.Lawful.{outputs, outputs_all, inputs, inputs_all, Lawfully, LawfullyAll}
use Rattle.vc_occam.specs.Remains.{Rest, Fresh, Finishing, Getting, Then, Turns, Beside, begin, changes_rest, Apart}
use Rattle.vc_occam.specs.Sites.{Disjoint}
use Rattle.vc_occam.specs.States.{State, StepsTo, Does, IsTraced}
use Rattle.vc_process.specs.ProcessStep.{ProcessStep}
use Rattle.vc_process.specs.Syntax.{Proc}
use Rattle.vc_occam.specs.Traces.{Comm}
use Rattle.vc_process.specs.Usage.{Set, nothing, just, ◌∪◌, changes}

-- the channels on which what remains outputs, and those on which it inputs, has a guard or stops
abbrev pub outputs_rest : Rest → Set
outputs_rest (Fresh p) = outputs p
outputs_rest (Finishing s c) = just c
outputs_rest (Then r ps) = outputs_rest r ∪ outputs_all ps
outputs_rest (Turns r v b n p) = outputs_rest r ∪ outputs p
outputs_rest (Beside mine r q) = outputs_rest r ∪ outputs_rest q
outputs_rest r = nothing

abbrev pub inputs_rest : Rest → Set
inputs_rest (Fresh p) = inputs p
inputs_rest (Getting s c v) = just c
inputs_rest (Then r ps) = inputs_rest r ∪ inputs_all ps
inputs_rest (Turns r v b n p) = inputs_rest r ∪ inputs p
inputs_rest (Beside mine r q) = inputs_rest r ∪ inputs_rest q
inputs_rest r = nothing

-- side by side, no channel is output on twice, none is input on twice, and neither changes what the other uses
pub record UseApart (mine : Set) (r q : Rest) : Type 0 where
  pub outputs : Disjoint (outputs_rest r) (outputs_rest q)
  pub inputs : Disjoint (inputs_rest r) (inputs_rest q)
  pub variables : Apart mine r q

-- what remains uses its channels and variables lawfully: parts side by side keep apart, a replicated SEQ keeps its index, and what
-- is yet to begin is lawful
abbrev pub UsesLawfully : Rest → Type 0
UsesLawfully (Fresh p) = Lawfully p
UsesLawfully (Then r ps) = UsesLawfully r × LawfullyAll ps
UsesLawfully (Turns r v b n p) = UsesLawfully r × (changes_rest r v ≡ false) × (changes p v ≡ false) × Lawfully p
UsesLawfully (Beside mine r q) = UseApart mine r q × UsesLawfully r × UsesLawfully q
UsesLawfully r = Unit {0}

-- a process that is written lawfully begins so
abbrev pub LawfulAtFirst : Type 0
LawfulAtFirst = (p : Proc) → Lawfully p → UsesLawfully (begin p)

-- a step of one site, and what a process does at once, leave it so
abbrev pub StepsKeepUse : Type 0
StepsKeepUse = (s s' : State) (i : ℕ) (d : SiteAction) (ks : List Comm) → StepsTo s i d ks s' → UsesLawfully s.rest → UsesLawfully s'.rest

abbrev pub DoingKeepsUse : Type 0
DoingKeepsUse = (s s' : State) (d : ProcessStep) (ks : List Comm) → Does s d ks s' → UsesLawfully s.rest → UsesLawfully s'.rest

-- where use is lawful, what a process does, followed by any trace of what remains, is a trace of what remained before
abbrev pub DoingIsTraced : Type 0
DoingIsTraced = (s s' : State) (d : ProcessStep) (ks : List Comm) → Does s d ks s' → UsesLawfully s.rest → IsTraced s ks s'
