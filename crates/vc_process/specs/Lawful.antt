-- Lawful use (rule: parts of a PAR share no output, no input and no changed variable; a replicated SEQ keeps its index).
use Rattle.std.specs.Prelude.{◌≡◌, ℕ, ◌<◌, true, false, ◌||◌, ◌&&◌, ◌⊎◌}
use Rattle.vc_process.specs.Syntax.{Proc, Output, Input, StopChan, SEQ, PAR, IF, WHILE, COUNT, ALT, Procs, no_parts, part, Branches, no_branches, branch, Guards, no_guards, guard}
use Rattle.vc_process.specs.Usage.{Set, nothing, just, ◌∪◌, changes, uses}

-- the channels output on, and those input on, guarded or stopped
abbrev mutual
  pub outputs : Proc → Set
  outputs (Output i c a) = just c
  outputs (SEQ i ps) = outputs_all ps
  outputs (PAR i ps) = outputs_all ps
  outputs (IF i bs) = outputs_branches bs
  outputs (WHILE i t p) = outputs p
  outputs (COUNT i v a n p) = outputs p
  outputs (ALT i gs) = outputs_guards gs
  outputs p = nothing

  pub outputs_all : Procs → Set
  outputs_all no_parts = nothing
  outputs_all (part p ps) = outputs p ∪ outputs_all ps

  pub outputs_branches : Branches → Set
  outputs_branches no_branches = nothing
  outputs_branches (branch t p bs) = outputs p ∪ outputs_branches bs

  pub outputs_guards : Guards → Set
  outputs_guards no_guards = nothing
  outputs_guards (guard t c v p gs) = outputs p ∪ outputs_guards gs

abbrev mutual
  pub inputs : Proc → Set
  inputs (Input i c v) = just c
  inputs (StopChan i c) = just c
  inputs (SEQ i ps) = inputs_all ps
  inputs (PAR i ps) = inputs_all ps
  inputs (IF i bs) = inputs_branches bs
  inputs (WHILE i t p) = inputs p
  inputs (COUNT i v a n p) = inputs p
  inputs (ALT i gs) = inputs_guards gs
  inputs p = nothing

  pub inputs_all : Procs → Set
  inputs_all no_parts = nothing
  inputs_all (part p ps) = inputs p ∪ inputs_all ps

  pub inputs_branches : Branches → Set
  inputs_branches no_branches = nothing
  inputs_branches (branch t p bs) = inputs p ∪ inputs_branches bs

  pub inputs_guards : Guards → Set
  inputs_guards no_guards = nothing
  inputs_guards (guard t c v p gs) = just c ∪ inputs p ∪ inputs_guards gs

-- k is in the set f of this part and in the set g of one of the others, or the other way round
abbrev pub With : (f g : Proc → Set) → ℕ → Proc → Procs → Type 0
With f g k p no_parts = ⊥
With f g k p (part q ps) = (((f p k && g q k) || (g p k && f q k)) ≡ true) ⊎ With f g k p ps

-- two of the parts have k so
abbrev pub Shared : (f g : Proc → Set) → ℕ → Procs → Type 0
Shared f g k no_parts = ⊥
Shared f g k (part p ps) = With f g k p ps ⊎ Shared f g k ps

-- what may be wrong: a channel, or a variable
pub data Offence : Type 0 where
  channel : ℕ → Offence
  variable : ℕ → Offence

-- k is the least number with this property
abbrev pub Least : (ℕ → Type 0) → ℕ → Type 0
Least P k = P k × ((j : ℕ) → j < k → P j → ⊥)

-- the parts of a PAR offend: by a channel output on twice, else by one input on twice, else by a variable
pub data Offends : Procs → Offence → Type 0 where
  by_output : {ps : Procs} {k : ℕ} → Least (λ k. Shared outputs outputs k ps) k → Offends ps (channel k)
  by_input : {ps : Procs} {k : ℕ} → ((j : ℕ) → Shared outputs outputs j ps → ⊥) → Least (λ k. Shared inputs inputs k ps) k → Offends ps (channel k)
  by_variable : {ps : Procs} {k : ℕ} → ((j : ℕ) → Shared outputs outputs j ps → ⊥) → ((j : ℕ) → Shared inputs inputs j ps → ⊥) → Least (λ k. Shared changes uses k ps) k → Offends ps (variable k)

-- the parts may run side by side
abbrev pub SideBySide : Procs → Type 0
SideBySide ps = ((k : ℕ) → Shared outputs outputs k ps → ⊥) × ((k : ℕ) → Shared inputs inputs k ps → ⊥) × ((k : ℕ) → Shared changes uses k ps → ⊥)

-- lawful use of channels and variables, at every site
abbrev mutual
  pub Lawfully : Proc → Type 0
  Lawfully (SEQ i ps) = LawfullyAll ps
  Lawfully (PAR i ps) = SideBySide ps × LawfullyAll ps
  Lawfully (IF i bs) = LawfullyBranches bs
  Lawfully (WHILE i t p) = Lawfully p
  Lawfully (COUNT i v a n p) = (changes p v ≡ false) × Lawfully p
  Lawfully (ALT i gs) = LawfullyGuards gs
  Lawfully p = Unit {0}

  pub LawfullyAll : Procs → Type 0
  LawfullyAll no_parts = Unit {0}
  LawfullyAll (part p ps) = Lawfully p × LawfullyAll ps

  pub LawfullyBranches : Branches → Type 0
  LawfullyBranches no_branches = Unit {0}
  LawfullyBranches (branch t p bs) = Lawfully p × LawfullyBranches bs

  pub LawfullyGuards : Guards → Type 0
  LawfullyGuards no_guards = Unit {0}
  LawfullyGuards (guard t c v p gs) = Lawfully p × LawfullyGuards gs

-- the first offender, PARs and replicated SEQs taken by site
mutual
  pub data FirstOffence : Proc → Offence → Type 0 where
    in_seq : {i : ℕ} {ps : Procs} {x : Offence} → FirstOfAll ps x → FirstOffence (SEQ i ps) x
    at_par : {i : ℕ} {ps : Procs} {x : Offence} → Offends ps x → FirstOffence (PAR i ps) x
    in_par : {i : ℕ} {ps : Procs} {x : Offence} → SideBySide ps → FirstOfAll ps x → FirstOffence (PAR i ps) x
    in_if : {i : ℕ} {bs : Branches} {x : Offence} → FirstOfBranches bs x → FirstOffence (IF i bs) x
    in_while : {i : ℕ} {t : _} {p : Proc} {x : Offence} → FirstOffence p x → FirstOffence (WHILE i t p) x
    at_count : {i v : ℕ} {a n : _} {p : Proc} → changes p v ≡ true → FirstOffence (COUNT i v a n p) (variable v)
    in_count : {i v : ℕ} {a n : _} {p : Proc} {x : Offence} → changes p v ≡ false → FirstOffence p x → FirstOffence (COUNT i v a n p) x
    in_alt : {i : ℕ} {gs : Guards} {x : Offence} → FirstOfGuards gs x → FirstOffence (ALT i gs) x

  pub data FirstOfAll : Procs → Offence → Type 0 where
    this_part : {p : Proc} {ps : Procs} {x : Offence} → FirstOffence p x → FirstOfAll (part p ps) x
    later_part : {p : Proc} {ps : Procs} {x : Offence} → Lawfully p → FirstOfAll ps x → FirstOfAll (part p ps) x

  pub data FirstOfBranches : Branches → Offence → Type 0 where
    this_branch : {t : _} {p : Proc} {bs : Branches} {x : Offence} → FirstOffence p x → FirstOfBranches (branch t p bs) x
    later_branch : {t : _} {p : Proc} {bs : Branches} {x : Offence} → Lawfully p → FirstOfBranches bs x → FirstOfBranches (branch t p bs) x

  pub data FirstOfGuards : Guards → Offence → Type 0 where
    this_guard : {t : _} {c v : ℕ} {p : Proc} {gs : Guards} {x : Offence} → FirstOffence p x → FirstOfGuards (guard t c v p gs) x
    later_guard : {t : _} {c v : ℕ} {p : Proc} {gs : Guards} {x : Offence} → Lawfully p → FirstOfGuards gs x → FirstOfGuards (guard t c v p gs) x
