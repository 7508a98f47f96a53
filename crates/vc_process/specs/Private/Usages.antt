-- What a process uses, one use after another, and what the parts of a PAR use.
use Rattle.std.specs.Prelude.{ℕ, suc, true, false, List, [], ◌∷◌, ◌++◌, map}
use Rattle.vc_process.specs.declared.used.Used.{Used}
use Rattle.vc_process.specs.declared.used.Used.TheVariants as of
use Rattle.vc_process.specs.declared.used.Usage.{Usage}
use Rattle.vc_process.specs.declared.used.PartUsage.{PartUsage}
use Rattle.vc_process.specs.Syntax.{Exp, Number, Variable, Binary, SizeOf, Test, Constant, Compare, Both, Either, Negate, Literal, Contents, Filled, Given, Whole, Bytes, Proc, SKIP, STOP, Assign, Output, Input, StopChan, SEQ, PAR, IF, WHILE, COUNT, ALT, Procs, no_parts, part, Branches, no_branches, branch, Guards, no_guards, guard}

-- something is communicated on the channel, or the variable is changed
abbrev pub changing : Used → Usage
changing u = record { used = u; reads = false }

-- the variable stands in an expression
abbrev pub reading : ℕ → Usage
reading v = record { used = of.Variable v; reads = true }

abbrev pub exp_usages : Exp → List Usage
exp_usages (Number z) = []
exp_usages (Variable v) = reading v ∷ []
exp_usages (Binary op a b) = exp_usages a ++ exp_usages b
exp_usages (SizeOf v) = reading v ∷ []

abbrev pub test_usages : Test → List Usage
test_usages (Constant b) = []
test_usages (Compare rel a b) = exp_usages a ++ exp_usages b
test_usages (Both a b) = test_usages a ++ test_usages b
test_usages (Either a b) = test_usages a ++ test_usages b
test_usages (Negate a) = test_usages a

abbrev pub given_usages : Given → List Usage
given_usages (Whole a) = exp_usages a
given_usages (Bytes (Literal xs)) = []
given_usages (Bytes (Contents v)) = reading v ∷ []
given_usages (Bytes (Filled b n)) = []

-- those of an input or a guard's input
abbrev pub input_usages : ℕ → ℕ → List Usage
input_usages c v = changing (of.Input c) ∷ changing (of.Variable v) ∷ []

-- those of a process and of its parts
abbrev mutual
  pub usages : Proc → List Usage
  usages (SEQ i ps) = usages_of_parts ps
  usages (PAR i ps) = usages_of_parts ps
  usages (IF i bs) = usages_of_branches bs
  usages (WHILE i t p) = test_usages t ++ usages p
  usages (COUNT i v a n p) = (changing (of.Variable v) ∷ exp_usages a ++ exp_usages n) ++ usages p
  usages (ALT i gs) = usages_of_guards gs
  usages (Assign i v a) = changing (of.Variable v) ∷ given_usages a
  usages (Output i c a) = changing (of.Output c) ∷ given_usages a
  usages (Input i c v) = input_usages c v
  usages (StopChan i c) = changing (of.Input c) ∷ []
  usages (SKIP i) = []
  usages (STOP i) = []

  pub usages_of_parts : Procs → List Usage
  usages_of_parts no_parts = []
  usages_of_parts (part p ps) = usages p ++ usages_of_parts ps

  pub usages_of_branches : Branches → List Usage
  usages_of_branches no_branches = []
  usages_of_branches (branch t p bs) = (test_usages t ++ usages p) ++ usages_of_branches bs

  pub usages_of_guards : Guards → List Usage
  usages_of_guards no_guards = []
  usages_of_guards (guard t c v p gs) = ((input_usages c v ++ test_usages t) ++ usages p) ++ usages_of_guards gs

-- a use by the part at this place
abbrev pub by_part : ℕ → Usage → PartUsage
by_part k u = record { used = u.used; reads = u.reads; part = k }

-- the uses of parts, of which the first has this place
abbrev pub part_usages : ℕ → Procs → List PartUsage
part_usages k no_parts = []
part_usages k (part p ps) = map (by_part k) (usages p) ++ part_usages (suc k) ps
