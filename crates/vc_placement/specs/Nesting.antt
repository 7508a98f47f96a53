-- How processes are grouped changes nothing: a PAR inside a PAR is its parts, side by side with the others.
use Rattle.std.specs.Prelude.{◌≡◌, ℕ, List, [], ◌∷◌}
use Rattle.vc_occam.specs.Traces.{Comm, End, Trace}
use Rattle.vc_placement.specs.Parallel.{IsEnded}
use Rattle.vc_process.specs.Syntax.{PAR, Procs, no_parts, part}
use Rattle.vc_process.specs.Values.{Store}

abbrev pub parts_and : Procs → Procs → Procs
parts_and no_parts qs = qs
parts_and (part p ps) qs = part p (parts_and ps qs)

-- whatever is ended of the one is ended of the other
pub record IsNestedSo (i j k : ℕ) (ps qs : Procs) (e : Store) (l : List Comm) : Type 0 where
  pub flat : (x : End) → Trace (PAR i (part (PAR j ps) qs)) e l x → (y : End) × Trace (PAR k (parts_and ps qs)) e l y × (IsEnded x → IsEnded y)
  pub nested : (x : End) → Trace (PAR k (parts_and ps qs)) e l x → (y : End) × Trace (PAR i (part (PAR j ps) qs)) e l y × (IsEnded x → IsEnded y)

abbrev pub NestingChangesNothing : Type 0
NestingChangesNothing = (i j k : ℕ) (ps qs : Procs) (e : Store) (l : List Comm) → IsNestedSo i j k ps qs e l

-- groups of processes, each side by side, all side by side; and the same processes without groups
abbrev pub in_groups : List Procs → Procs
in_groups [] = no_parts
in_groups (g ∷ gs) = part (PAR 0 g) (in_groups gs)

abbrev pub ungrouped : List Procs → Procs
ungrouped [] = no_parts
ungrouped (g ∷ gs) = parts_and g (ungrouped gs)

-- of two groupings of one list of processes each makes what the other makes, and has ended where it has
abbrev pub GroupingChangesNothing : Type 0
GroupingChangesNothing =
    (i j : ℕ) (gs hs : List Procs) (e : Store) (l : List Comm) (x : End) → ungrouped gs ≡ ungrouped hs → Trace (PAR i (in_groups gs)) e l x → (y : End) × Trace (PAR j (in_groups hs)) e l y × (IsEnded x → IsEnded y)
