-- What a process comes to tells its moves.
use Rattle.std.proofs.Common.{◌≡◌, ℕ, Bool, true, false, ◌&&◌, refl, sym, [], ◌∷◌, Option, None, arith, if◌then◌else◌}
use Rattle.std.specs.Prelude.{◌==◌}
use Rattle.std.proofs.lemmas.Bool.Decides.{nat_tests}
use Rattle.vc_occam.specs.declared.frame.Task.{Task}
use Rattle.vc_occam.specs.declared.moves.Move.TheVariants as move
use Rattle.vc_occam.specs.declared.outcome.Outcome.{Outcome}
use Rattle.vc_occam.specs.declared.outcome.Outcome.TheVariants as outcome
use Rattle.vc_process.specs.declared.datum.Datum.{Datum}
use Rattle.vc_process.specs.Syntax.{Whole, Bytes, Proc, SKIP, STOP, Assign, SEQ, PAR, IF, WHILE, COUNT, no_parts}
use Rattle.vc_process.specs.Values.{Store}
use Rattle.vc_occam.specs.First.{own}
use Rattle.vc_occam.specs.Frames.{View, fresh_outcome, left_by, outcome_of, same_outcome, task_view, unless_ended}
use Rattle.vc_occam.specs.Private.Frames.{assigned_at}
use Rattle.vc_occam.specs.Remains.{Rest, Done, Fresh, Then, Turns, Beside}

pub same_is : (o q : Outcome) → same_outcome o q ≡ true → o ≡ q
same_is outcome.Ended outcome.Ended h = refl
same_is outcome.Ended (outcome.Quiet j) h = absurd cc
same_is outcome.Ended outcome.Other h = absurd cc
same_is outcome.Nothing outcome.Ended h = absurd cc
same_is outcome.Nothing outcome.Nothing h = refl
same_is outcome.Nothing (outcome.Quiet j) h = absurd cc
same_is outcome.Nothing outcome.Other h = absurd cc
same_is (outcome.Quiet i) outcome.Ended h = absurd cc
same_is (outcome.Quiet i) (outcome.Quiet j) h = let e : i ≡ j = grind (arith, nat_tests) in cc
same_is (outcome.Quiet i) outcome.Other h = absurd cc
same_is outcome.Other outcome.Ended h = absurd cc
same_is outcome.Other (outcome.Quiet j) h = absurd cc
same_is outcome.Other outcome.Other h = refl
same_is o outcome.Nothing h = absurd cc

unless_nothing : (o : Outcome) → unless_ended o ≡ outcome.Nothing → o ≡ outcome.Nothing
unless_nothing outcome.Ended h = absurd cc
unless_nothing outcome.Nothing h = refl
unless_nothing (outcome.Quiet i) h = h
unless_nothing outcome.Other h = h

unless_quiet : (o : Outcome) (i : ℕ) → unless_ended o ≡ outcome.Quiet i → o ≡ outcome.Quiet i
unless_quiet outcome.Ended i h = absurd cc
unless_quiet o i h = h

fresh_nothing : (p : Proc) (e : Store) → fresh_outcome p ≡ outcome.Nothing → own (Fresh p) e ≡ []
fresh_nothing (STOP i) e h = refl
fresh_nothing (Assign i v (Whole a)) e h = absurd cc
fresh_nothing (SEQ i no_parts) e h = absurd cc
fresh_nothing (PAR i no_parts) e h = absurd cc
fresh_nothing p e h = absurd cc

-- what comes to nothing has no move
pub nothing_own : (r : Rest) (e : Store) → outcome_of r ≡ outcome.Nothing → own r e ≡ []
nothing_own Done e h = absurd cc
nothing_own (Fresh p) e h = fresh_nothing p e h
nothing_own (Then r ps) e h = nothing_own r e (unless_nothing (outcome_of r) h)
nothing_own (Turns r v b n p) e h = nothing_own r e (unless_nothing (outcome_of r) h)
nothing_own (Beside mine r q) e h = absurd cc
nothing_own r e h = refl

fresh_quiet : (p : Proc) (i : ℕ) (e : Store) → fresh_outcome p ≡ outcome.Quiet i → own (Fresh p) e ≡ move.Quiet i ∷ []
fresh_quiet (SKIP j) i e h = cc
fresh_quiet (Assign j v (Whole a)) i e h = cc
fresh_quiet (SEQ j no_parts) i e h = cc
fresh_quiet (PAR j no_parts) i e h = cc
fresh_quiet (IF j bs) i e h = cc
fresh_quiet (WHILE j b p) i e h = cc
fresh_quiet (COUNT j v a n p) i e h = cc
fresh_quiet p i e h = absurd cc

-- what comes to a quiet step has this move alone
pub quiet_own : (r : Rest) (i : ℕ) (e : Store) → outcome_of r ≡ outcome.Quiet i → own r e ≡ move.Quiet i ∷ []
quiet_own (Fresh p) i e h = fresh_quiet p i e h
quiet_own (Then r ps) i e h = quiet_own r i e (unless_quiet (outcome_of r) i h)
quiet_own (Turns r v b n p) i e h = quiet_own r i e (unless_quiet (outcome_of r) i h)
quiet_own r i e h = absurd cc

none_either : (b : Bool) (x : Option Datum) → x ≡ None → (if b then x else None) ≡ None
none_either true x h = h
none_either false x h = refl

fresh_assigned : (j : ℕ) (p : Proc) (i : ℕ) (e : Store) → fresh_outcome p ≡ outcome.Quiet i → assigned_at j (Fresh p) e ≡ None
fresh_assigned j (Assign k v (Whole a)) i e h = none_either (j == k) None refl
fresh_assigned j (Assign k v (Bytes a)) i e h = absurd cc
fresh_assigned j p i e h = refl

-- and it assigns no bytes
pub quiet_assigned : (j : ℕ) (r : Rest) (i : ℕ) (e : Store) → outcome_of r ≡ outcome.Quiet i → assigned_at j r e ≡ None
quiet_assigned j (Fresh p) i e h = fresh_assigned j p i e h
quiet_assigned j (Then r ps) i e h = quiet_assigned j r i e (unless_quiet (outcome_of r) i h)
quiet_assigned j (Turns r v b n p) i e h = quiet_assigned j r i e (unless_quiet (outcome_of r) i h)
quiet_assigned j (Beside mine r q) i e h = absurd cc
quiet_assigned j r i e h = refl

-- what a process that goes on by itself begins with is true of what remains of it
pub task_outcome : (t : Task View) → (task_view t).sound ≡ true → outcome_of (task_view t).rest ≡ t.begins
task_outcome t h = on t.frame.sound h
  where
    on : (b : Bool) → (b && same_outcome t.begins (outcome_of (left_by t.begins t.frame.rest))) ≡ true → outcome_of (left_by t.begins t.frame.rest) ≡ t.begins
    on true q = sym (same_is t.begins (outcome_of (left_by t.begins t.frame.rest)) q)
    on false q = absurd cc
