-- What is asked of each process within a process, one after the other.
use Rattle.std.specs.Prelude.{ℕ, Bool, true, ◌&&◌, not, eqb, List, length, nat_lt}
use Rattle.vc_process.specs.declared.value_kind.ValueKind.{ValueKind}
use Rattle.vc_process.specs.declared.value_kind.ValueKind.TheVariants as of
use Rattle.vc_process.specs.declared.asked.Asked.{Asked}
use Rattle.vc_process.specs.declared.asked.Asked.TheVariants as asked
use Rattle.vc_process.specs.Syntax.{Test, Proc, Assign, Output, Input, StopChan, SEQ, PAR, IF, WHILE, COUNT, ALT, Procs, no_parts, part, Branches, no_branches, branch, Guards, no_guards, guard}
use Rattle.vc_process.specs.Limits.{exp_within, exp_fits, given_within, given_fits, given_in_length, given_kind, holds_kind}
use Rattle.vc_process.specs.ProcessLimits.{test_within, test_fits}

-- what is asked of a branch's or guard's condition, of a guard's channel and its variable, and of a process apart from its parts
pub record Asking : Type 0 where
  pub condition : Test → Bool
  pub channel : ℕ → Bool
  pub variable : ℕ → Bool
  pub itself : Proc → Bool

abbrev mutual
  pub everywhere : Asking → Proc → Bool
  everywhere a (SEQ i ps) = a.itself (SEQ i ps) && in_parts a ps
  everywhere a (PAR i ps) = a.itself (PAR i ps) && in_parts a ps
  everywhere a (IF i bs) = a.itself (IF i bs) && in_branches a bs
  everywhere a (WHILE i t p) = a.itself (WHILE i t p) && everywhere a p
  everywhere a (COUNT i v b n p) = a.itself (COUNT i v b n p) && everywhere a p
  everywhere a (ALT i gs) = a.itself (ALT i gs) && in_guards a gs
  everywhere a p = a.itself p

  pub in_parts : Asking → Procs → Bool
  in_parts a no_parts = true
  in_parts a (part p ps) = everywhere a p && in_parts a ps

  pub in_branches : Asking → Branches → Bool
  in_branches a no_branches = true
  in_branches a (branch t p bs) = a.condition t && everywhere a p && in_branches a bs

  pub in_guards : Asking → Guards → Bool
  in_guards a no_guards = true
  in_guards a (guard t c v p gs) = a.condition t && a.channel c && a.variable v && everywhere a p && in_guards a gs

-- its expressions have at most this depth
abbrev pub within_itself : ℕ → Proc → Bool
within_itself n (Assign i v a) = given_within a n
within_itself n (Output i c a) = given_within a n
within_itself n (WHILE i t p) = test_within t n
within_itself n (COUNT i v a k p) = exp_within a n && exp_within k n
within_itself n p = true

-- its message has at most 65,535 bytes
abbrev pub in_length_itself : Proc → Bool
in_length_itself (Assign i v a) = given_in_length a
in_length_itself (Output i c a) = given_in_length a
in_length_itself p = true

-- its channel is among so many, and its variables are there and of the kinds that it wants
abbrev pub names_itself : List ValueKind → ℕ → Proc → Bool
names_itself kinds n (Assign i v a) = holds_kind kinds v (given_kind a) && given_fits a kinds
names_itself kinds n (Output i c a) = nat_lt c n && given_fits a kinds
names_itself kinds n (Input i c v) = nat_lt c n && nat_lt v (length kinds)
names_itself kinds n (StopChan i c) = nat_lt c n
names_itself kinds n (WHILE i t p) = test_fits t kinds
names_itself kinds n (COUNT i v a k p) = holds_kind kinds v of.Int && exp_fits a kinds && exp_fits k kinds
names_itself kinds n p = true

-- it doesn't change this variable
abbrev pub keeps_itself : ℕ → Proc → Bool
keeps_itself v (Assign i w a) = not (eqb v w)
keeps_itself v (Input i c w) = not (eqb v w)
keeps_itself v (COUNT i w a k p) = not (eqb v w)
keeps_itself v p = true

-- each question, of a node with variables of these kinds
abbrev pub asking : Asked → List ValueKind → Asking
asking (asked.Expressions n) kinds = record { condition = λ t. test_within t n; channel = λ c. true; variable = λ v. true; itself = within_itself n }
asking asked.Length kinds = record { condition = λ t. true; channel = λ c. true; variable = λ v. true; itself = in_length_itself }
asking (asked.Names n) kinds =
    record { condition = λ t. test_fits t kinds; channel = λ c. nat_lt c n; variable = λ v. nat_lt v (length kinds); itself = names_itself kinds n }
asking (asked.Keeps v) kinds = record { condition = λ t. true; channel = λ c. true; variable = λ w. not (eqb v w); itself = keeps_itself v }
