-- What is asked of a whole process: its depth and that of its expressions, how many processes are written in it, its messages, and
-- the channels and variables that it names.
use Rattle.std.specs.Prelude.{ℕ, ◌-◌, Bool, true, ◌&&◌, List, length, nat_lt}
use Rattle.vc_process.specs.declared.value_kind.ValueKind.{ValueKind}
use Rattle.vc_process.specs.declared.value_kind.ValueKind.TheVariants as of
use Rattle.vc_process.specs.Syntax.{Test, Constant, Compare, Both, Either, Negate, Proc, SKIP, STOP, Assign, Output, Input, StopChan, SEQ, PAR, IF, WHILE, COUNT, ALT, Procs, no_parts, part, Branches, no_branches, branch, Guards, no_guards, guard}
use Rattle.vc_process.specs.Limits.{exp_within, exp_fits, given_within, given_fits, given_in_length, given_kind, holds_kind}

-- a condition has at most this depth; TRUE and FALSE have depth 1
abbrev pub test_within : Test → ℕ → Bool
test_within (Constant b) n = nat_lt 0 n
test_within (Compare rel a b) n = nat_lt 0 n && (exp_within a (n - 1) && exp_within b (n - 1))
test_within (Both a b) n = nat_lt 0 n && (test_within a (n - 1) && test_within b (n - 1))
test_within (Either a b) n = nat_lt 0 n && (test_within a (n - 1) && test_within b (n - 1))
test_within (Negate a) n = nat_lt 0 n && test_within a (n - 1)

-- the variables of a condition are there, and hold numbers where it wants them
abbrev pub test_fits : Test → List ValueKind → Bool
test_fits (Constant b) kinds = true
test_fits (Compare rel a b) kinds = exp_fits a kinds && exp_fits b kinds
test_fits (Both a b) kinds = test_fits a kinds && test_fits b kinds
test_fits (Either a b) kinds = test_fits a kinds && test_fits b kinds
test_fits (Negate a) kinds = test_fits a kinds

-- the process has at most this depth; one without parts has depth 1
abbrev mutual
  pub depth_within : Proc → ℕ → Bool
  depth_within (SEQ i ps) n = nat_lt 0 n && parts_depth_within ps (n - 1)
  depth_within (PAR i ps) n = nat_lt 0 n && parts_depth_within ps (n - 1)
  depth_within (IF i bs) n = nat_lt 0 n && branches_depth_within bs (n - 1)
  depth_within (WHILE i t p) n = nat_lt 0 n && depth_within p (n - 1)
  depth_within (COUNT i v a k p) n = nat_lt 0 n && depth_within p (n - 1)
  depth_within (ALT i gs) n = nat_lt 0 n && guards_depth_within gs (n - 1)
  depth_within p n = nat_lt 0 n

  pub parts_depth_within : Procs → ℕ → Bool
  parts_depth_within no_parts n = true
  parts_depth_within (part p ps) n = depth_within p n && parts_depth_within ps n

  pub branches_depth_within : Branches → ℕ → Bool
  branches_depth_within no_branches n = true
  branches_depth_within (branch t p bs) n = depth_within p n && branches_depth_within bs n

  pub guards_depth_within : Guards → ℕ → Bool
  guards_depth_within no_guards n = true
  guards_depth_within (guard t c v p gs) n = depth_within p n && guards_depth_within gs n

-- every expression and condition in the process has at most this depth
abbrev mutual
  pub exps_within : Proc → ℕ → Bool
  exps_within (SKIP i) n = true
  exps_within (STOP i) n = true
  exps_within (Assign i v a) n = given_within a n
  exps_within (Output i c a) n = given_within a n
  exps_within (Input i c v) n = true
  exps_within (StopChan i c) n = true
  exps_within (SEQ i ps) n = parts_exps_within ps n
  exps_within (PAR i ps) n = parts_exps_within ps n
  exps_within (IF i bs) n = branches_exps_within bs n
  exps_within (WHILE i t p) n = test_within t n && exps_within p n
  exps_within (COUNT i v a k p) n = exp_within a n && exp_within k n && exps_within p n
  exps_within (ALT i gs) n = guards_exps_within gs n

  pub parts_exps_within : Procs → ℕ → Bool
  parts_exps_within no_parts n = true
  parts_exps_within (part p ps) n = exps_within p n && parts_exps_within ps n

  pub branches_exps_within : Branches → ℕ → Bool
  branches_exps_within no_branches n = true
  branches_exps_within (branch t p bs) n = test_within t n && exps_within p n && branches_exps_within bs n

  pub guards_exps_within : Guards → ℕ → Bool
  guards_exps_within no_guards n = true
  guards_exps_within (guard t c v p gs) n = test_within t n && exps_within p n && guards_exps_within gs n

-- no literal or fill is over 65,535 bytes
abbrev mutual
  pub in_length : Proc → Bool
  in_length (Assign i v a) = given_in_length a
  in_length (Output i c a) = given_in_length a
  in_length (SEQ i ps) = parts_in_length ps
  in_length (PAR i ps) = parts_in_length ps
  in_length (IF i bs) = branches_in_length bs
  in_length (WHILE i t p) = in_length p
  in_length (COUNT i v a k p) = in_length p
  in_length (ALT i gs) = guards_in_length gs
  in_length p = true

  pub parts_in_length : Procs → Bool
  parts_in_length no_parts = true
  parts_in_length (part p ps) = in_length p && parts_in_length ps

  pub branches_in_length : Branches → Bool
  branches_in_length no_branches = true
  branches_in_length (branch t p bs) = in_length p && branches_in_length bs

  pub guards_in_length : Guards → Bool
  guards_in_length no_guards = true
  guards_in_length (guard t c v p gs) = in_length p && guards_in_length gs

-- its channels are among so many, and its variables are there and of the kinds that it wants
abbrev mutual
  pub names_fit : Proc → List ValueKind → ℕ → Bool
  names_fit (SKIP i) kinds n = true
  names_fit (STOP i) kinds n = true
  names_fit (Assign i v a) kinds n = holds_kind kinds v (given_kind a) && given_fits a kinds
  names_fit (Output i c a) kinds n = nat_lt c n && given_fits a kinds
  names_fit (Input i c v) kinds n = nat_lt c n && nat_lt v (length kinds)
  names_fit (StopChan i c) kinds n = nat_lt c n
  names_fit (SEQ i ps) kinds n = parts_names_fit ps kinds n
  names_fit (PAR i ps) kinds n = parts_names_fit ps kinds n
  names_fit (IF i bs) kinds n = branches_names_fit bs kinds n
  names_fit (WHILE i t p) kinds n = test_fits t kinds && names_fit p kinds n
  names_fit (COUNT i v a k p) kinds n = holds_kind kinds v of.Int && exp_fits a kinds && exp_fits k kinds && names_fit p kinds n
  names_fit (ALT i gs) kinds n = guards_names_fit gs kinds n

  pub parts_names_fit : Procs → List ValueKind → ℕ → Bool
  parts_names_fit no_parts kinds n = true
  parts_names_fit (part p ps) kinds n = names_fit p kinds n && parts_names_fit ps kinds n

  pub branches_names_fit : Branches → List ValueKind → ℕ → Bool
  branches_names_fit no_branches kinds n = true
  branches_names_fit (branch t p bs) kinds n = test_fits t kinds && names_fit p kinds n && branches_names_fit bs kinds n

  pub guards_names_fit : Guards → List ValueKind → ℕ → Bool
  guards_names_fit no_guards kinds n = true
  guards_names_fit (guard t c v p gs) kinds n =
      test_fits t kinds && nat_lt c n && nat_lt v (length kinds) && names_fit p kinds n && guards_names_fit gs kinds n
