-- The syntax of processes as plain trees, without boxes and rows.
use Rattle.std.specs.Prelude.{ℕ, ℤ, Bool, List}
use Rattle.vc_process.specs.declared.operator.Op.{Op}
use Rattle.vc_process.specs.declared.relation.Rel.{Rel}

-- an expression of a whole number: a number, a variable, an operator, the size of a bytes variable
pub data Exp : Type 0 where
  Number : ℤ → Exp
  Variable : ℕ → Exp
  Binary : Op → Exp → Exp → Exp
  SizeOf : ℕ → Exp
  deriving IsSet as Exp-set

-- a condition
pub data Test : Type 0 where
  Constant : Bool → Test
  Compare : Rel → Exp → Exp → Test
  Both : Test → Test → Test
  Either : Test → Test → Test
  Negate : Test → Test
  deriving IsSet as Test-set

-- an expression of bytes: a literal, a variable, one byte so many times
pub data Text : Type 0 where
  Literal : List ℕ → Text
  Contents : ℕ → Text
  Filled : ℕ → ℕ → Text
  deriving IsSet as Text-set

-- what is assigned or output
pub data Given : Type 0 where
  Whole : Exp → Given
  Bytes : Text → Given
  deriving IsSet as Given-set

mutual
  -- a process, with the number of its site; channels and variables are numbers too
  pub data Proc : Type 0 where
    SKIP : (site : ℕ) → Proc
    STOP : (site : ℕ) → Proc
    Assign : (site var : ℕ) → Given → Proc
    Output : (site chan : ℕ) → Given → Proc
    Input : (site chan var : ℕ) → Proc
    StopChan : (site chan : ℕ) → Proc
    SEQ : (site : ℕ) → Procs → Proc
    PAR : (site : ℕ) → Procs → Proc
    IF : (site : ℕ) → Branches → Proc
    WHILE : (site : ℕ) → Test → Proc → Proc
    COUNT : (site var : ℕ) → (base count : Exp) → Proc → Proc
    ALT : (site : ℕ) → Guards → Proc
    deriving IsSet as Proc-set

  pub data Procs : Type 0 where
    no_parts : Procs
    part : Proc → Procs → Procs
    deriving IsSet as Procs-set

  pub data Branches : Type 0 where
    no_branches : Branches
    branch : Test → Proc → Branches → Branches
    deriving IsSet as Branches-set

  pub data Guards : Type 0 where
    no_guards : Guards
    guard : Test → (chan var : ℕ) → Proc → Guards → Guards
    deriving IsSet as Guards-set
