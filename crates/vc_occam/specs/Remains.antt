-- What remains of a process that runs, what it may begin with, and its steps.
use Rattle.std.specs.Prelude.{◌≡◌, ℕ, zero, suc, ℤ, pos, ◌+ℤ◌, Bool, true, false, List, [], ◌∷◌, ◌++◌, Option, Some, None}
use Rattle.vc_process.specs.declared.datum.Datum.{Datum}
use Rattle.vc_process.specs.declared.datum.Datum.TheVariants as datum
use Rattle.vc_occam.specs.SiteActions.{SiteAction, Quiet, Offer, Finish, Want, Choose, Message, StopChannel}
use Rattle.vc_process.specs.Syntax.{Exp, Test, Given, Proc, SKIP, Assign, Output, Input, StopChan, SEQ, PAR, IF, WHILE, COUNT, ALT, Procs, no_parts, part, Branches, no_branches, branch, Guards, guard}
use Rattle.vc_process.specs.Values.{Store, value_of, holds, datum_of}
use Rattle.vc_process.specs.Messages.{received}
use Rattle.vc_process.specs.Usage.{Set, changes, changes_all, uses, uses_all, ◌∪◌, nothing, just}
use Rattle.vc_occam.specs.Traces.{Comm, Out, Fin, In, Stp, End, Open, Ended, set, SameKind, Merge, both_ended, Counts, Decided, Trace, TraceSeq, TraceCount}

-- what remains of a process
pub data Rest : Type 0 where
  -- nothing
  Done : Rest
  -- nothing goes on here: a fault, or an IF without a true condition, has stopped this site
  Stopped : (site : ℕ) → Rest
  -- this process, which hasn't begun
  Fresh : Proc → Rest
  -- the end of an output
  Finishing : (site chan : ℕ) → Rest
  -- the message of an input
  Getting : (site chan var : ℕ) → Rest
  -- this, and then these processes
  Then : Rest → Procs → Rest
  -- this turn of a replicated SEQ, and then so many turns, with the index from next on
  Turns : Rest → (var : ℕ) → (next : ℤ) → (left : ℕ) → Proc → Rest
  -- this, which remains of a process that changes these variables, beside what remains of the others
  Beside : Set → Rest → Rest → Rest
  deriving IsSet as Rest-set

-- this, and then these processes, if there are any
abbrev pub and_then : Rest → Procs → Rest
and_then r no_parts = r
and_then r (part p ps) = Then r (part p ps)

-- a process begins: an empty SEQ or PAR is a step of its own, and any other begins with its parts
abbrev mutual
  pub begin : Proc → Rest
  begin (SEQ i ps) = begin_seq i ps
  begin (PAR i ps) = begin_par i ps
  begin p = Fresh p

  pub begin_seq : ℕ → Procs → Rest
  begin_seq i no_parts = Fresh (SEQ i no_parts)
  begin_seq i (part p ps) = and_then (begin p) ps

  pub begin_par : ℕ → Procs → Rest
  begin_par i no_parts = Fresh (PAR i no_parts)
  begin_par i (part p ps) = Beside (changes p) (begin p) (begin_all ps)

  pub begin_all : Procs → Rest
  begin_all no_parts = Done
  begin_all (part p ps) = Beside (changes p) (begin p) (begin_all ps)

-- the communications that what remains may make
pub data TraceRest : Rest → Store → List Comm → End → Type 0 where
  done : {e : Store} → TraceRest Done e [] (Ended e)
  fresh : {p : Proc} {e : Store} {t : List Comm} {x : End} → Trace p e t x → TraceRest (Fresh p) e t x
  stopped : {s : ℕ} {e : Store} → TraceRest (Stopped s) e [] Open
  finishing_cut : {s c : ℕ} {e : Store} → TraceRest (Finishing s c) e [] Open
  finishing : {s c : ℕ} {e : Store} → TraceRest (Finishing s c) e (Fin c ∷ []) (Ended e)
  getting_cut : {s c v : ℕ} {e : Store} → TraceRest (Getting s c v) e [] Open
  getting : {s c v : ℕ} {e : Store} {x : Datum} → SameKind x (e v) → TraceRest (Getting s c v) e (In c x ∷ []) (Ended (set e v x))
  then_open : {r : Rest} {ps : Procs} {e : Store} {t : List Comm} → TraceRest r e t Open → TraceRest (Then r ps) e t Open
  then_next : {r : Rest} {ps : Procs} {e f : Store} {t u : List Comm} {x : End} → TraceRest r e t (Ended f) → TraceSeq ps f u x → TraceRest (Then r ps) e (t ++ u) x
  turns_open : {r : Rest} {v : ℕ} {b : ℤ} {n : ℕ} {p : Proc} {e : Store} {t : List Comm} → TraceRest r e t Open → TraceRest (Turns r v b n p) e t Open
  turns_next : {r : Rest} {v : ℕ} {b : ℤ} {n : ℕ} {p : Proc} {e f : Store} {t u : List Comm} {x : End} → TraceRest r e t (Ended f) → TraceCount v b n p f u x → TraceRest (Turns r v b n p) e (t ++ u) x
  beside : {mine : Set} {r q : Rest} {e : Store} {s t u : List Comm} {x y : End} → TraceRest r e s x → TraceRest q e t y → Merge s t u → TraceRest (Beside mine r q) e u (both_ended mine x y)

-- where a part has ended, the next one begins
abbrev pub then_on : Rest → Procs → Rest
then_on Done no_parts = Done
then_on Done (part p ps) = and_then (begin p) ps
then_on r ps = Then r ps

-- where a turn has ended, the index takes its next value and the next turn begins
abbrev pub turns_on : Rest → ℕ → ℤ → ℕ → Proc → Rest
turns_on Done v b zero p = Done
turns_on Done v b (suc n) p = Turns (begin p) v (b +ℤ pos 1) n p
turns_on r v b n p = Turns r v b n p

abbrev pub index_on : Rest → ℕ → ℤ → ℕ → Store → Store
index_on Done v b (suc n) e = set e v (datum.Int b)
index_on Done v b zero e = e
index_on r v b n e = e

-- a PAR has ended when all its parts have
abbrev pub beside_on : Set → Rest → Rest → Rest
beside_on mine Done Done = Done
beside_on mine r q = Beside mine r q

-- the first branch of the IF at this site whose condition is true begins; there is none, or a condition before it is a fault
abbrev pub branch_on : (site : ℕ) → Option Bool → Rest → Rest → Rest
branch_on s (Some true) r q = r
branch_on s (Some false) r q = q
branch_on s None r q = Stopped s

abbrev pub chosen : (site : ℕ) → Branches → Store → Rest
chosen s no_branches e = Stopped s
chosen s (branch b p bs) e = branch_on s (holds b e) (begin p) (chosen s bs e)

-- the guard at this place
pub data GuardAt : Guards → ℕ → Test → ℕ → ℕ → Proc → Type 0 where
  first : {b : Test} {c v : ℕ} {p : Proc} {gs : Guards} → GuardAt (guard b c v p gs) 0 b c v p
  later : {b b' : Test} {c c' v v' : ℕ} {p p' : Proc} {gs : Guards} {k : ℕ} → GuardAt gs k b' c' v' p' → GuardAt (guard b c v p gs) (suc k) b' c' v' p'

-- One site does something, where a Want or Choose with None waits: what remains and the variables, before and after, and the communications made.
pub data Step : Rest → Store → (site : ℕ) → SiteAction → List Comm → Rest → Store → Type 0 where
  does_skip : {s : ℕ} {e : Store} → Step (Fresh (SKIP s)) e s Quiet [] Done e
  does_empty_seq : {s : ℕ} {e : Store} → Step (Fresh (SEQ s no_parts)) e s Quiet [] Done e
  does_empty_par : {s : ℕ} {e : Store} → Step (Fresh (PAR s no_parts)) e s Quiet [] Done e
  does_assign : {s v : ℕ} {a : Given} {e : Store} {x : Datum} → datum_of a e ≡ Some x → Step (Fresh (Assign s v a)) e s Quiet [] Done (set e v x)
  faults_assign : {s v : ℕ} {a : Given} {e : Store} → datum_of a e ≡ None → Step (Fresh (Assign s v a)) e s Quiet [] (Stopped s) e
  faults_out : {s c : ℕ} {a : Given} {e : Store} → datum_of a e ≡ None → Step (Fresh (Output s c a)) e s Quiet [] (Stopped s) e
  does_if : {s : ℕ} {bs : Branches} {e : Store} → Step (Fresh (IF s bs)) e s Quiet [] (chosen s bs e) e
  does_turn : {s : ℕ} {b : Test} {p : Proc} {e : Store} → holds b e ≡ Some true → Step (Fresh (WHILE s b p)) e s Quiet [] (Then (begin p) (part (WHILE s b p) no_parts)) e
  does_leave : {s : ℕ} {b : Test} {p : Proc} {e : Store} → holds b e ≡ Some false → Step (Fresh (WHILE s b p)) e s Quiet [] Done e
  faults_while : {s : ℕ} {b : Test} {p : Proc} {e : Store} → holds b e ≡ None → Step (Fresh (WHILE s b p)) e s Quiet [] (Stopped s) e
  does_count : {s v : ℕ} {a k : Exp} {p : Proc} {e : Store} {b : ℤ} {n : ℕ} → Counts (value_of a e) (value_of k e) b (suc n) → Step (Fresh (COUNT s v a k p)) e s Quiet [] (Turns (begin p) v (b +ℤ pos 1) n p) (set e v (datum.Int b))
  does_count_none : {s v : ℕ} {a k : Exp} {p : Proc} {e : Store} {b : ℤ} → Counts (value_of a e) (value_of k e) b 0 → Step (Fresh (COUNT s v a k p)) e s Quiet [] Done e
  faults_count : {s v : ℕ} {a k : Exp} {p : Proc} {e : Store} → ((b : ℤ) (n : ℕ) → Counts (value_of a e) (value_of k e) b n → ⊥) → Step (Fresh (COUNT s v a k p)) e s Quiet [] (Stopped s) e
  does_offer : {s c : ℕ} {a : Given} {e : Store} {x : Datum} → datum_of a e ≡ Some x → Step (Fresh (Output s c a)) e s (Offer c) (Out c x ∷ []) (Finishing s c) e
  does_finish : {s c : ℕ} {e : Store} → Step (Finishing s c) e s Finish (Fin c ∷ []) Done e
  does_input : {s c v : ℕ} {e : Store} {m : List ℕ} {x : Datum} → x ≡ received (e v) m → Step (Fresh (Input s c v)) e s (Want c (Some m)) (In c x ∷ []) Done (set e v x)
  waits_input : {s c v : ℕ} {e : Store} → Step (Fresh (Input s c v)) e s (Want c None) [] (Getting s c v) e
  gets : {s c v : ℕ} {e : Store} {m : List ℕ} {x : Datum} → x ≡ received (e v) m → Step (Getting s c v) e s (Message m) (In c x ∷ []) Done (set e v x)
  does_stop : {s c : ℕ} {e : Store} → Step (Fresh (StopChan s c)) e s (StopChannel c) (Stp c ∷ []) Done e
  does_choose : {s k c v : ℕ} {b : Test} {p : Proc} {gs : Guards} {e : Store} {m : List ℕ} {x : Datum} → Decided gs e → GuardAt gs k b c v p → holds b e ≡ Some true → x ≡ received (e v) m → Step (Fresh (ALT s gs)) e s (Choose k c (Some m)) (In c x ∷ []) (begin p) (set e v x)
  waits_choose : {s k c v : ℕ} {b : Test} {p : Proc} {gs : Guards} {e : Store} → Decided gs e → GuardAt gs k b c v p → holds b e ≡ Some true → Step (Fresh (ALT s gs)) e s (Choose k c None) [] (Then (Getting s c v) (part p no_parts)) e
  -- inside a SEQ or WHILE, a replicated SEQ, a PAR
  in_then : {i : ℕ} {d : SiteAction} {m : List Comm} {r r' : Rest} {e e' : Store} {ps : Procs} → Step r e i d m r' e' → Step (Then r ps) e i d m (then_on r' ps) e'
  in_turns : {i : ℕ} {d : SiteAction} {m : List Comm} {r r' : Rest} {e e' : Store} {v : ℕ} {b : ℤ} {n : ℕ} {p : Proc} → Step r e i d m r' e' → Step (Turns r v b n p) e i d m (turns_on r' v b n p) (index_on r' v b n e')
  in_left : {i : ℕ} {d : SiteAction} {m : List Comm} {r r' q : Rest} {e e' : Store} {mine : Set} → Step r e i d m r' e' → Step (Beside mine r q) e i d m (beside_on mine r' q) e'
  in_right : {i : ℕ} {d : SiteAction} {m : List Comm} {r q q' : Rest} {e e' : Store} {mine : Set} → Step q e i d m q' e' → Step (Beside mine r q) e i d m (beside_on mine r q') e'

-- the variables that what remains may change, and those that it may use
abbrev pub changes_rest : Rest → Set
changes_rest Done = nothing
changes_rest (Stopped s) = nothing
changes_rest (Fresh p) = changes p
changes_rest (Finishing s c) = nothing
changes_rest (Getting s c v) = just v
changes_rest (Then r ps) = changes_rest r ∪ changes_all ps
changes_rest (Turns r v b n p) = changes_rest r ∪ (just v ∪ changes p)
changes_rest (Beside mine r q) = changes_rest r ∪ changes_rest q

abbrev pub uses_rest : Rest → Set
uses_rest Done = nothing
uses_rest (Stopped s) = nothing
uses_rest (Fresh p) = uses p
uses_rest (Finishing s c) = nothing
uses_rest (Getting s c v) = just v
uses_rest (Then r ps) = uses_rest r ∪ uses_all ps
uses_rest (Turns r v b n p) = uses_rest r ∪ (just v ∪ uses p)
uses_rest (Beside mine r q) = uses_rest r ∪ uses_rest q

-- side by side, neither changes what the other uses, and mine are those that the first changes
pub record Apart (mine : Set) (r q : Rest) : Type 0 where
  pub left : (v : ℕ) → changes_rest r v ≡ true → (mine v ≡ true) × (uses_rest q v ≡ false)
  pub right : (v : ℕ) → changes_rest q v ≡ true → (mine v ≡ false) × (uses_rest r v ≡ false)

-- all parts side by side keep their variables apart
abbrev pub KeepsVariablesApart : Rest → Type 0
KeepsVariablesApart (Then r ps) = KeepsVariablesApart r
KeepsVariablesApart (Turns r v b n p) = KeepsVariablesApart r
KeepsVariablesApart (Beside mine r q) = Apart mine r q × KeepsVariablesApart r × KeepsVariablesApart q
KeepsVariablesApart r = Unit {0}

-- where parts side by side keep their variables apart, what a step made, followed by any trace of what remains, is a trace of what
-- remained before
abbrev pub StepsAreTraces : Type 0
StepsAreTraces =
    (r : Rest) (e : Store) (i : ℕ) (d : SiteAction) (m : List Comm) (r' : Rest) (e' : Store) → Step r e i d m r' e' → KeepsVariablesApart r → (t : List Comm) (x : End) → TraceRest r' e' t x → TraceRest r e (m ++ t) x
