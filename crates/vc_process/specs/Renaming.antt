-- A process over other variables: the same words with other numbers for the variables, and whatever sites. What a bound name is called
-- changes nothing of a process (Hoare, Communicating Sequential Processes, 1985, "Change of symbol").
use Rattle.std.specs.Prelude.{◌≡◌, ℕ, ◌+◌, ◌%◌, ◌^◌}
use Rattle.vc_process.specs.Numbering.{Numbered}
use Rattle.vc_process.specs.Syntax.{Exp, Number, Variable, Binary, SizeOf, Test, Constant, Compare, Both, Either, Negate, Text, Literal, Contents, Filled, Given, Whole, Bytes, Proc, SKIP, STOP, Assign, Output, Input, StopChan, SEQ, PAR, IF, WHILE, COUNT, ALT, Procs, no_parts, part, Branches, no_branches, branch, Guards, no_guards, guard}

-- the number of a variable, moved by so many, as a byte
abbrev pub moved_by : ℕ → ℕ → ℕ
moved_by by v = (by + v) % 2 ^ 8

-- an expression with other numbers for its variables
abbrev pub renamed_exp : (ℕ → ℕ) → Exp → Exp
renamed_exp ρ (Number z) = Number z
renamed_exp ρ (Variable v) = Variable (ρ v)
renamed_exp ρ (Binary op a b) = Binary op (renamed_exp ρ a) (renamed_exp ρ b)
renamed_exp ρ (SizeOf v) = SizeOf (ρ v)

abbrev pub renamed_test : (ℕ → ℕ) → Test → Test
renamed_test ρ (Constant b) = Constant b
renamed_test ρ (Compare rel a b) = Compare rel (renamed_exp ρ a) (renamed_exp ρ b)
renamed_test ρ (Both a b) = Both (renamed_test ρ a) (renamed_test ρ b)
renamed_test ρ (Either a b) = Either (renamed_test ρ a) (renamed_test ρ b)
renamed_test ρ (Negate a) = Negate (renamed_test ρ a)

abbrev pub renamed_text : (ℕ → ℕ) → Text → Text
renamed_text ρ (Literal xs) = Literal xs
renamed_text ρ (Contents v) = Contents (ρ v)
renamed_text ρ (Filled b n) = Filled b n

abbrev pub renamed_given : (ℕ → ℕ) → Given → Given
renamed_given ρ (Whole a) = Whole (renamed_exp ρ a)
renamed_given ρ (Bytes a) = Bytes (renamed_text ρ a)

-- the second process is the first with these numbers for its variables, whatever their sites
mutual
  pub data Renamed (ρ : ℕ → ℕ) : Proc → Proc → Type 0 where
    skips : {i j : ℕ} → Renamed ρ (SKIP i) (SKIP j)
    never : {i j : ℕ} → Renamed ρ (STOP i) (STOP j)
    assigns : {i j v : ℕ} {a : Given} → Renamed ρ (Assign i v a) (Assign j (ρ v) (renamed_given ρ a))
    outputs : {i j c : ℕ} {a : Given} → Renamed ρ (Output i c a) (Output j c (renamed_given ρ a))
    inputs : {i j c v : ℕ} → Renamed ρ (Input i c v) (Input j c (ρ v))
    stops : {i j c : ℕ} → Renamed ρ (StopChan i c) (StopChan j c)
    in_turn : {i j : ℕ} {ps qs : Procs} → AllRenamed ρ ps qs → Renamed ρ (SEQ i ps) (SEQ j qs)
    abreast : {i j : ℕ} {ps qs : Procs} → AllRenamed ρ ps qs → Renamed ρ (PAR i ps) (PAR j qs)
    one_of : {i j : ℕ} {bs ds : Branches} → BranchesRenamed ρ bs ds → Renamed ρ (IF i bs) (IF j ds)
    again : {i j : ℕ} {b : Test} {p q : Proc} → Renamed ρ p q → Renamed ρ (WHILE i b p) (WHILE j (renamed_test ρ b) q)
    counts : {i j v : ℕ} {a n : Exp} {p q : Proc} → Renamed ρ p q → Renamed ρ (COUNT i v a n p) (COUNT j (ρ v) (renamed_exp ρ a) (renamed_exp ρ n) q)
    chooses : {i j : ℕ} {gs hs : Guards} → GuardsRenamed ρ gs hs → Renamed ρ (ALT i gs) (ALT j hs)

  pub data AllRenamed (ρ : ℕ → ℕ) : Procs → Procs → Type 0 where
    no_part : AllRenamed ρ no_parts no_parts
    parts : {p q : Proc} {ps qs : Procs} → Renamed ρ p q → AllRenamed ρ ps qs → AllRenamed ρ (part p ps) (part q qs)

  pub data BranchesRenamed (ρ : ℕ → ℕ) : Branches → Branches → Type 0 where
    no_branch : BranchesRenamed ρ no_branches no_branches
    branches : {b : Test} {p q : Proc} {bs ds : Branches} → Renamed ρ p q → BranchesRenamed ρ bs ds → BranchesRenamed ρ (branch b p bs) (branch (renamed_test ρ b) q ds)

  pub data GuardsRenamed (ρ : ℕ → ℕ) : Guards → Guards → Type 0 where
    no_guard : GuardsRenamed ρ no_guards no_guards
    guards : {b : Test} {c v : ℕ} {p q : Proc} {gs hs : Guards} → Renamed ρ p q → GuardsRenamed ρ gs hs → GuardsRenamed ρ (guard b c v p gs) (guard (renamed_test ρ b) c (ρ v) q hs)

-- a process that is yet to be numbered, and the same with other numbers for its variables: wherever its sites begin
abbrev pub IsRenamed : (ℕ → ℕ) → Numbered → Numbered → Type 0
IsRenamed ρ p q = (q.sites ≡ p.sites) × ((i j : ℕ) → Renamed ρ (p.tree i) (q.tree j))
