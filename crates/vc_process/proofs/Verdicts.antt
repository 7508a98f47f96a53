-- The first offender refutes lawful use, and is one.
use Rattle.std.proofs.Common.{◌≡◌, ℕ, ◌<◌, ◌⊎◌, true, false, refl, ap, inl, inr, arith, Result, Ok, Err}
use Rattle.std.specs.Prelude.{IfErr}
use Rattle.vc_process.specs.declared.use_fault.UseFault.{UseFault}
use Rattle.vc_process.specs.declared.use_fault.UseFault.TheVariants as fault
use Rattle.vc_process.specs.Private.Clashes.{Judges}
use Rattle.vc_process.specs.Syntax.{Proc, Procs, Branches, Guards}
use Rattle.vc_process.specs.Lawful.{outputs, inputs, Shared, Lawfully, LawfullyAll, LawfullyBranches, LawfullyGuards, SideBySide, Least, Offence, channel, variable, Offends, by_output, by_input, by_variable, FirstOffence, FirstOfAll, FirstOfBranches, FirstOfGuards, in_seq, at_par, in_par, in_if, in_while, at_count, in_count, in_alt, this_part, later_part, this_branch, later_branch, this_guard, later_guard}
use Rattle.vc_process.specs.Usage.{changes, uses}
use Rattle.vc_process.specs.FirstOffender.{OffendersAreUnlawful, OneOffenderIsFirst}

parts_offend : {ps : Procs} {x : Offence} → Offends ps x → SideBySide ps → ⊥
parts_offend (by_output {k = k} least) side = side.0 k least.0
parts_offend (by_input {k = k} none least) side = side.1 k least.0
parts_offend (by_variable {k = k} none nor least) side = side.2 k least.0

mutual
  offends : {p : Proc} {x : Offence} → FirstOffence p x → Lawfully p → ⊥
  offends (in_seq h) l = offends_all h l
  offends (at_par h) l = parts_offend h l.0
  offends (in_par side h) l = offends_all h l.1
  offends (in_if h) l = offends_branches h l
  offends (in_while h) l = offends h l
  offends (at_count h) l = absurd (let c : true ≡ false = cc in cc)
  offends (in_count h f) l = offends f l.1
  offends (in_alt h) l = offends_guards h l

  offends_all : {ps : Procs} {x : Offence} → FirstOfAll ps x → LawfullyAll ps → ⊥
  offends_all (this_part h) l = offends h l.0
  offends_all (later_part first h) l = offends_all h l.1

  offends_branches : {bs : Branches} {x : Offence} → FirstOfBranches bs x → LawfullyBranches bs → ⊥
  offends_branches (this_branch h) l = offends h l.0
  offends_branches (later_branch first h) l = offends_branches h l.1

  offends_guards : {gs : Guards} {x : Offence} → FirstOfGuards gs x → LawfullyGuards gs → ⊥
  offends_guards (this_guard h) l = offends h l.0
  offends_guards (later_guard first h) l = offends_guards h l.1

pub unlawful : OffendersAreUnlawful
unlawful p x = offends

-- so one who judges refuses lawful use for want of memory alone
pub exact_use : (p : Proc) (r : Result (Unit {0}) UseFault) → Judges r (Lawfully p) (FirstOffence p) → IfErr r (λ f. Lawfully p → f ≡ fault.Memory)
exact_use p (Ok u) j = tt
exact_use p (Err (fault.Chan c)) j = λ l. absurd (unlawful p (channel c) j l)
exact_use p (Err (fault.Var v)) j = λ l. absurd (unlawful p (variable v) j l)
exact_use p (Err fault.Memory) j = λ l. refl

by_order : (P : ℕ → Type 0) (j k : ℕ) → Least P j → Least P k → ((j < k) ⊎ ((j ≡ k) ⊎ (k < j))) → j ≡ k
by_order P j k a b (inl less) = absurd (b.1 j less a.0)
by_order P j k a b (inr (inl same)) = same
by_order P j k a b (inr (inr more)) = absurd (a.1 k more b.0)

three_ways : (j k : ℕ) → (j < k) ⊎ ((j ≡ k) ⊎ (k < j))
three_ways j k = grind arith

one_least : (P : ℕ → Type 0) (j k : ℕ) → Least P j → Least P k → j ≡ k
one_least P j k a b = by_order P j k a b (three_ways j k)

one_of_parts : {ps : Procs} {x y : Offence} → Offends ps x → Offends ps y → x ≡ y
one_of_parts {ps} (by_output {k = j} a) (by_output {k = k} b) = ap channel (one_least (λ k. Shared outputs outputs k ps) j k a b)
one_of_parts (by_output {k = j} a) (by_input none b) = absurd (none j a.0)
one_of_parts (by_output {k = j} a) (by_variable none nor b) = absurd (none j a.0)
one_of_parts (by_input none a) (by_output {k = k} b) = absurd (none k b.0)
one_of_parts {ps} (by_input {k = j} none a) (by_input {k = k} other b) = ap channel (one_least (λ k. Shared inputs inputs k ps) j k a b)
one_of_parts (by_input {k = j} none a) (by_variable other nor b) = absurd (nor j a.0)
one_of_parts (by_variable none nor a) (by_output {k = k} b) = absurd (none k b.0)
one_of_parts (by_variable none nor a) (by_input {k = k} other b) = absurd (nor k b.0)
one_of_parts {ps} (by_variable {k = j} none nor a) (by_variable {k = k} other neither b) = ap variable (one_least (λ k. Shared changes uses k ps) j k a b)

mutual
  is_one : {p : Proc} {x y : Offence} → FirstOffence p x → FirstOffence p y → x ≡ y
  is_one (in_seq g) (in_seq h) = is_one_of_all g h
  is_one (at_par g) (at_par h) = one_of_parts g h
  is_one (at_par g) (in_par side h) = absurd (parts_offend g side)
  is_one (in_par side g) (at_par h) = absurd (parts_offend h side)
  is_one (in_par side g) (in_par other h) = is_one_of_all g h
  is_one (in_if g) (in_if h) = is_one_of_branches g h
  is_one (in_while g) (in_while h) = is_one g h
  is_one (at_count g) (at_count h) = refl
  is_one (at_count g) (in_count h f) = absurd (let c : true ≡ false = cc in cc)
  is_one (in_count g f) (at_count h) = absurd (let c : true ≡ false = cc in cc)
  is_one (in_count g f) (in_count h e) = is_one f e
  is_one (in_alt g) (in_alt h) = is_one_of_guards g h

  is_one_of_all : {ps : Procs} {x y : Offence} → FirstOfAll ps x → FirstOfAll ps y → x ≡ y
  is_one_of_all (this_part g) (this_part h) = is_one g h
  is_one_of_all (this_part g) (later_part first h) = absurd (offends g first)
  is_one_of_all (later_part first g) (this_part h) = absurd (offends h first)
  is_one_of_all (later_part first g) (later_part other h) = is_one_of_all g h

  is_one_of_branches : {bs : Branches} {x y : Offence} → FirstOfBranches bs x → FirstOfBranches bs y → x ≡ y
  is_one_of_branches (this_branch g) (this_branch h) = is_one g h
  is_one_of_branches (this_branch g) (later_branch first h) = absurd (offends g first)
  is_one_of_branches (later_branch first g) (this_branch h) = absurd (offends h first)
  is_one_of_branches (later_branch first g) (later_branch other h) = is_one_of_branches g h

  is_one_of_guards : {gs : Guards} {x y : Offence} → FirstOfGuards gs x → FirstOfGuards gs y → x ≡ y
  is_one_of_guards (this_guard g) (this_guard h) = is_one g h
  is_one_of_guards (this_guard g) (later_guard first h) = absurd (offends g first)
  is_one_of_guards (later_guard first g) (this_guard h) = absurd (offends h first)
  is_one_of_guards (later_guard first g) (later_guard other h) = is_one_of_guards g h

pub only : OneOffenderIsFirst
only p x y = is_one
