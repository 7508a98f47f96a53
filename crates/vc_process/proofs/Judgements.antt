-- What is judged of parts, branches and guards, gone through from the first on, and of the process that they stand in.
use Rattle.std.proofs.Common.{◌≡◌, ℕ, ◌+◌, ◌<◌, ◌≤◌, false, sym, subst, List, [], ◌∷◌, map, length, get_or, drop, Result, Ok, Err}
use Rattle.std.specs.Prelude.{MatchResult}
use Rattle.vc_process.specs.declared.use_fault.UseFault.{UseFault}
use Rattle.vc_process.specs.declared.use_fault.UseFault.TheVariants as fault
use Rattle.vc_process.specs.Lawful.{Lawfully, LawfullyAll, LawfullyBranches, LawfullyGuards, FirstOffence, FirstOfAll, FirstOfBranches, FirstOfGuards, SideBySide, in_seq, in_par, in_if, in_while, in_count, in_alt, this_part, later_part, this_branch, later_branch, this_guard, later_guard, Offence}
use Rattle.vc_process.specs.Numbering.{Numbered, NumberedBranch, NumberedGuard, branches_from, guards_from, parts_from}
use Rattle.vc_process.specs.Private.Clashes.{Judges}
use Rattle.vc_process.specs.Syntax.{Exp, Test, Proc, SEQ, PAR, IF, WHILE, COUNT, ALT, Procs, Branches, Guards}
use Rattle.vc_process.specs.Usage.{changes}
use Rattle.vc_process.specs.UseFaults.{IsUseFault}
use Rattle.vc_process.proofs.Walks.{drop_at, drop_all}

pub judges_by : (r : Result (Unit {0}) UseFault) (L K : Type 0) (F G : Offence → Type 0) → (L → K) → ((x : Offence) → F x → G x) → Judges r L F → Judges r K G
judges_by (Ok u) L K F G f g j = f j
judges_by (Err (fault.Chan c)) L K F G f g j = g _ j
judges_by (Err (fault.Var v)) L K F G f g j = g _ j
judges_by (Err fault.Memory) L K F G f g j = j

-- a refusal says nothing of what is so
pub judges_err : (e : UseFault) (L K : Type 0) (F G : Offence → Type 0) → ((x : Offence) → F x → G x) → Judges (Err e) L F → Judges (Err e) K G
judges_err (fault.Chan c) L K F G g j = g _ j
judges_err (fault.Var v) L K F G g j = g _ j
judges_err fault.Memory L K F G g j = j

pub judges_use : (p : Proc) (r : Result (Unit {0}) UseFault) → Judges r (Lawfully p) (FirstOffence p) → MatchResult r (λ u. Lawfully p) (λ e. IsUseFault p e)
judges_use p (Ok u) j = j
judges_use p (Err (fault.Chan c)) j = j
judges_use p (Err (fault.Var v)) j = j
judges_use p (Err fault.Memory) j = j

-- a PAR's parts may run side by side, and then the parts are judged; a replicated SEQ's body keeps the index, and then it is judged
pub judges_par : (i : ℕ) (ps : Procs) (r : Result (Unit {0}) UseFault) → SideBySide ps → Judges r (LawfullyAll ps) (FirstOfAll ps) → Judges r (Lawfully (PAR i ps)) (FirstOffence (PAR i ps))
judges_par i ps r h = judges_by r (LawfullyAll ps) (Lawfully (PAR i ps)) (FirstOfAll ps) (FirstOffence (PAR i ps)) (λ k. (h, k)) (λ x f. in_par h f)

pub judges_count : (i v : ℕ) (a n : Exp) (p : Proc) (r : Result (Unit {0}) UseFault) → changes p v ≡ false → Judges r (Lawfully p) (FirstOffence p) → Judges r (Lawfully (COUNT i v a n p)) (FirstOffence (COUNT i v a n p))
judges_count i v a n p r h = judges_by r (Lawfully p) (Lawfully (COUNT i v a n p)) (FirstOffence p) (FirstOffence (COUNT i v a n p)) (λ k. (h, k)) (λ x f. in_count h f)

-- of a process as it is numbered, what is judged of its parts
pub judges_tree : (n m : Numbered) (site : ℕ) (r : Result (Unit {0}) UseFault) → n ≡ m → Judges r (Lawfully (m.tree site)) (FirstOffence (m.tree site)) → Judges r (Lawfully (n.tree site)) (FirstOffence (n.tree site))
judges_tree n m site r e j = subst (λ (k : Numbered). Judges r (Lawfully (k.tree site)) (FirstOffence (k.tree site))) (sym e) j

pub judges_seq : (i : ℕ) (ps : Procs) (r : Result (Unit {0}) UseFault) → Judges r (LawfullyAll ps) (FirstOfAll ps) → Judges r (Lawfully (SEQ i ps)) (FirstOffence (SEQ i ps))
judges_seq i ps r = judges_by r (LawfullyAll ps) (Lawfully (SEQ i ps)) (FirstOfAll ps) (FirstOffence (SEQ i ps)) (λ k. k) (λ x f. in_seq f)

pub judges_if : (i : ℕ) (bs : Branches) (r : Result (Unit {0}) UseFault) → Judges r (LawfullyBranches bs) (FirstOfBranches bs) → Judges r (Lawfully (IF i bs)) (FirstOffence (IF i bs))
judges_if i bs r = judges_by r (LawfullyBranches bs) (Lawfully (IF i bs)) (FirstOfBranches bs) (FirstOffence (IF i bs)) (λ k. k) (λ x f. in_if f)

pub judges_while : (i : ℕ) (t : Test) (p : Proc) (r : Result (Unit {0}) UseFault) → Judges r (Lawfully p) (FirstOffence p) → Judges r (Lawfully (WHILE i t p)) (FirstOffence (WHILE i t p))
judges_while i t p r = judges_by r (Lawfully p) (Lawfully (WHILE i t p)) (FirstOffence p) (FirstOffence (WHILE i t p)) (λ k. k) (λ x f. in_while f)

pub judges_alt : (i : ℕ) (gs : Guards) (r : Result (Unit {0}) UseFault) → Judges r (LawfullyGuards gs) (FirstOfGuards gs) → Judges r (Lawfully (ALT i gs)) (FirstOffence (ALT i gs))
judges_alt i gs r = judges_by r (LawfullyGuards gs) (Lawfully (ALT i gs)) (FirstOfGuards gs) (FirstOffence (ALT i gs)) (λ k. k) (λ x f. in_alt f)

-- all are so where those from the k-th on are, and what offends first among those does so among all
abbrev pub Comes : {X N : Type 0} → (X → N) → (List N → ℕ → Type 0) → (List N → ℕ → Offence → Type 0) → List X → ℕ → Type 0
Comes num So First xs k = (site : ℕ) → (s : ℕ) × (So (map num (drop k xs)) s → So (map num xs) site) × ((x : Offence) → First (map num (drop k xs)) s x → First (map num xs) site x)

-- lists, and the first of them
pub record Goes {N : Type 0} (So : List N → ℕ → Type 0) (First : List N → ℕ → Offence → Type 0) (so : N → ℕ → Type 0) (first : N → ℕ → Offence → Type 0) (next : N → ℕ → ℕ) : Type 0 where
  pub none : (s : ℕ) → So [] s
  pub one : (n : N) (ns : List N) (s : ℕ) → so n s → So ns (next n s) → So (n ∷ ns) s
  pub here : (n : N) (ns : List N) (s : ℕ) (x : Offence) → first n s x → First (n ∷ ns) s x
  pub there : (n : N) (ns : List N) (s : ℕ) (x : Offence) → so n s → First ns (next n s) x → First (n ∷ ns) s x

module _ {X N : Type 0} (num : X → N) (So : List N → ℕ → Type 0) (First : List N → ℕ → Offence → Type 0) (so : N → ℕ → Type 0) (first : N → ℕ → Offence → Type 0) (next : N → ℕ → ℕ) (go : Goes So First so first next) where
  pub comes_next : (xs : List X) (k : ℕ) (x : X) → k < length xs → x ≡ get_or xs k x → ((s : ℕ) → so (num x) s) → Comes num So First xs k → Comes num So First xs (k + 1)
  comes_next xs k x l h right r = λ site.
      let e = r site in
      let rest = map num (drop (k + 1) xs) in
      let d = sym (drop_at num k xs x l h) in (
        next (num x) e.0,
        λ q. e.1 (subst (λ ns. So ns e.0) d (go.one (num x) rest e.0 (right e.0) q)),
        λ y q. e.2 y (subst (λ ns. First ns e.0 y) d (go.there (num x) rest e.0 y (right e.0) q)),
      )

  pub comes_fault : (xs : List X) (k : ℕ) (x : X) (e : UseFault) → k < length xs → x ≡ get_or xs k x → ((s : ℕ) → Judges (Err e) (so (num x) s) (first (num x) s)) → Comes num So First xs k → (site : ℕ) → Judges (Err e) (So (map num xs) site) (First (map num xs) site)
  comes_fault xs k x f l h wrong r = λ site.
      let e = r site in
      let rest = map num (drop (k + 1) xs) in
      let d = sym (drop_at num k xs x l h) in
      judges_err f (so (num x) e.0) (So (map num xs) site) (first (num x) e.0) (First (map num xs) site) (λ y q. e.2 y (subst (λ ns. First ns e.0 y) d (go.here (num x) rest e.0 y q))) (wrong e.0)

  pub comes_end : (xs : List X) (k : ℕ) → length xs ≤ k → Comes num So First xs k → (site : ℕ) → So (map num xs) site
  comes_end xs k l r = λ site.
      let e = r site in
      e.1 (subst (λ ns. So ns e.0) (sym (drop_all num k xs l)) (go.none e.0))

-- parts, branches and guards
abbrev pub parts_so : List Numbered → ℕ → Type 0
parts_so ns s = LawfullyAll (parts_from s ns)

abbrev pub parts_first : List Numbered → ℕ → Offence → Type 0
parts_first ns s = FirstOfAll (parts_from s ns)

abbrev pub part_so : Numbered → ℕ → Type 0
part_so n s = Lawfully (n.tree s)

abbrev pub part_first : Numbered → ℕ → Offence → Type 0
part_first n s = FirstOffence (n.tree s)

abbrev pub behind_part : Numbered → ℕ → ℕ
behind_part n s = s + n.sites

pub parts_go : Goes parts_so parts_first part_so part_first behind_part
parts_go = record { none = λ s. tt; one = λ n ns s h k. (h, k); here = λ n ns s x h. this_part h; there = λ n ns s x h k. later_part h k }

abbrev pub branches_so : List NumberedBranch → ℕ → Type 0
branches_so bs s = LawfullyBranches (branches_from s bs)

abbrev pub branches_first : List NumberedBranch → ℕ → Offence → Type 0
branches_first bs s = FirstOfBranches (branches_from s bs)

abbrev pub branch_so : NumberedBranch → ℕ → Type 0
branch_so b s = Lawfully (b.then_do.tree s)

abbrev pub branch_first : NumberedBranch → ℕ → Offence → Type 0
branch_first b s = FirstOffence (b.then_do.tree s)

abbrev pub behind_branch : NumberedBranch → ℕ → ℕ
behind_branch b s = s + b.then_do.sites

pub branches_go : Goes branches_so branches_first branch_so branch_first behind_branch
branches_go = record { none = λ s. tt; one = λ n ns s h k. (h, k); here = λ n ns s x h. this_branch h; there = λ n ns s x h k. later_branch h k }

abbrev pub guards_so : List NumberedGuard → ℕ → Type 0
guards_so gs s = LawfullyGuards (guards_from s gs)

abbrev pub guards_first : List NumberedGuard → ℕ → Offence → Type 0
guards_first gs s = FirstOfGuards (guards_from s gs)

abbrev pub guard_so : NumberedGuard → ℕ → Type 0
guard_so g s = Lawfully (g.then_do.tree s)

abbrev pub guard_first : NumberedGuard → ℕ → Offence → Type 0
guard_first g s = FirstOffence (g.then_do.tree s)

abbrev pub behind_guard : NumberedGuard → ℕ → ℕ
behind_guard g s = s + g.then_do.sites

pub guards_go : Goes guards_so guards_first guard_so guard_first behind_guard
guards_go = record { none = λ s. tt; one = λ n ns s h k. (h, k); here = λ n ns s x h. this_guard h; there = λ n ns s x h k. later_guard h k }
