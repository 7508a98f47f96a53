-- What is found in a process and in those within it, by the word of the process.
use Rattle.std.proofs.Common.{◌≡◌, ℕ, suc, ◌+◌, ap, sym, subst, ◌∙◌, List, [], ◌∷◌, ◌++◌, map, Option, Some, None}
use Rattle.std.specs.Option.{option_or}
use Rattle.vc_process.specs.declared.condition.Cond.{Cond}
use Rattle.vc_process.specs.declared.expression.Expr.{Expr}
use Rattle.vc_process.specs.declared.process.Branch.{Branch}
use Rattle.vc_process.specs.declared.process.Guard.{Guard}
use Rattle.vc_process.specs.declared.process.Process.{Process}
use Rattle.vc_process.specs.declared.process.Process.TheVariants as process
use Rattle.vc_process.specs.InOrder.{number}
use Rattle.vc_process.specs.Private.InOrder.{number_branch, number_guard}
use Rattle.vc_process.specs.Numbering.{Numbered, NumberedBranch, NumberedGuard, branches_from, guards_from, parts_from}
use Rattle.vc_process.specs.Syntax.{Proc, SEQ, PAR, IF, WHILE, COUNT, ALT}
use Rattle.vc_process.proofs.Numbers.{number_seq, number_par, number_if, number_while, number_count, number_alt, otherwise}
use Rattle.vc_reader.specs.declared.path.Step.{Step}
use Rattle.vc_reader.specs.declared.path.Step.TheVariants.{Field, Index}
use Rattle.vc_reader.specs.declared.word.Word.{Word}
use Rattle.vc_reader.specs.declared.word.Word.TheVariants as word
use Rattle.vc_explain.specs.Uses.{Located, first_of, within, within_branches, within_guards, within_parts}
use Rattle.vc_explain.proofs.Sought.{Opens, first_append}

-- found by the process itself
pub found_here : {B : Type 0} (f : Located → Option B) (p : Proc) (at : List Step) (x : B) → Some x ≡ f (p, at) → Some x ≡ first_of f (within p at)
found_here f (SEQ i ps) at x h = ap (λ o. option_or o (first_of f (within_parts word.Seq at 0 ps))) h
found_here f (PAR i ps) at x h = ap (λ o. option_or o (first_of f (within_parts word.Par at 0 ps))) h
found_here f (IF i bs) at x h = ap (λ o. option_or o (first_of f (within_branches at 0 bs))) h
found_here f (WHILE i t p) at x h = ap (λ o. option_or o (first_of f (within p (at ++ Field word.While ∷ Index 1 ∷ [])))) h
found_here f (COUNT i v a n p) at x h = ap (λ o. option_or o (first_of f (within p (at ++ Field word.For ∷ Index 3 ∷ [])))) h
found_here f (ALT i gs) at x h = ap (λ o. option_or o (first_of f (within_guards at 0 gs))) h
found_here f p at x h = ap (λ o. option_or o None) h

-- the process itself, in which nothing is found
abbrev pub Nothing : {B : Type 0} → (Located → Option B) → Process → List Step → Type 0
Nothing f p at = (s : ℕ) → None ≡ f ((number p).tree s, at)

-- what is found in it and in those within it
abbrev pub Found : {B : Type 0} → (Located → Option B) → Process → List Step → Option B → Type 0
Found f p at found = (s : ℕ) → found ≡ first_of f (within ((number p).tree s) at)

-- the same, for a process that is numbered so
abbrev pub Leads : {B : Type 0} → (Located → Option B) → List Step → Option B → Numbered → Type 0
Leads f at found n = ((s : ℕ) → None ≡ f (n.tree s, at)) → (s : ℕ) → found ≡ first_of f (within (n.tree s) at)

pub found_seq : {B : Type 0} (f : Located → Option B) (p : Process) (at : List Step) (ps : List Process) (found : Option B) → p ≡ process.Seq ps → Nothing f p at →
    ((s : ℕ) → found ≡ first_of f (within_parts word.Seq at 0 (parts_from s (map number ps)))) → Found f p at found
found_seq f p at ps found is none more =
    subst (Leads f at found) (sym (number_seq p ps is)) (λ own s. more (suc s) ∙ ap (λ o. option_or o (first_of f (within_parts word.Seq at 0 (parts_from (suc s) (map number ps))))) (own s)) none

pub found_par : {B : Type 0} (f : Located → Option B) (p : Process) (at : List Step) (ps : List Process) (found : Option B) → p ≡ process.Par ps → Nothing f p at →
    ((s : ℕ) → found ≡ first_of f (within_parts word.Par at 0 (parts_from s (map number ps)))) → Found f p at found
found_par f p at ps found is none more =
    subst (Leads f at found) (sym (number_par p ps is)) (λ own s. more (suc s) ∙ ap (λ o. option_or o (first_of f (within_parts word.Par at 0 (parts_from (suc s) (map number ps))))) (own s)) none

pub found_if : {B : Type 0} (f : Located → Option B) (p : Process) (at : List Step) (bs : List Branch) (found : Option B) → p ≡ process.If bs → Nothing f p at →
    ((s : ℕ) → found ≡ first_of f (within_branches at 0 (branches_from s (map number_branch bs)))) → Found f p at found
found_if f p at bs found is none more =
    subst (Leads f at found) (sym (number_if p bs is)) (λ own s. more (suc s) ∙ ap (λ o. option_or o (first_of f (within_branches at 0 (branches_from (suc s) (map number_branch bs))))) (own s)) none

pub found_while : {B : Type 0} (f : Located → Option B) (p : Process) (at : List Step) (t : Cond) (q : Process) (found : Option B) → p ≡ process.While t q → Nothing f p at →
    Found f q (at ++ Field word.While ∷ Index 1 ∷ []) found → Found f p at found
found_while f p at t q found is none more =
    subst (Leads f at found) (sym (number_while p t q is)) (λ own s. more (suc s) ∙ ap (λ o. option_or o (first_of f (within ((number q).tree (suc s)) (at ++ Field word.While ∷ Index 1 ∷ [])))) (own s)) none

pub found_count : {B : Type 0} (f : Located → Option B) (p : Process) (at : List Step) (v : ℕ) (a n : Expr) (q : Process) (found : Option B) → p ≡ process.Count v a n q → Nothing f p at →
    Found f q (at ++ Field word.For ∷ Index 3 ∷ []) found → Found f p at found
found_count f p at v a n q found is none more =
    subst (Leads f at found) (sym (number_count p v a n q is)) (λ own s. more (suc s) ∙ ap (λ o. option_or o (first_of f (within ((number q).tree (suc s)) (at ++ Field word.For ∷ Index 3 ∷ [])))) (own s)) none

pub found_alt : {B : Type 0} (f : Located → Option B) (p : Process) (at : List Step) (gs : List Guard) (found : Option B) → p ≡ process.Alt gs → Nothing f p at →
    ((s : ℕ) → found ≡ first_of f (within_guards at 0 (guards_from s (map number_guard gs)))) → Found f p at found
found_alt f p at gs found is none more =
    subst (Leads f at found) (sym (number_alt p gs is)) (λ own s. more (suc s) ∙ ap (λ o. option_or o (first_of f (within_guards at 0 (guards_from (suc s) (map number_guard gs))))) (own s)) none

-- nothing is found in a process with nothing within it
pub found_none : {B : Type 0} (f : Located → Option B) (p : Process) (at : List Step) → ((ps : List Process) → p ≡ process.Seq ps → ⊥) → ((ps : List Process) → p ≡ process.Par ps → ⊥) → ((bs : List Branch) → p ≡ process.If bs → ⊥) → ((t : Cond) (q : Process) → p ≡ process.While t q → ⊥) → ((v : ℕ) (a n : Expr) (q : Process) → p ≡ process.Count v a n q → ⊥) → ((gs : List Guard) → p ≡ process.Alt gs → ⊥) →
    Nothing f p at → Found f p at None
found_none f p at no_seq no_par no_if no_while no_count no_alt none =
    otherwise (Leads f at None) p no_seq no_par no_if no_while no_count no_alt
    (λ own s. ap (λ o. option_or o None) (own s)) (λ own s. ap (λ o. option_or o None) (own s))
    (λ v a h own s. ap (λ o. option_or o None) (own s)) (λ c a h own s. ap (λ o. option_or o None) (own s)) (λ c v h own s. ap (λ o. option_or o None) (own s)) (λ c h own s. ap (λ o. option_or o None) (own s)) none

-- the parts of a SEQ or a PAR, the bodies of an IF, and those of an ALT
abbrev pub in_parts : {B : Type 0} → (Located → Option B) → Word → List Step → ℕ → List Numbered → ℕ → Option B
in_parts f w at k ns s = first_of f (within_parts w at k (parts_from s ns))

abbrev pub in_part : {B : Type 0} → (Located → Option B) → Word → List Step → ℕ → Numbered → ℕ → Option B
in_part f w at k n s = first_of f (within (n.tree s) (at ++ Field w ∷ Index k ∷ []))

abbrev pub behind_part : Numbered → ℕ → ℕ
behind_part n s = s + n.sites

pub parts_open : {B : Type 0} (f : Located → Option B) (w : Word) (at : List Step) → Opens (in_parts f w at) (in_part f w at) behind_part
parts_open f w at k n ns s = first_append f (within (n.tree s) (at ++ Field w ∷ Index k ∷ [])) (within_parts w at (suc k) (parts_from (s + n.sites) ns))

abbrev pub in_branches : {B : Type 0} → (Located → Option B) → List Step → ℕ → List NumberedBranch → ℕ → Option B
in_branches f at k ns s = first_of f (within_branches at k (branches_from s ns))

abbrev pub in_branch : {B : Type 0} → (Located → Option B) → List Step → ℕ → NumberedBranch → ℕ → Option B
in_branch f at k n s = first_of f (within (n.then_do.tree s) (at ++ Field word.If ∷ Index k ∷ Index 1 ∷ []))

abbrev pub behind_branch : NumberedBranch → ℕ → ℕ
behind_branch n s = s + n.then_do.sites

pub branches_open : {B : Type 0} (f : Located → Option B) (at : List Step) → Opens (in_branches f at) (in_branch f at) behind_branch
branches_open f at k n ns s = first_append f (within (n.then_do.tree s) (at ++ Field word.If ∷ Index k ∷ Index 1 ∷ [])) (within_branches at (suc k) (branches_from (s + n.then_do.sites) ns))

abbrev pub in_guards : {B : Type 0} → (Located → Option B) → List Step → ℕ → List NumberedGuard → ℕ → Option B
in_guards f at k ns s = first_of f (within_guards at k (guards_from s ns))

abbrev pub in_guard : {B : Type 0} → (Located → Option B) → List Step → ℕ → NumberedGuard → ℕ → Option B
in_guard f at k n s = first_of f (within (n.then_do.tree s) (at ++ Field word.Alt ∷ Index k ∷ Index 3 ∷ []))

abbrev pub behind_guard : NumberedGuard → ℕ → ℕ
behind_guard n s = s + n.then_do.sites

pub guards_open : {B : Type 0} (f : Located → Option B) (at : List Step) → Opens (in_guards f at) (in_guard f at) behind_guard
guards_open f at k n ns s = first_append f (within (n.then_do.tree s) (at ++ Field word.Alt ∷ Index k ∷ Index 3 ∷ [])) (within_guards at (suc k) (guards_from (s + n.then_do.sites) ns))
