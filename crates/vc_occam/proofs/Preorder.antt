-- Sites in preorder: each process has those from its own on.
use Rattle.std.proofs.Common.{◌≡◌, ℕ, suc, true, false, ◌+◌, ◌≤◌, ◌<◌, sym, subst, List, [], ◌∷◌, inl, inr, arith, map}
use Rattle.std.proofs.lemmas.Bool.Decides.{nat_tests}
use Rattle.vc_process.specs.declared.process.Process.{Process}
use Rattle.vc_process.specs.declared.process.Branch.{Branch}
use Rattle.vc_process.specs.declared.process.Guard.{Guard}
use Rattle.vc_process.specs.declared.process.Process.TheOpen as layer
use Rattle.vc_process.specs.declared.process.Process.TheFolds.{ind-Process, fold-Process, fold-Branch, fold-Guard, fold-roll-Process, fold-roll-Branch, fold-roll-Guard, map-Process}
use Rattle.vc_process.specs.Terms.{as_test}
use Rattle.vc_process.specs.Numbering.{Numbered, NumberedBranch, NumberedGuard, parts_from, branches_from, guards_from, part_sites, branch_sites, guard_sites, numbered, written}
use Rattle.vc_process.specs.Usage.{Set, just, ◌∪◌}
use Rattle.vc_occam.specs.Remains.{begin}
use Rattle.vc_occam.specs.Sites.{sites, sites_all, sites_branches, sites_guards, HasOwnSites, AllHaveOwnSites, PartsHaveOwnSites, BranchesHaveOwnSites, GuardsHaveOwnSites, OwnSites}
use Rattle.vc_occam.specs.Private.Sites.{Precedes, InPreorder, PartsInPreorder, BranchesInPreorder, GuardsInPreorder}
use Rattle.vc_occam.proofs.Sites.{either, not_true, begin_own}

-- the numbers of a set are among those from low on, below high
abbrev InRange : Set → ℕ → ℕ → Type 0
InRange a low high = (k : ℕ) → a k ≡ true → (low ≤ k) × (k < high)

-- numbered from any number on, it has sites of its own from there on, in preorder
abbrev IsGood : Numbered → Type 0
IsGood n = (i : ℕ) → HasOwnSites (n.tree i) × InRange (sites (n.tree i)) i (i + n.sites) × InPreorder (n.tree i)

abbrev AreGood : List Numbered → Type 0
AreGood [] = Unit {0}
AreGood (n ∷ ns) = IsGood n × AreGood ns

abbrev AreGoodBranches : List NumberedBranch → Type 0
AreGoodBranches [] = Unit {0}
AreGoodBranches (b ∷ bs) = IsGood b.then_do × AreGoodBranches bs

abbrev AreGoodGuards : List NumberedGuard → Type 0
AreGoodGuards [] = Unit {0}
AreGoodGuards (g ∷ gs) = IsGood g.then_do × AreGoodGuards gs

just_range : (i high : ℕ) → i < high → InRange (just i) i high
just_range i high l k h = let e : k ≡ i = grind (arith, nat_tests) in (omega arith, omega arith)

both_range : (a b : Set) (low mid high : ℕ) → low ≤ mid → mid ≤ high → InRange a low mid → InRange b mid high → InRange (a ∪ b) low high
both_range a b low mid high l m f g k h = elim (either (a k) (b k) h) [
  | inl e ↦ let n = f k e in (n.0, let z = n.1 in omega arith)
  | inr e ↦ let n = g k e in (let z = n.0 in omega arith, n.1)
]

none_range : (low high : ℕ) → InRange (λ _. false) low high
none_range low high k h = absurd (let e : false ≡ true = h in cc)

same_range : (a : Set) (low high top : ℕ) → high ≡ top → InRange a low high → InRange a low top
same_range a low high top e f = subst (InRange a low) e f

ranges_apart : (a b : Set) (low mid high : ℕ) → InRange a low mid → InRange b mid high → (k : ℕ) → a k ≡ true → b k ≡ false
ranges_apart a b low mid high f g k h = not_true (b k) (λ e. let n = f k h in let m = g k e in let x = n.1 in let y = m.0 in omega arith)

ranges_precede : (a b : Set) (low mid high : ℕ) → InRange a low mid → InRange b mid high → Precedes a b
ranges_precede a b low mid high f g j k h e = let x = (f j h).1 in let y = (g k e).0 in omega arith

own_first : (i high : ℕ) (a : Set) → InRange a (suc i) high → Precedes (just i) a
own_first i high a f j k h e = let x : j ≡ i = grind (arith, nat_tests) in let y = (f k e).0 in omega arith

one : (i : ℕ) → InRange (just i) i (i + 1)
one i = just_range i (i + 1) (omega arith)

-- a process with those within it has its own site first
above : (i n : ℕ) (a : Set) → InRange a (suc i) (suc i + n) → InRange (just i ∪ a) i (i + suc n)
above i n a f = both_range (just i) a i (suc i) (i + suc n) (omega arith) (omega arith) (just_range i (suc i) (omega arith)) (same_range a (suc i) (suc i + n) (i + suc n) (omega arith) f)

parts : (ns : List Numbered) → AreGood ns → (i : ℕ) → AllHaveOwnSites (parts_from i ns) × PartsHaveOwnSites (parts_from i ns) × InRange (sites_all (parts_from i ns)) i (i + part_sites ns) × PartsInPreorder (parts_from i ns)
parts [] g i = (tt, tt, none_range i (i + 0), tt)
parts (n ∷ ns) g i =
    let h = g.0 i in
    let k = parts ns g.1 (i + n.sites) in
    let a = sites (n.tree i) in
    let b = sites_all (parts_from (i + n.sites) ns) in
    let r : InRange b (i + n.sites) (i + (n.sites + part_sites ns)) = same_range b (i + n.sites) (i + n.sites + part_sites ns) (i + (n.sites + part_sites ns)) (omega arith) k.2 in (
      (h.0, k.0),
      (ranges_apart a b i (i + n.sites) (i + n.sites + part_sites ns) h.1 k.2, h.0, k.1),
      both_range a b i (i + n.sites) (i + (n.sites + part_sites ns)) (omega arith) (omega arith) h.1 r,
      (ranges_precede a b i (i + n.sites) (i + n.sites + part_sites ns) h.1 k.2, h.2, k.3),
    )

branches : (bs : List NumberedBranch) → AreGoodBranches bs → (i : ℕ) → BranchesHaveOwnSites (branches_from i bs) × InRange (sites_branches (branches_from i bs)) i (i + branch_sites bs) × BranchesInPreorder (branches_from i bs)
branches [] g i = (tt, none_range i (i + 0), tt)
branches (c ∷ bs) g i =
    let n = c.then_do in
    let h = g.0 i in
    let k = branches bs g.1 (i + n.sites) in
    let a = sites (n.tree i) in
    let b = sites_branches (branches_from (i + n.sites) bs) in
    let r : InRange b (i + n.sites) (i + (n.sites + branch_sites bs)) = same_range b (i + n.sites) (i + n.sites + branch_sites bs) (i + (n.sites + branch_sites bs)) (omega arith) k.1 in
    ((h.0, k.0), both_range a b i (i + n.sites) (i + (n.sites + branch_sites bs)) (omega arith) (omega arith) h.1 r, (ranges_precede a b i (i + n.sites) (i + n.sites + branch_sites bs) h.1 k.1, h.2, k.2))

guards : (gs : List NumberedGuard) → AreGoodGuards gs → (i : ℕ) → GuardsHaveOwnSites (guards_from i gs) × InRange (sites_guards (guards_from i gs)) i (i + guard_sites gs) × GuardsInPreorder (guards_from i gs)
guards [] g i = (tt, none_range i (i + 0), tt)
guards (c ∷ gs) g i =
    let n = c.then_do in
    let h = g.0 i in
    let k = guards gs g.1 (i + n.sites) in
    let a = sites (n.tree i) in
    let b = sites_guards (guards_from (i + n.sites) gs) in
    let r : InRange b (i + n.sites) (i + (n.sites + guard_sites gs)) = same_range b (i + n.sites) (i + n.sites + guard_sites gs) (i + (n.sites + guard_sites gs)) (omega arith) k.1 in
    ((h.0, k.0), both_range a b i (i + n.sites) (i + (n.sites + guard_sites gs)) (omega arith) (omega arith) h.1 r, (ranges_precede a b i (i + n.sites) (i + n.sites + guard_sites gs) h.1 k.1, h.2, k.2))

-- one layer, of processes that are good
abbrev Layer : layer.Process-F Numbered NumberedBranch NumberedGuard → Type 0
Layer (layer.Seq ps) = AreGood ps
Layer (layer.Par ps) = AreGood ps
Layer (layer.If bs) = AreGoodBranches bs
Layer (layer.While b p) = IsGood p
Layer (layer.Count v a n p) = IsGood p
Layer (layer.Alt gs) = AreGoodGuards gs
Layer x = Unit {0}

layer_good : (x : layer.Process-F Numbered NumberedBranch NumberedGuard) → Layer x → IsGood (numbered x)
layer_good (layer.Seq ps) h i = let n = parts ps h (suc i) in (n.0, above i (part_sites ps) (sites_all (parts_from (suc i) ps)) n.2, (own_first i (suc i + part_sites ps) (sites_all (parts_from (suc i) ps)) n.2, n.3))
layer_good (layer.Par ps) h i = let n = parts ps h (suc i) in (n.1, above i (part_sites ps) (sites_all (parts_from (suc i) ps)) n.2, (own_first i (suc i + part_sites ps) (sites_all (parts_from (suc i) ps)) n.2, n.3))
layer_good (layer.If bs) h i = let n = branches bs h (suc i) in (n.0, above i (branch_sites bs) (sites_branches (branches_from (suc i) bs)) n.1, (own_first i (suc i + branch_sites bs) (sites_branches (branches_from (suc i) bs)) n.1, n.2))
layer_good (layer.While b p) h i = let n = h (suc i) in (n.0, above i p.sites (sites (p.tree (suc i))) n.1, (own_first i (suc i + p.sites) (sites (p.tree (suc i))) n.1, n.2))
layer_good (layer.Count v a k p) h i = let n = h (suc i) in (n.0, above i p.sites (sites (p.tree (suc i))) n.1, (own_first i (suc i + p.sites) (sites (p.tree (suc i))) n.1, n.2))
layer_good (layer.Alt gs) h i = let n = guards gs h (suc i) in (n.0, above i (guard_sites gs) (sites_guards (guards_from (suc i) gs)) n.1, (own_first i (suc i + guard_sites gs) (sites_guards (guards_from (suc i) gs)) n.1, n.2))
layer_good x h i = (tt, one i, tt)

abbrev branch_of : layer.Branch-F Numbered NumberedBranch NumberedGuard → NumberedBranch
branch_of b = record { when = as_test b.cond; then_do = b.body }

abbrev guard_of : layer.Guard-F Numbered NumberedBranch NumberedGuard → NumberedGuard
guard_of g = record { when = as_test g.cond; chan = g.chan; var = g.var; then_do = g.body }

abbrev number : Process → Numbered
number = fold-Process Numbered NumberedBranch NumberedGuard numbered branch_of guard_of

abbrev number_branch : Branch → NumberedBranch
number_branch = fold-Branch Numbered NumberedBranch NumberedGuard numbered branch_of guard_of

abbrev number_guard : Guard → NumberedGuard
number_guard = fold-Guard Numbered NumberedBranch NumberedGuard numbered branch_of guard_of

abbrev GoodProcess : Type 0
GoodProcess = (p : Process) × IsGood (number p)

abbrev GoodBranch : Type 0
GoodBranch = (b : Branch) × IsGood (number_branch b).then_do

abbrev GoodGuard : Type 0
GoodGuard = (g : Guard) × IsGood (number_guard g).then_do

abbrev numbered_layer : layer.Process-F Process Branch Guard → layer.Process-F Numbered NumberedBranch NumberedGuard
numbered_layer = map-Process Process Branch Guard Numbered NumberedBranch NumberedGuard number number_branch number_guard

abbrev bare_layer : layer.Process-F GoodProcess GoodBranch GoodGuard → layer.Process-F Process Branch Guard
bare_layer = map-Process GoodProcess GoodBranch GoodGuard Process Branch Guard (λ e. e.0) (λ e. e.0) (λ e. e.0)

all_good : (ps : List GoodProcess) → AreGood (map number (map (λ e. e.0) ps))
all_good [] = tt
all_good (p ∷ ps) = (p.1, all_good ps)

all_good_branches : (bs : List GoodBranch) → AreGoodBranches (map number_branch (map (λ e. e.0) bs))
all_good_branches [] = tt
all_good_branches (b ∷ bs) = (b.1, all_good_branches bs)

all_good_guards : (gs : List GoodGuard) → AreGoodGuards (map number_guard (map (λ e. e.0) gs))
all_good_guards [] = tt
all_good_guards (g ∷ gs) = (g.1, all_good_guards gs)

layers : (y : layer.Process-F GoodProcess GoodBranch GoodGuard) → Layer (numbered_layer (bare_layer y))
layers (layer.Seq ps) = all_good ps
layers (layer.Par ps) = all_good ps
layers (layer.If bs) = all_good_branches bs
layers (layer.While b p) = p.1
layers (layer.Count v a k p) = p.1
layers (layer.Alt gs) = all_good_guards gs
layers x = tt

-- a whole process is good, by induction; y is x with a proof beside each process within it
is_good : (p : Process) → IsGood (number p)
is_good = ind-Process (λ p. IsGood (number p)) (λ b. IsGood (number_branch b).then_do) (λ g. IsGood (number_guard g).then_do)
    (λ x y is. subst IsGood (sym (fold-roll-Process Numbered NumberedBranch NumberedGuard numbered branch_of guard_of x))
    (layer_good (numbered_layer x) (subst (λ (z : layer.Process-F Process Branch Guard). Layer (numbered_layer z)) is (layers y))))
    (λ x y is. subst (λ (b : NumberedBranch). IsGood b.then_do) (sym (fold-roll-Branch Numbered NumberedBranch NumberedGuard numbered branch_of guard_of x))
    (subst (λ (z : layer.Branch-F Process Branch Guard). IsGood (number z.body)) is y.body.1))
    (λ x y is. subst (λ (g : NumberedGuard). IsGood g.then_do) (sym (fold-roll-Guard Numbered NumberedBranch NumberedGuard numbered branch_of guard_of x))
    (subst (λ (z : layer.Guard-F Process Branch Guard). IsGood (number z.body)) is y.body.1))

pub at_first : (p : Process) → OwnSites (begin (written p))
unfolding written
at_first p = begin_own (written p) (is_good p 0).0

pub in_preorder : (p : Process) → InPreorder (written p)
unfolding written
in_preorder p = (is_good p 0).2
