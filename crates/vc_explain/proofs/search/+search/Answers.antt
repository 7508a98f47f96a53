use Rattle.std.proofs.Common.{◌≡◌, ◌∙◌, ◌∷◌, ◌++◌, [], List, map, ap, sym, subst, refl}
use Rattle.std.specs.Prelude.{ℕ}
use Rattle.vc_process.specs.declared.process.Process.{Process}
use Rattle.vc_process.specs.InOrder.{number}
use Rattle.vc_process.specs.Private.InOrder.{number_branch, number_guard}
use Rattle.vc_process.specs.Numbering.{NumberedBranch, NumberedGuard, branches_from, guards_from, parts_from}
use Rattle.vc_process.proofs.Numbers.{number_branch_out, number_guard_out}
use Rattle.vc_reader.specs.declared.path.Step.{Step}
use Rattle.vc_reader.specs.declared.path.Step.TheVariants.{Field, Index}
use Rattle.vc_reader.specs.declared.word.Word.TheVariants as word
use Rattle.vc_explain.specs.Uses.{first_of, within_branches, within_guards, within_parts}
use Rattle.vc_explain.proofs.Locations.{Found, behind_branch, behind_guard, behind_part, branches_open, found_alt, found_count, found_here, found_if, found_none, found_par, found_seq, found_while, guards_open, in_branch, in_branches, in_guard, in_guards, in_part, in_parts, parts_open}
use Rattle.vc_explain.proofs.Sought.{if_ok, sought_end, sought_found, sought_next}
use Rattle.vc_explain.proofs.search.+search.Goals as goal

pub first_found-returns-in-Some : goal.first_found-returns-in-Some
first_found-returns-in-Some g t c =
    λ site. found_here (g.S.Search.finds c.args.search.now) ((number c.args.process.now).tree site) c.args.at.now c.in-Some.found (sym c.in-Some.is ∙ c.in_ok-found.ensures site)

pub first_found-returns-in-Seq : goal.first_found-returns-in-Seq
first_found-returns-in-Seq g t c =
    let f = g.S.Search.finds c.args.search.now in
    if_ok c.found_in_parts.result (λ found. (s : ℕ) → found ≡ first_of f (within_parts word.Seq c.args.at.now 0 (parts_from s (map number c.in-Seq.parts)))) (Found f c.args.process.now c.args.at.now)
    (λ found h. found_seq f c.args.process.now c.args.at.now c.in-Seq.parts found c.in-Seq.is (λ s. sym c.in_default.is ∙ c.in_ok-found.ensures s) h) c.found_in_parts.ensures

pub first_found-returns-in-Par : goal.first_found-returns-in-Par
first_found-returns-in-Par g t c =
    let f = g.S.Search.finds c.args.search.now in
    if_ok c.found_in_parts-in-Par.result (λ found. (s : ℕ) → found ≡ first_of f (within_parts word.Par c.args.at.now 0 (parts_from s (map number c.in-Par.parts)))) (Found f c.args.process.now c.args.at.now)
    (λ found h. found_par f c.args.process.now c.args.at.now c.in-Par.parts found c.in-Par.is (λ s. sym c.in_default.is ∙ c.in_ok-found.ensures s) h) c.found_in_parts-in-Par.ensures

pub first_found-returns-in-If : goal.first_found-returns-in-If
first_found-returns-in-If g t c =
    let f = g.S.Search.finds c.args.search.now in
    if_ok c.found_in_branches.result (λ found. (s : ℕ) → found ≡ first_of f (within_branches c.args.at.now 0 (branches_from s (map number_branch c.in-If.branches)))) (Found f c.args.process.now c.args.at.now)
    (λ found h. found_if f c.args.process.now c.args.at.now c.in-If.branches found c.in-If.is (λ s. sym c.in_default.is ∙ c.in_ok-found.ensures s) h) c.found_in_branches.ensures

pub first_found-returns-in-Alt : goal.first_found-returns-in-Alt
first_found-returns-in-Alt g t c =
    let f = g.S.Search.finds c.args.search.now in
    if_ok c.found_in_guards.result (λ found. (s : ℕ) → found ≡ first_of f (within_guards c.args.at.now 0 (guards_from s (map number_guard c.in-Alt.guards)))) (Found f c.args.process.now c.args.at.now)
    (λ found h. found_alt f c.args.process.now c.args.at.now c.in-Alt.guards found c.in-Alt.is (λ s. sym c.in_default.is ∙ c.in_ok-found.ensures s) h) c.found_in_guards.ensures

pub first_found-returns-in-While : goal.first_found-returns-in-While
first_found-returns-in-While g t c =
    let f = g.S.Search.finds c.args.search.now in
    let path = c.args.at.now ++ Field word.While ∷ Index 1 ∷ [] in
    if_ok c.found_behind.result (Found f c.get.result.now path) (Found f c.args.process.now c.args.at.now)
    (λ found h. found_while f c.args.process.now c.args.at.now c.in-While.cond c.in-While.body found c.in-While.is (λ s. sym c.in_default.is ∙ c.in_ok-found.ensures s)
    (subst (λ (q : Process). Found f q path found) c.get.ensures h)) c.found_behind.ensures

pub first_found-returns-in-Count : goal.first_found-returns-in-Count
first_found-returns-in-Count g t c =
    let f = g.S.Search.finds c.args.search.now in
    let path = c.args.at.now ++ Field word.For ∷ Index 3 ∷ [] in
    if_ok c.found_behind-in-Count.result (Found f c.get-in-Count.result.now path) (Found f c.args.process.now c.args.at.now)
    (λ found h. found_count f c.args.process.now c.args.at.now c.in-Count.var c.in-Count.base c.in-Count.count c.in-Count.body found c.in-Count.is (λ s. sym c.in_default.is ∙ c.in_ok-found.ensures s)
    (subst (λ (q : Process). Found f q path found) c.get-in-Count.ensures h)) c.found_behind-in-Count.ensures

pub first_found-returns-in_default-process : goal.first_found-returns-in_default-process
first_found-returns-in_default-process g t c =
    let d = c.in_default-process in
    found_none (g.S.Search.finds c.args.search.now) c.args.process.now c.args.at.now d.not-Seq d.not-Par d.not-If d.not-While d.not-Count d.not-Alt (λ s. sym c.in_default.is ∙ c.in_ok-found.ensures s)

pub found_behind-returns : goal.found_behind-returns
found_behind-returns g t c =
    let f = g.S.Search.finds c.args.search.now in
    let p = c.args.process.now in
    let path : c.as_slice.result.now ≡ c.args.at.now ++ c.args.steps.now = c.as_slice.ensures.value ∙ c.in_ok-path.ensures in
    if_ok c.first_found.result (Found f p c.as_slice.result.now) (Found f p (c.args.at.now ++ c.args.steps.now)) (λ found h. subst (λ (q : List Step). Found f p q found) path h) c.first_found.ensures

pub found_in_parts-loop-k-init : goal.found_in_parts-loop-k-init
found_in_parts-loop-k-init g t c = λ site. (site, refl)

pub found_in_parts-returns-in-Some : goal.found_in_parts-returns-in-Some
found_in_parts-returns-in-Some g t c =
    let f = g.S.Search.finds c.args.search.now in
    let k = c.loop-k.k in
    let x = c.part-item.result in
    let r = sought_found number (in_parts f c.args.list c.args.at.now) (in_part f c.args.list c.args.at.now) behind_part c.as_slice-part-items.result.now k x c.in-Some.found (parts_open f c.args.list c.args.at.now) c.loop-k-test.true c.part-item.is
    (λ s. sym c.in-Some.is ∙ c.in_ok-found.ensures s) c.loop-k.invariant in
    λ site. r site ∙ ap (λ ys. in_parts f c.args.list c.args.at.now 0 (map number ys) site) c.as_slice-part-items.ensures

pub found_in_parts-loop-k-preserved : goal.found_in_parts-loop-k-preserved
found_in_parts-loop-k-preserved g t c =
    let f = g.S.Search.finds c.args.search.now in
    let k = c.loop-k.k in
    let x = c.part-item.result in
    sought_next number (in_parts f c.args.list c.args.at.now) (in_part f c.args.list c.args.at.now) behind_part c.as_slice-part-items.result.now k x (parts_open f c.args.list c.args.at.now) c.loop-k-test.true c.part-item.is
    (λ s. sym c.in_default.is ∙ c.in_ok-found.ensures s) c.loop-k.invariant

pub found_in_parts-returns : goal.found_in_parts-returns
found_in_parts-returns g t c =
    let f = g.S.Search.finds c.args.search.now in
    let r = sought_end number (in_parts f c.args.list c.args.at.now) c.as_slice-part-items.result.now c.loop-k.k (λ s. refl) c.loop-k-test.false c.loop-k.invariant in
    λ site. r site ∙ ap (λ ys. in_parts f c.args.list c.args.at.now 0 (map number ys) site) c.as_slice-part-items.ensures

pub found_in_branches-loop-k-init : goal.found_in_branches-loop-k-init
found_in_branches-loop-k-init g t c = λ site. (site, refl)

pub found_in_branches-returns-in-Some : goal.found_in_branches-returns-in-Some
found_in_branches-returns-in-Some g t c =
    let f = g.S.Search.finds c.args.search.now in
    let k = c.loop-k.k in
    let x = c.branch-item.result in
    let r = sought_found number_branch (in_branches f c.args.at.now) (in_branch f c.args.at.now) behind_branch c.as_slice-branch-items.result.now k x c.in-Some.found (branches_open f c.args.at.now) c.loop-k-test.true c.branch-item.is
    (λ s. sym c.in-Some.is ∙ c.in_ok-found.ensures s ∙ ap (λ (n : NumberedBranch). in_branch f c.args.at.now k n s) (sym (number_branch_out x))) c.loop-k.invariant in
    λ site. r site ∙ ap (λ ys. in_branches f c.args.at.now 0 (map number_branch ys) site) c.as_slice-branch-items.ensures

pub found_in_branches-loop-k-preserved : goal.found_in_branches-loop-k-preserved
found_in_branches-loop-k-preserved g t c =
    let f = g.S.Search.finds c.args.search.now in
    let k = c.loop-k.k in
    let x = c.branch-item.result in
    sought_next number_branch (in_branches f c.args.at.now) (in_branch f c.args.at.now) behind_branch c.as_slice-branch-items.result.now k x (branches_open f c.args.at.now) c.loop-k-test.true c.branch-item.is
    (λ s. sym c.in_default.is ∙ c.in_ok-found.ensures s ∙ ap (λ (n : NumberedBranch). in_branch f c.args.at.now k n s) (sym (number_branch_out x))) c.loop-k.invariant

pub found_in_branches-returns : goal.found_in_branches-returns
found_in_branches-returns g t c =
    let f = g.S.Search.finds c.args.search.now in
    let r = sought_end number_branch (in_branches f c.args.at.now) c.as_slice-branch-items.result.now c.loop-k.k (λ s. refl) c.loop-k-test.false c.loop-k.invariant in
    λ site. r site ∙ ap (λ ys. in_branches f c.args.at.now 0 (map number_branch ys) site) c.as_slice-branch-items.ensures

pub found_in_guards-loop-k-init : goal.found_in_guards-loop-k-init
found_in_guards-loop-k-init g t c = λ site. (site, refl)

pub found_in_guards-returns-in-Some : goal.found_in_guards-returns-in-Some
found_in_guards-returns-in-Some g t c =
    let f = g.S.Search.finds c.args.search.now in
    let k = c.loop-k.k in
    let x = c.guard-item.result in
    let r = sought_found number_guard (in_guards f c.args.at.now) (in_guard f c.args.at.now) behind_guard c.as_slice-guard-items.result.now k x c.in-Some.found (guards_open f c.args.at.now) c.loop-k-test.true c.guard-item.is
    (λ s. sym c.in-Some.is ∙ c.in_ok-found.ensures s ∙ ap (λ (n : NumberedGuard). in_guard f c.args.at.now k n s) (sym (number_guard_out x))) c.loop-k.invariant in
    λ site. r site ∙ ap (λ ys. in_guards f c.args.at.now 0 (map number_guard ys) site) c.as_slice-guard-items.ensures

pub found_in_guards-loop-k-preserved : goal.found_in_guards-loop-k-preserved
found_in_guards-loop-k-preserved g t c =
    let f = g.S.Search.finds c.args.search.now in
    let k = c.loop-k.k in
    let x = c.guard-item.result in
    sought_next number_guard (in_guards f c.args.at.now) (in_guard f c.args.at.now) behind_guard c.as_slice-guard-items.result.now k x (guards_open f c.args.at.now) c.loop-k-test.true c.guard-item.is
    (λ s. sym c.in_default.is ∙ c.in_ok-found.ensures s ∙ ap (λ (n : NumberedGuard). in_guard f c.args.at.now k n s) (sym (number_guard_out x))) c.loop-k.invariant

pub found_in_guards-returns : goal.found_in_guards-returns
found_in_guards-returns g t c =
    let f = g.S.Search.finds c.args.search.now in
    let r = sought_end number_guard (in_guards f c.args.at.now) c.as_slice-guard-items.result.now c.loop-k.k (λ s. refl) c.loop-k-test.false c.loop-k.invariant in
    λ site. r site ∙ ap (λ ys. in_guards f c.args.at.now 0 (map number_guard ys) site) c.as_slice-guard-items.ensures
