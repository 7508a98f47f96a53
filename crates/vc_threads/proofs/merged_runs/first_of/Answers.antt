use Rattle.std.proofs.Common.{◌≡◌, ◌+◌, ◌<◌, ◌⊎◌, None, get_or, sym, subst, arith}
use Rattle.std.proofs.lemmas.Option.{slice_get-get_or}
use Rattle.vc_threads.specs.Private.MergedRuns.{id_at}
use Rattle.vc_threads.specs.declared.merged_runs.Front.{Front}
use Rattle.vc_threads.proofs.Fronts.{IsFirst, was_before, first_stays, none_of, first_same, first_now, found_first, found_none}
use Rattle.vc_threads.proofs.merged_runs.first_of.Goals as goal
use Rattle.vc_threads.proofs.merged_runs.first_of.Goals.{in-Some+then-comes_before, in-Some+else-comes_before, in_default}

pub loop-k-preserved : goal.loop-k-preserved
loop-k-preserved c =
    let rs = c.args.runs.now in
    let fs = c.args.fronts.now in
    let n = c.loop-k.k in
    let d : Front = record { place = 0; at = None } in
    let f = get_or fs n d in
    let here = slice_get-get_or fs n d c.loop-k-test.true in
    let first = c.loop-k.first in
    let had = c.loop-k.invariant in
    elim c.match-fronts-k.branch [
      | in-Some+then-comes_before w ↦
          let at = w.in-Some.at in
          subst (IsFirst rs fs (n + 1)) (sym w.first-is)
          (first_now rs fs n f here first at c.loop-k-test.true w.in-Some.is (was_before (λ p. (at < p.0) ⊎ ((at ≡ p.0) × (id_at rs n < id_at rs p.1))) first w.comes_before.result w.if-comes_before.true w.comes_before.ensures) had)
      | in-Some+else-comes_before w ↦
          subst (IsFirst rs fs (n + 1)) (sym w.first-is) (first_stays rs fs n f here first w.in-Some.at w.in-Some.is w.comes_before.result w.if-comes_before.false w.comes_before.ensures had)
      | in_default w ↦ subst (IsFirst rs fs (n + 1)) (sym w.first-is) (first_same rs fs n f here first (none_of f.at w.in_default.not-Some) had)
    ]

pub returns-in-Some-first : goal.returns-in-Some-first
returns-in-Some-first c =
    let rs = c.args.runs.now in
    let fs = c.args.fronts.now in
    let found = subst (IsFirst rs fs c.loop-k.k) c.in-Some-first.is c.loop-k.invariant in
    record {
      within = let less = found.0 in let same = c.requires in omega (arith, less, same);
      first = found_first rs fs c.loop-k.k (c.in-Some-first.field-0-0, c.in-Some-first.k) c.loop-k-test.false found;
    }

pub returns-in-None : goal.returns-in-None
returns-in-None c = record {
  within = tt;
  first = found_none c.args.runs.now c.args.fronts.now c.loop-k.k c.loop-k-test.false (subst (IsFirst c.args.runs.now c.args.fronts.now c.loop-k.k) c.in-None.is c.loop-k.invariant);
}
