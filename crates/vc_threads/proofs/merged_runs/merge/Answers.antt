use Rattle.std.proofs.Common.{◌≡◌, ℕ, ◌+◌, ◌<◌, ◌++◌, [], ◌∷◌, Some, None, length, map, drop, suc, refl, ap, sym, subst, ◌∙◌, arith, append_assoc}
use Rattle.std.specs.List.{AllByRecursion, AllZip}
use Rattle.std.proofs.Math.ListN.{set}
use Rattle.std.proofs.lemmas.List.{append-nil, length-map, length-set}
use Rattle.std.proofs.lemmas.Option.{slice_get_read, slice_get_within}
use Rattle.vc_network.specs.Merge.{IsMerge, AreDistinct, RunRises, run_of}
use Rattle.vc_actor.specs.declared.act.Act.{Act}
use Rattle.vc_threads.specs.MergedRuns.{of_pair, made_event}
use Rattle.vc_threads.specs.Private.MergedRuns.{front_of, FindsFirst, HavePassed}
use Rattle.vc_threads.proofs.Fronts.{StandsAt, left_in, left_of, stand_first, left_first, left_next, stand_next, coming, run_at, not_after, none_left}
use Rattle.vc_threads.proofs.SameStamps.{still_passed}
use Rattle.vc_threads.proofs.MergeSteps.{without, acts_left, distinct_still, rising_still, fewer_left, first_then, nothing_left}
use Rattle.vc_threads.proofs.merged_runs.merge.Goals as goal

pub loop-k-init : goal.loop-k-init
loop-k-init c =
    let rs = c.args.runs.now in
    let is = c.in_ok-fronts.ensures in
    let left = ap (left_of rs) is ∙ left_first rs in
    record {
      count = ap length is ∙ length-map rs (λ r. front_of r 0);
      fronts = subst (AllZip StandsAt rs) (sym is) (stand_first rs);
      distinct = subst AreDistinct (sym left) c.requires.distinct;
      rising = subst (AllByRecursion RunRises) (sym left) c.requires.rising;
      passed = λ sure j later next. (omega arith, λ less. absurd (omega arith));
      woven = λ more m. (more, subst (λ l. IsMerge (run_of l) more) left m, ap (λ es. es ++ map made_event more) c.new-events.ensures.items);
    }

pub next_of-requires-clause-passed : goal.next_of-requires-clause-passed
next_of-requires-clause-passed c =
    subst (λ xs. HavePassed xs c.are_in_order-in_order.result c.loop-k.from c.loop-k.stamp) (sym c.as_slice.ensures.value) c.loop-k.invariant.passed

pub index-requires-in-Some : goal.index-requires-in-Some
index-requires-in-Some c =
    let rs = c.args.runs.now in
    let fs = c.loop-k.fronts.items in
    let k = c.in-Some.k in
    let r = c.index-runs-k.result in
    let f = c.index.result.now in
    let z = c.loop-k.invariant.fronts in
    let within = c.in-Some.ensures.within in
    let count = c.loop-k.invariant.count in
    let there : k < length fs = omega (arith, within, count) in
    let run_is = slice_get_read rs (length rs) k r refl within c.index-runs-k.is in
    let front_is = slice_get_read fs (length fs) k f refl there c.index.ensures in
    let found = subst (λ xs. FindsFirst rs xs (Some k)) c.as_slice.ensures.value c.in-Some.ensures.first in
    let next = coming rs fs k found.0 r f z run_is front_is found.1 in
    let less = slice_get_within r.acts.items f.place next.act next.act_is in
    let same = r.acts.ok.0 in
    omega (arith, less, same)

pub overflow_add-place : goal.overflow_add-place
overflow_add-place c =
    let rs = c.args.runs.now in
    let fs = c.loop-k.fronts.items in
    let k = c.in-Some.k in
    let r = c.index-runs-k.result in
    let f = c.index.result.now in
    let z = c.loop-k.invariant.fronts in
    let within = c.in-Some.ensures.within in
    let count = c.loop-k.invariant.count in
    let there : k < length fs = omega (arith, within, count) in
    let run_is = slice_get_read rs (length rs) k r refl within c.index-runs-k.is in
    let front_is = slice_get_read fs (length fs) k f refl there c.index.ensures in
    let found = subst (λ xs. FindsFirst rs xs (Some k)) c.as_slice.ensures.value c.in-Some.ensures.first in
    let next = coming rs fs k found.0 r f z run_is front_is found.1 in
    let less = slice_get_within r.acts.items f.place next.act next.act_is in
    let same = r.acts.ok.0 in
    let few = r.acts.ok.1 in
    let small = r.acts.small in
    omega (arith, less, same, few, small)

pub loop-k-smaller : goal.loop-k-smaller
loop-k-smaller c =
    let rs = c.args.runs.now in
    let fs = c.loop-k.fronts.items in
    let k = c.in-Some.k in
    let r = c.index-runs-k.result in
    let f = c.index.result.now in
    let z = c.loop-k.invariant.fronts in
    let within = c.in-Some.ensures.within in
    let count = c.loop-k.invariant.count in
    let there : k < length fs = omega (arith, within, count) in
    let run_is = slice_get_read rs (length rs) k r refl within c.index-runs-k.is in
    let front_is = slice_get_read fs (length fs) k f refl there c.index.ensures in
    let found = subst (λ xs. FindsFirst rs xs (Some k)) c.as_slice.ensures.value c.in-Some.ensures.first in
    let next = coming rs fs k found.0 r f z run_is front_is found.1 in
    let left = left_of rs fs in
    let is : left_of rs (set fs k c.front_at.result) ≡ without left k = ap (λ g. left_of rs (set fs k g)) c.front_at.ensures ∙ left_next rs fs k r f run_is front_is in
    subst (λ l. acts_left l < acts_left left) (sym is) (fewer_left left k (left_in r f.place) (of_pair next.act) (map of_pair (drop (suc f.place) r.acts.items)) next.left (run_at rs fs k found.0 r f next))

pub loop-k-preserved : goal.loop-k-preserved
loop-k-preserved c =
    let rs = c.args.runs.now in
    let fs = c.loop-k.fronts.items in
    let k = c.in-Some.k in
    let r = c.index-runs-k.result in
    let f = c.index.result.now in
    let z = c.loop-k.invariant.fronts in
    let within = c.in-Some.ensures.within in
    let count = c.loop-k.invariant.count in
    let there : k < length fs = omega (arith, within, count) in
    let run_is = slice_get_read rs (length rs) k r refl within c.index-runs-k.is in
    let front_is = slice_get_read fs (length fs) k f refl there c.index.ensures in
    let found = subst (λ xs. FindsFirst rs xs (Some k)) c.as_slice.ensures.value c.in-Some.ensures.first in
    let next = coming rs fs k found.0 r f z run_is front_is found.1 in
    let left = left_of rs fs in
    let is : left_of rs (set fs k c.front_at.result) ≡ without left k = ap (λ g. left_of rs (set fs k g)) c.front_at.ensures ∙ left_next rs fs k r f run_is front_is in
    let made = c.index-in-Some.result.now in
    let both : Some made ≡ Some next.act = sym (slice_get_read r.acts.items (length r.acts.items) f.place made refl (slice_get_within r.acts.items f.place next.act next.act_is) c.index-in-Some.ensures) ∙ next.act_is in
    let same : made ≡ next.act = cc in
    let in_order = c.are_in_order-in_order.result in
    record {
      count = length-set fs k c.front_at.result ∙ count;
      fronts = subst (λ g. AllZip StandsAt rs (set fs k g)) (sym c.front_at.ensures) (stand_next rs fs k r (f.place + 1) run_is z);
      distinct = subst AreDistinct (sym is) (distinct_still left k c.loop-k.invariant.distinct);
      rising = subst (AllByRecursion RunRises) (sym is) (rising_still left k c.loop-k.invariant.rising);
      passed = subst (λ g. HavePassed (set fs k g) in_order (k + 1) made.0) (sym c.front_at.ensures)
          (subst (HavePassed (set fs k (front_of r (f.place + 1))) in_order (k + 1)) (sym (ap (λ (x : ℕ × Act). x.0) same ∙ next.stamp))
          (still_passed rs fs k found.0 r f next c.loop-k.invariant.rising in_order within c.are_in_order-in_order.ensures.0 found.2));
      woven = λ more m.
          let w = c.loop-k.invariant.woven (record { actor = r.id; act = of_pair next.act } ∷ more)
          (first_then left k (left_in r f.place) (of_pair next.act) (map of_pair (drop (suc f.place) r.acts.items)) c.loop-k.invariant.distinct c.loop-k.invariant.rising next.left (run_at rs fs k found.0 r f next)
          (not_after rs fs k found.0 r f next z found.2) more (subst (λ l. IsMerge (run_of l) more) is m)) in (
            w.0,
            w.1,
            ap (λ es. es ++ map made_event more) c.in_ok-push.ensures.items ∙ (append_assoc c.loop-k.events.items (record { actor = r.id; act = made.1 } ∷ []) (map made_event more)
                ∙ (ap (λ (x : ℕ × Act). c.loop-k.events.items ++ (record { actor = r.id; act = x.1 } ∷ map made_event more)) same ∙ w.2)),
          );
    }

pub returns : goal.returns
returns c =
    let rs = c.args.runs.now in
    let fs = c.loop-k.fronts.items in
    let none = subst (λ xs. FindsFirst rs xs None) c.as_slice.ensures.value c.in_default.ensures.first in
    let w = c.loop-k.invariant.woven [] (nothing_left (left_of rs fs) (none_left rs fs c.loop-k.invariant.fronts none)) in
    (w.0, w.1, sym (append-nil c.loop-k.events.items) ∙ w.2)
