use Rattle.std.proofs.Common.{◌≡◌, ◌∙◌, ◌<◌, ℕ, length, map, set, sym, ap, subst, List, Option, Some, None, arith, true}
use Rattle.std.proofs.lemmas.Bool.{and_parts}
use Rattle.std.proofs.lemmas.Bool.Decides.{nat_tests}
use Rattle.std.proofs.lemmas.List.{length-map, map-set}
use Rattle.std.proofs.lemmas.Option.{slice_get_within}
use Rattle.std.specs.Prelude.{nat_lt}
use Rattle.vc_process.specs.Terms.{as_test, store}
use Rattle.vc_process.specs.Values.{Store}
use Rattle.vc_occam.specs.declared.frame.Branch.{Branch}
use Rattle.vc_occam.specs.declared.frame.Frame.{Frame}
use Rattle.vc_occam.specs.declared.outcome.Outcome.{Outcome}
use Rattle.vc_occam.specs.Frames.{View, all_sound, bodies, branching, has_place, is_sound, view}
use Rattle.vc_occam.specs.Private.Frames.{Acted, chosen_from, seen_branch}
use Rattle.vc_occam.proofs.PartSteps.{part_is_sound}
use Rattle.vc_occam.proofs.Bodies.{branch_body}
use Rattle.vc_occam.proofs.PartChoice.{branch_taken, chosen_first, no_branch_acted, not_taken, seen_tests}
use Rattle.vc_occam.proofs.Views.{map_get}
use Rattle.vc_occam.proofs.act.If+Frame.act.Goals as goal

-- the choice among branches, as what they stand for
seen_choice : (fs xs : List (Branch Frame)) (e : Store) (r o : Option ℕ) → xs ≡ fs → r ≡ chosen_from 0 (map (λ (b : Branch Frame). as_test b.cond) xs) e → r ≡ o → chosen_from 0 (map (λ (b : Branch View). as_test b.cond) (map seen_branch fs)) e ≡ o
seen_choice fs xs e r o h g k = ap (λ ts. chosen_from 0 ts e) (seen_tests fs) ∙ ap (λ (ys : List (Branch Frame)). chosen_from 0 (map (λ (b : Branch Frame). as_test b.cond) ys) e) (sym h) ∙ sym g ∙ k

there : (fs : List (Branch Frame)) (e : Store) (k : ℕ) → chosen_from 0 (map (λ (b : Branch View). as_test b.cond) (map seen_branch fs)) e ≡ Some k → k < length fs
there fs e k h =
    let took = chosen_first 0 (map seen_branch fs) e k h in
    let z = slice_get_within (map seen_branch fs) k took.0 took.1 in
    let l = length-map fs seen_branch in
    omega arith

pub returns-in_err-at : goal.returns-in_err-at
returns-in_err-at c =
    record {
      acted = λ i.
          let fs = c.args.self.now.branches.items in
          let bs = map seen_branch fs in
          let e = store c.args.vars.now in
          let t = c.args.self.now.taken in
          let none = seen_choice fs c.as_slice.result.now e c.chosen.result None c.as_slice.ensures.value c.chosen.ensures c.in_err-at.was in
          subst (λ (o : Option Outcome). Acted i (branching bs t) e o (branching bs t) e) (sym c.from_residual.ensures) (no_branch_acted i bs t e c.requires.itself none);
    }

pub index_mut-requires : goal.index_mut-requires
index_mut-requires c =
    let fs = c.args.self.now.branches.items in
    let took = seen_choice fs c.as_slice.result.now (store c.args.vars.now) c.chosen.result (Some c.in_ok-at.at) c.as_slice.ensures.value c.chosen.ensures c.in_ok-at.was in
    let l = there fs (store c.args.vars.now) c.in_ok-at.at took in
    let o = c.args.self.now.branches.ok.0 in
    omega arith

pub start-requires : goal.start-requires
start-requires c =
    let fs = c.args.self.now.branches.items in
    let bs = map seen_branch fs in
    let took = seen_choice fs c.as_slice.result.now (store c.args.vars.now) c.chosen.result (Some c.in_ok-at.at) c.as_slice.ensures.value c.chosen.ensures c.in_ok-at.was in
    let l = there fs (store c.args.vars.now) c.in_ok-at.at took in
    let b = seen_branch c.index_mut.result.now in
    let is = map_get seen_branch fs c.in_ok-at.at c.index_mut.result.now l c.index_mut.ensures.value in
    record { sound = part_is_sound (bodies bs) c.in_ok-at.at b.body (branch_body bs c.in_ok-at.at b is) (and_parts (has_place c.args.self.now.taken (length bs)) (all_sound (bodies bs)) c.requires.sound).1 }

pub returns : goal.returns
returns c =
    record {
      acted = λ i.
          let fs = c.args.self.now.branches.items in
          let bs = map seen_branch fs in
          let e = store c.args.vars.now in
          let t = c.args.self.now.taken in
          let k = c.in_ok-at.at in
          let f = c.index_mut.result.now in
          let g : Branch Frame = record { cond = f.cond; body = c.start.new.self } in
          let took = seen_choice fs c.as_slice.result.now e c.chosen.result (Some k) c.as_slice.ensures.value c.chosen.ensures c.in_ok-at.was in
          let l = there fs e k took in
          let is = map_get seen_branch fs k f l c.index_mut.ensures.value in
          let within : nat_lt k (length bs) ≡ true = let m = length-map fs seen_branch in let n : k < length bs = omega arith in grind (arith, nat_tests) in
          let still = not_taken bs t c.requires.itself in
          let sound = subst (λ (t : Option ℕ). is_sound (branching bs t) ≡ true) still c.requires.sound in
          let acted = branch_taken i bs k (seen_branch f) (view c.start.new.self) c.start.result e sound is within took c.start.ensures.begun c.start.ensures.outcome in
          subst (λ (t : Option ℕ). Acted i (branching bs t) e (Some c.start.result) (branching (map seen_branch (set fs k g)) (Some k)) e) (sym still)
          (subst (λ cs. Acted i (branching bs None) e (Some c.start.result) (branching cs (Some k)) e) (sym (map-set seen_branch fs k g)) acted);
    }
