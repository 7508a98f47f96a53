-- A trace of a PAR of many processes, each moved behind the variables of those before it, is split into traces of the processes.
use Rattle.std.proofs.Common.{◌≡◌, ◌≢◌, ℕ, zero, suc, ◌+◌, ◌≤◌, ◌<◌, Bool, true, false, refl, sym, ap, ap₂, subst, ◌∙◌, List, [], ◌∷◌, length, slice_get, Some, arith, ◌==◌, eq-eqb, ne_eqb, if◌then◌else◌}
use Rattle.vc_accepted.specs.OneList.{by}
use Rattle.vc_free.proofs.Inverse.{moved_back}
use Rattle.vc_occam.proofs.Scope.{uses_there}
use Rattle.vc_occam.specs.Traces.{Comm, End, Open, Ended, both_ended, Merge, neither, from_left, from_right, Trace, TracePar, par_end, par_more}
use Rattle.vc_placement.specs.Parallel.{without_nodes, IsEnded}
use Rattle.vc_plan.specs.Limits.{kinds_of}
use Rattle.vc_plan.specs.OneNode.{AreProcesses}
use Rattle.vc_plan.specs.declared.node_plan.NodePlan.{NodePlan}
use Rattle.vc_process.specs.Numbering.{written}
use Rattle.vc_process.specs.ProcessLimits.{names_fit}
use Rattle.vc_process.specs.Syntax.{Procs, no_parts, part}
use Rattle.vc_process.specs.Usage.{Set, changes}
use Rattle.vc_process.specs.Values.{Store}
use Rattle.vc_placement.proofs.OneNode.{empty, kinds_length, Holds, holds_first, holds_rest}

-- ---- who made what

-- a list of communications with the nodes that made them, where node n made those of s and the others those of told
record Named (n : ℕ) (s u : List Comm) (told : List (ℕ × Comm)) : Type 0 where
  list : List (ℕ × Comm)
  same : without_nodes list ≡ u
  mine : by n list ≡ s
  others : (j : ℕ) → j ≢ n → by j list ≡ by j told

none_mine : (n j : ℕ) (k : Comm) (told : List (ℕ × Comm)) → by n ((j, k) ∷ told) ≡ [] → (j ≢ n) × (by n told ≡ [])
none_mine n j k told e = by_test (j == n) refl e
  where
    by_test : (b : Bool) → (j == n) ≡ b → (if b then k ∷ by n told else by n told) ≡ [] → (j ≢ n) × (by n told ≡ [])
    by_test true t e = absurd (cc)
    by_test false t e = (λ q. absurd (let z : true ≡ false = sym (eq-eqb j n q) ∙ t in cc), e)

named : (n : ℕ) {s t u : List Comm} → Merge s t u → (told : List (ℕ × Comm)) → without_nodes told ≡ t → by n told ≡ [] → Named n s u told
named n neither [] e z = record { list = []; same = refl; mine = refl; others = λ j ne. refl }
named n neither ((j, k) ∷ told) e z = absurd (cc)
named n (from_left {x = x} {s = s} m) told e z =
    let r = named n m told e z in
    record {
      list = (n, x) ∷ r.list;
      same = ap (λ l. x ∷ l) r.same;
      mine = ap (λ b. if b then x ∷ by n r.list else by n r.list) (eq-eqb n n refl) ∙ ap (λ l. x ∷ l) r.mine;
      others = λ j ne. ap (λ b. if b then x ∷ by j r.list else by j r.list) (ne_eqb n j (λ q. ne (sym q))) ∙ r.others j ne;
    }
named n (from_right m) [] e z = absurd (cc)
named n (from_right {x = x} m) ((j, k) ∷ told) e z =
    let here : k ≡ x = cc in
    let no = none_mine n j k told z in
    let r = named n m told (let t : without_nodes told ≡ _ = cc in t) no.1 in
    record {
      list = (j, k) ∷ r.list;
      same = ap₂ (λ a l. a ∷ l) here r.same;
      mine = ap (λ b. if b then k ∷ by n r.list else by n r.list) (ne_eqb j n no.0) ∙ r.mine;
      others = λ i ne. ap (λ l. if j == i then k ∷ l else l) (r.others i ne);
    }

both_ends : (mine : Set) (x y : End) → IsEnded (both_ended mine x y) → IsEnded x × IsEnded y
both_ends mine Open y (f, e) = absurd (cc)
both_ends mine (Ended f) Open (g, e) = absurd (cc)
both_ends mine (Ended f) (Ended g) h = ((f, refl), (g, refl))

-- ---- the parts

module _ (channels : ℕ) (big : Store) where
  pub record Split (i : ℕ) (ns : List NodePlan) (u : List Comm) (x : End) : Type 0 where
    pub told : List (ℕ × Comm)
    pub same : without_nodes told ≡ u
    pub ends : ℕ → End
    pub traces : (m : ℕ) (y : NodePlan) → slice_get ns m ≡ Some y → Trace (written y.process) (empty (kinds_of y.vars)) (by (i + m) told) (ends (i + m))
    pub low : (j : ℕ) → j < i → by j told ≡ []
    pub high : (j : ℕ) → i + length ns ≤ j → by j told ≡ []
    pub ended : IsEnded x → (m : ℕ) → m < length ns → IsEnded (ends (i + m))

  pub split : (i k : ℕ) (ns : List NodePlan) (qs : Procs) {u : List Comm} {x : End} → AreProcesses k ns qs → Holds big k ns →
      ((m : ℕ) (y : NodePlan) → slice_get ns m ≡ Some y → names_fit (written y.process) (kinds_of y.vars) channels ≡ true) → TracePar qs big u x → Split i ns u x
  split i k [] no_parts a h f par_end = record {
    told = [];
    same = refl;
    ends = λ j. Open;
    traces = λ m y e. absurd (cc);
    low = λ j l. refl;
    high = λ j l. refl;
    ended = λ e m l. absurd (omega arith);
  }
  split i k (n ∷ ns) (part q qs) a h f (par_more {x = x} {y = y} r r' m) =
      let rest = split (suc i) (k + length n.vars) ns qs a.1 (holds_rest big k n ns h) (λ m y e. f (suc m) y e) r' in
      let one = moved_back k (length n.vars) (written n.process) q big (empty (kinds_of n.vars)) _ x a.0
      (λ v u. (let t = uses_there (kinds_of n.vars) (written n.process) channels (f 0 n refl) v u in let c = kinds_length n.vars in omega arith)) (holds_first big k n ns h) r in
      let list = named i m rest.told rest.same (rest.low i (omega arith)) in
      let ends : ℕ → End = λ j. if j == i then one.0 else rest.ends j in
      let here : ends i ≡ one.0 = ap (λ b. if b then one.0 else rest.ends i) (eq-eqb i i refl) in
      let there : (j : ℕ) → j ≢ i → ends j ≡ rest.ends j = λ j ne. ap (λ b. if b then one.0 else rest.ends j) (ne_eqb j i ne) in
      record {
        told = list.list;
        same = list.same;
        ends = ends;
        traces = λ m y e. by_number m y e ends _ one.0 rest.ends rest.told here there list.list list.mine list.others one.1 rest.traces;
        low = λ j l. list.others j (λ e. omega arith) ∙ rest.low j (omega arith);
        high = λ j l. list.others j (λ e. omega arith) ∙ rest.high j (omega arith);
        ended = λ e m l. (let b = both_ends (changes q) x y e in all_ended m l ends one.0 rest.ends here there (one.2 b.0) (rest.ended b.1));
      }
    where
      by_number : (m : ℕ) (y : NodePlan) → slice_get (n ∷ ns) m ≡ Some y → (ends : ℕ → End) (s : List Comm) (o : End) (ends2 : ℕ → End) (told : List (ℕ × Comm)) → ends i ≡ o → ((j : ℕ) → j ≢ i → ends j ≡ ends2 j) → (list : List (ℕ × Comm)) → by i list ≡ s →
          ((j : ℕ) → j ≢ i → by j list ≡ by j told) → Trace (written n.process) (empty (kinds_of n.vars)) s o →
          ((m : ℕ) (y : NodePlan) → slice_get ns m ≡ Some y → Trace (written y.process) (empty (kinds_of y.vars)) (by (suc i + m) told) (ends2 (suc i + m))) →
          Trace (written y.process) (empty (kinds_of y.vars)) (by (i + m) list) (ends (i + m))
      by_number zero y e ends s o ends2 told here there list mine others one rest =
          let is : n ≡ y = cc in
          let z : i ≡ i + 0 = omega arith in
          subst (λ j. Trace (written y.process) (empty (kinds_of y.vars)) (by j list) (ends j)) z
          (subst (λ (w : NodePlan). Trace (written w.process) (empty (kinds_of w.vars)) (by i list) (ends i)) is
          (subst (λ l. Trace (written n.process) (empty (kinds_of n.vars)) l (ends i)) (sym mine) (subst (λ w. Trace (written n.process) (empty (kinds_of n.vars)) s w) (sym here) one)))
      by_number (suc m) y e ends s o ends2 told here there list mine others one rest =
          let z : suc i + m ≡ i + suc m = omega arith in
          let ne : suc i + m ≢ i = λ q. omega arith in
          subst (λ j. Trace (written y.process) (empty (kinds_of y.vars)) (by j list) (ends j)) z
          (subst (λ l. Trace (written y.process) (empty (kinds_of y.vars)) l (ends (suc i + m))) (sym (others (suc i + m) ne))
          (subst (λ w. Trace (written y.process) (empty (kinds_of y.vars)) (by (suc i + m) told) w) (sym (there (suc i + m) ne)) (rest m y e)))

      all_ended : (m : ℕ) → m < length (n ∷ ns) → (ends : ℕ → End) (o : End) (ends2 : ℕ → End) → ends i ≡ o → ((j : ℕ) → j ≢ i → ends j ≡ ends2 j) → IsEnded o → ((m : ℕ) → m < length ns → IsEnded (ends2 (suc i + m))) → IsEnded (ends (i + m))
      all_ended zero l ends o ends2 here there one rest = let z : i ≡ i + 0 = omega arith in subst (λ j. IsEnded (ends j)) z (subst IsEnded (sym here) one)
      all_ended (suc m) l ends o ends2 here there one rest =
          let z : suc i + m ≡ i + suc m = omega arith in
          subst (λ j. IsEnded (ends j)) z (subst IsEnded (sym (there (suc i + m) (λ q. omega arith))) (rest m (omega arith)))
  split i k [] (part q qs) a h f t = absurd a
  split i k (n ∷ ns) no_parts a h f t = absurd a
