-- The counts of all actors' acts, added up, are those of the events.
use Rattle.std.proofs.Common.{◌≡◌, ◌==◌, ◌&&◌, ◌⊎◌, inl, inr, ℕ, zero, suc, ◌+◌, ◌^◌, ◌<◌, ◌≤◌, Bool, true, cond, List, [], ◌∷◌, ◌++◌, length, map, slice_get, Some, refl, ap, ap₂, sym, subst, ◌∙◌, arith, length-append}
use Rattle.std.specs.List.{count_by}
use Rattle.std.proofs.lemmas.Bool.{cases_eq, cases_lt}
use Rattle.std.proofs.lemmas.List.{length-map}
use Rattle.std.proofs.lemmas.List.Sums.{count_by-le-length, sum_by-append, sum_by-cons}
use Rattle.std.proofs.lemmas.Simd.{map-map}
use Rattle.vc_actor.specs.Turns.{actors}
use Rattle.vc_actor.specs.declared.act.Act.{Act}
use Rattle.vc_core.specs.declared.event.Event.{Event}
use Rattle.vc_network.specs.Actors.{act_of}
use Rattle.vc_network.specs.LocalRun.{Stamped, Turn, restamped}
use Rattle.vc_network.specs.Merge.{Made, part}
use Rattle.vc_network.proofs.OneMerge.{part-other, part-own}
use Rattle.vc_plan.specs.declared.plan.Plan.{Plan}
use Rattle.vc_threads.specs.MergedRuns.{made_event}
use Rattle.vc_threads.specs.Threads.{EndsRunIn}
use Rattle.vc_threads.specs.Works.{logged}
use Rattle.vc_threads.specs.declared.report.Logged.{Logged}
use Rattle.vc_tokens.specs.declared.token.Token.{Token}
use Rattle.vc_stats.specs.Counts.{AreCounts, fct_in, kind_in, most_events, offer_in, output_in, put_in, want_in}
use Rattle.vc_stats.specs.Private.ActCounts.{CountsActs, all_events, events_by}
use Rattle.vc_stats.specs.Private.Sums.{Adds}
use Rattle.vc_stats.specs.Tallies.{cell, entry, is_at}
use Rattle.vc_stats.specs.declared.counted_acts.CountedActs.{CountedActs}
use Rattle.vc_stats.specs.declared.stats.Stats.{Stats}

module _ (p : Event → Bool) where
  count_both : (es fs : List Event) → count_by p (es ++ fs) ≡ count_by p es + count_by p fs
  count_both = sum_by-append (λ e. cond (p e) 1 0)

  count_first : (e : Event) (es : List Event) → count_by p (e ∷ es) ≡ cond (p e) 1 0 + count_by p es
  count_first = sum_by-cons (λ e. cond (p e) 1 0)

-- the counts of both lists, added up, are those of the one after the other
module _ (a b c : Stats) (total : c.events ≡ a.events + b.events) (small : c.events < 2 ^ 64) (es fs : List Event) (one : AreCounts a es) (two : AreCounts b fs) where
  sum : (p : Event → Bool) (f g h : ℕ → ℕ) (n : ℕ) → Adds f g h → f n ≡ count_by p es → g n ≡ count_by p fs → h n ≡ count_by p (es ++ fs)
  sum p f g h n adds is too =
      let both = count_both p es fs in
      let d = count_by-le-length p es in
      let e = count_by-le-length p fs in
      let here = one.events in
      let there = two.events in
      let sums = adds n (omega (arith, is, too, d, e, here, there, total, small)) in
      omega (arith, both, sums, is, too)

  pub counts_added : Adds (entry a.all) (entry b.all) (entry c.all) → ((k : ℕ) → Adds (cell a.kinds k) (cell b.kinds k) (cell c.kinds k)) → ((k : ℕ) → Adds (cell a.puts k) (cell b.puts k) (cell c.puts k))
      → ((k : ℕ) → Adds (cell a.fcts k) (cell b.fcts k) (cell c.fcts k)) → ((k : ℕ) → Adds (cell a.routes k) (cell b.routes k) (cell c.routes k)) → Adds (entry a.offers) (entry b.offers) (entry c.offers)
      → Adds (entry a.wants) (entry b.wants) (entry c.wants) → AreCounts c (es ++ fs)
  counts_added all kinds puts fcts routes offers wants =
      let long = length-append es fs in
      let here = one.events in
      let there = two.events in
      record {
        events = omega (arith, long, here, there, total);
        all = λ n. sum (λ e. is_at n (kind_in e.act)) (entry a.all) (entry b.all) (entry c.all) n all (one.all n) (two.all n);
        kinds = λ k n. sum (λ e. e.actor == k && is_at n (kind_in e.act)) (cell a.kinds k) (cell b.kinds k) (cell c.kinds k) n (kinds k) (one.kinds k n) (two.kinds k n);
        puts = λ k n. sum (λ e. e.actor == k && is_at n (put_in e.act)) (cell a.puts k) (cell b.puts k) (cell c.puts k) n (puts k) (one.puts k n) (two.puts k n);
        fcts = λ k n. sum (λ e. e.actor == k && is_at n (fct_in e.act)) (cell a.fcts k) (cell b.fcts k) (cell c.fcts k) n (fcts k) (one.fcts k n) (two.fcts k n);
        routes = λ k n. sum (λ e. e.actor == k && is_at n (output_in e.act)) (cell a.routes k) (cell b.routes k) (cell c.routes k) n (routes k) (one.routes k n) (two.routes k n);
        offers = λ n. sum (λ e. is_at n (offer_in e.act)) (entry a.offers) (entry b.offers) (entry c.offers) n offers (one.offers n) (two.offers n);
        wants = λ n. sum (λ e. is_at n (want_in e.act)) (entry a.wants) (entry b.wants) (entry c.wants) n wants (one.wants n) (two.wants n);
      }

count_all : (es : List Event) → count_by (λ e. true) es ≡ length es
count_all [] = refl
count_all (e ∷ es) = let rest = count_all es in let first = count_first (λ e. true) e es in omega (arith, first, rest)

-- the order of the events does not matter
counts_same : (s : Stats) (es fs : List Event) → ((p : Event → Bool) → count_by p es ≡ count_by p fs) → AreCounts s es → AreCounts s fs
counts_same s es fs same of = record {
  events = of.events ∙ (sym (count_all es) ∙ (same (λ e. true) ∙ count_all fs));
  all = λ n. of.all n ∙ same (λ e. is_at n (kind_in e.act));
  kinds = λ k n. of.kinds k n ∙ same (λ e. e.actor == k && is_at n (kind_in e.act));
  puts = λ k n. of.puts k n ∙ same (λ e. e.actor == k && is_at n (put_in e.act));
  fcts = λ k n. of.fcts k n ∙ same (λ e. e.actor == k && is_at n (fct_in e.act));
  routes = λ k n. of.routes k n ∙ same (λ e. e.actor == k && is_at n (output_in e.act));
  offers = λ n. of.offers n ∙ same (λ e. is_at n (offer_in e.act));
  wants = λ n. of.wants n ∙ same (λ e. is_at n (want_in e.act));
}

-- the act as an event of the actor
abbrev event_of : ℕ → Stamped Act → Event
event_of k s = record { actor = k; act = s.it }

-- the acts of the first n actors, one actor's after another's
abbrev parted : List (Made Act) → ℕ → List Event
parted ms zero = []
parted ms (suc n) = parted ms n ++ map (event_of n) (part n ms)

module _ (p : Event → Bool) where
  none_parted : (n : ℕ) → count_by p (parted [] n) ≡ 0
  none_parted zero = refl
  none_parted (suc n) =
      let both = count_both p (parted [] n) [] in
      let before = none_parted n in
      let none : count_by p [] ≡ 0 = refl in
      omega (arith, both, before, none)

  -- one act more is not among those of the actors before its own
  later : (m : Made Act) (ms : List (Made Act)) (n : ℕ) → n ≤ m.actor → count_by p (parted (m ∷ ms) n) ≡ count_by p (parted ms n)
  later m ms zero le = refl
  later m ms (suc n) le =
      let a = count_both p (parted (m ∷ ms) n) (map (event_of n) (part n (m ∷ ms))) in
      let b = count_both p (parted ms n) (map (event_of n) (part n ms)) in
      let c = later m ms n (omega (arith, le)) in
      let d = ap (λ ss. count_by p (map (event_of n) ss)) (part-other n m ms (λ same. absurd (omega (arith, le, same)))) in
      omega (arith, a, b, c, d)

  -- and counts once among those of its own and others
  once : (m : Made Act) (ms : List (Made Act)) (n : ℕ) → m.actor < n → count_by p (parted (m ∷ ms) n) ≡ cond (p (made_event m)) 1 0 + count_by p (parted ms n)
  once m ms zero less = absurd (omega (arith, less))
  once m ms (suc n) less =
      let a = count_both p (parted (m ∷ ms) n) (map (event_of n) (part n (m ∷ ms))) in
      let b = count_both p (parted ms n) (map (event_of n) (part n ms)) in
      elim (cases_eq m.actor n) [
        | inl same ↦
            let c = later m ms n (omega (arith, same)) in
            let own : part n (m ∷ ms) ≡ m.act ∷ part n ms = subst (λ k. part k (m ∷ ms) ≡ m.act ∷ part k ms) same (part-own m ms) in
            let d = ap (λ ss. count_by p (map (event_of n) ss)) own in
            let e = count_first p (event_of n m.act) (map (event_of n) (part n ms)) in
            let f = ap {B = ℕ} (λ k. cond (p (event_of k m.act)) 1 0) same in
            omega (arith, a, b, c, d, e, f)
        | inr ne ↦
            let c = once m ms n (omega (arith, less, ne)) in
            let d = ap (λ ss. count_by p (map (event_of n) ss)) (part-other n m ms ne) in
            omega (arith, a, b, c, d)
      ]

  parts_counted : (n : ℕ) (ms : List (Made Act)) → ((k : ℕ) → n ≤ k → part k ms ≡ []) → count_by p (parted ms n) ≡ count_by p (map made_event ms)
  parts_counted n [] none = none_parted n
  parts_counted n (m ∷ ms) none =
      elim (cases_lt m.actor n) [
        | inl less ↦
            let a = once m ms n less in
            let b = count_first p (made_event m) (map made_event ms) in
            let c = parts_counted n ms (λ k past. sym (part-other k m ms (λ same. absurd (omega (arith, less, past, same)))) ∙ none k past) in
            omega (arith, a, b, c)
        | inr past ↦ absurd (let e : m.act ∷ part m.actor ms ≡ [] = sym (part-own m ms) ∙ none m.actor past in cc)
      ]

-- the acts that the logs hold are these
all_parted : (runs : ℕ → List (Turn Act Token)) (ms : List (Made Act)) → ((k : ℕ) → part k ms ≡ map (restamped act_of) (runs k)) → (n : ℕ) → all_events (λ k. map logged (runs k)) n ≡ parted ms n
all_parted runs ms parts zero = refl
all_parted runs ms parts (suc n) =
    let a = all_parted runs ms parts n in
    let b : events_by n (map logged (runs n)) ≡ map (event_of n) (part n ms) =
    map-map (λ (x : ℕ × Act). record { actor = n; act = x.1 }) logged (runs n) ∙ (sym (map-map (event_of n) (restamped act_of) (runs n)) ∙ ap (map (event_of n)) (sym (parts n))) in
    ap₂ (λ x y. x ++ y) a b

-- the counts of all actors' acts are those of the run's events
pub run_counts : (p : Plan) (refuses : ℕ → ℕ → Type 0) (turns seed : ℕ) (r : Logged CountedActs) (ran : EndsRunIn CountsActs p refuses turns seed r) (stats : Stats) → turns ≤ most_events
    → ((acts : ℕ → List (ℕ × Act)) → ((k : ℕ) (log : CountedActs) → slice_get r.logs.items k ≡ Some log → CountsActs log k (acts k)) → ((k : ℕ) → length (acts k) ≤ most_events) → AreCounts stats (all_events acts (length r.logs.items)))
    → AreCounts stats ran.events
run_counts p refuses turns seed r ran stats few counts =
    let runs = ran.run.runs in
    let ms = ran.run.merged in
    let n = length r.logs.items in
    let all = counts (λ k. map logged (runs k)) ran.logs (λ k. short k (cases_lt k (actors p))) in
    let of = subst (AreCounts stats) (all_parted runs ms ran.run.merge.parts n) all in
    subst (AreCounts stats) (sym ran.run.steps)
    (counts_same stats (parted ms n) (map made_event ms) (λ q. parts_counted q n ms (λ k past. let at = ran.count in ran.run.merge.parts k ∙ ap (map (restamped act_of)) (ran.run.none k (omega (arith, past, at))))) of)
  where
    short : (k : ℕ) → (k < actors p) ⊎ (actors p ≤ k) → length (map logged (ran.run.runs k)) ≤ most_events
    short k (inl less) =
        let it = ran.run.each k less in
        let long = length-map (ran.run.runs k) logged in
        let made = it.few in
        let most = it.within in
        omega (arith, long, made, most, few)
    short k (inr past) = let none = ap (λ ts. length (map logged ts)) (ran.run.none k past) in omega (arith, none)
