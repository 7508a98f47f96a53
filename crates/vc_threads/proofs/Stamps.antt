-- The acts that logs keep can be merged: their stamps rise, and no two logs are of one actor.
use Rattle.std.proofs.Common.{◌≡◌, ◌==◌, ℕ, zero, suc, ◌+◌, ◌<◌, ◌≤◌, false, if◌then◌else◌, List, [], ◌∷◌, length, map, slice_get, Some, refl, ap, sym, subst, ◌∙◌, arith, eq-eqb}
use Rattle.std.specs.List.{AllByRecursion}
use Rattle.std.proofs.lemmas.Bool.Decides.{nat_tests}
use Rattle.std.proofs.lemmas.Simd.{map-map}
use Rattle.vc_network.specs.Actors.{Label, act_of}
use Rattle.vc_network.specs.Actors.Label.{Own}
use Rattle.vc_network.specs.LocalRun.{Stamped, Turn, LocalRun, next_stamp, restamped}
use Rattle.vc_network.specs.Merge.{Rises, RunRises, StampsRise, AreDistinct, Numbered, run_of}
use Rattle.vc_actor.specs.ActorView.{Acting}
use Rattle.vc_actor.specs.declared.act.Act.{Act}
use Rattle.vc_network.specs.Plan.{Plan}
use Rattle.vc_tokens.specs.declared.token.Token.{Token}
use Rattle.vc_threads.specs.MergedRuns.{of_pair, numbered}
use Rattle.vc_threads.specs.Runs.{StepsByLink}
use Rattle.vc_threads.specs.Works.{logged}
use Rattle.vc_threads.specs.declared.act_log.ActorActs.{ActorActs}

after : {A I : Type 0} (clock : ℕ) (l : Label A (Stamped I)) → clock < next_stamp clock l
after clock (Own act) = omega arith
after clock d = omega arith

log_rises : (plan : Plan) (k clock : ℕ) (old new : Acting) (ts : List (Turn Act Token)) → LocalRun (StepsByLink plan) k clock old ts new → Rises clock (map of_pair (map logged ts))
log_rises plan k clock old new [] h = tt
log_rises plan k clock old new (t ∷ ts) h = (subst (λ x. clock < x) (sym h.2) (after clock t.it), log_rises plan k t.at h.0 new ts h.4)

from_rises : {A : Type 0} (clock : ℕ) (ss : List (Stamped A)) → Rises clock ss → StampsRise ss
from_rises clock [] h = tt
from_rises clock (s ∷ ss) h = h.1

-- what an actor did rises
pub steps_rise : (plan : Plan) (k : ℕ) (old new : Acting) (ts : List (Turn Act Token)) → LocalRun (StepsByLink plan) k 0 old ts new → StampsRise (map of_pair (map logged ts))
steps_rise plan k old new ts h = from_rises 0 (map of_pair (map logged ts)) (log_rises plan k 0 old new ts h)

module _ (runs : ℕ → List (Turn Act Token)) where
  -- the log holds what actor k did
  abbrev pub HasActs : ActorActs → ℕ → Type 0
  HasActs l k = (l.id ≡ k) × (l.acts.items ≡ map logged (runs k))

  -- the logs hold what the actors did, from actor n on
  abbrev pub HaveActs : ℕ → List ActorActs → Type 0
  HaveActs n [] = Unit {0}
  HaveActs n (l ∷ ls) = HasActs l n × HaveActs (n + 1) ls

  pub have_acts : (n : ℕ) (ls : List ActorActs) → ((k : ℕ) (l : ActorActs) → slice_get ls k ≡ Some l → HasActs l (n + k)) → HaveActs n ls
  have_acts n [] each = tt
  have_acts n (l ∷ ls) each =
      let none : n + 0 ≡ n = omega arith in
      (subst (HasActs l) none (each 0 l refl), have_acts (n + 1) ls (λ k m here. let more : n + suc k ≡ n + 1 + k = omega arith in subst (HasActs m) more (each (suc k) m here)))

  pub all_rise : (n : ℕ) (ls : List ActorActs) → ((k : ℕ) → StampsRise (map of_pair (map logged (runs k)))) → HaveActs n ls → AllByRecursion RunRises (map numbered ls)
  all_rise n [] rise have = tt
  all_rise n (l ∷ ls) rise have = (subst (λ acts. StampsRise (map of_pair acts)) (sym have.0.1) (rise n), all_rise (n + 1) ls rise have.1)

  -- an actor that comes before those numbered from n on is none of them
  apart : (i n : ℕ) (ls : List ActorActs) → i < n → HaveActs n ls → AllByRecursion (λ (s : Numbered Act). i ≡ s.actor → ⊥) (map numbered ls)
  apart i n [] less have = tt
  apart i n (l ∷ ls) less have =
      let e : l.id ≡ n = have.0.0 in
      ((λ same. omega (arith, e, same, less)), apart i (n + 1) ls (omega (arith, less)) have.1)

  pub all_apart : (n : ℕ) (ls : List ActorActs) → HaveActs n ls → AreDistinct (map numbered ls)
  all_apart n [] have = tt
  all_apart n (l ∷ ls) have =
      (subst (λ i. AllByRecursion (λ (s : Numbered Act). i ≡ s.actor → ⊥) (map numbered ls)) (sym have.0.0) (apart n (n + 1) ls (omega arith) have.1), all_apart (n + 1) ls have.1)

  -- the acts of an actor among them, and past them none
  pub acts_of : (n k : ℕ) (ls : List ActorActs) → HaveActs n ls → k < length ls → run_of (map numbered ls) (n + k) ≡ map (restamped act_of) (runs (n + k))
  acts_of n k [] have less = absurd (omega (arith, less))
  acts_of n zero (l ∷ ls) have less =
      let none : n + 0 ≡ n = omega arith in
      ap (λ b. if b then map of_pair l.acts.items else run_of (map numbered ls) (n + 0)) (eq-eqb l.id (n + 0) (have.0.0 ∙ sym none))
      ∙ (ap (map of_pair) have.0.1 ∙ (map-map of_pair logged (runs n) ∙ ap (λ i. map (restamped act_of) (runs i)) (sym none)))
  acts_of n (suc k) (l ∷ ls) have less =
      let e : l.id ≡ n = have.0.0 in
      let same : n + 1 + k ≡ n + suc k = omega arith in
      let other : (l.id == n + suc k) ≡ false = grind (arith, nat_tests) in
      ap (λ b. if b then map of_pair l.acts.items else run_of (map numbered ls) (n + suc k)) other
      ∙ (ap (run_of (map numbered ls)) (sym same) ∙ (acts_of (n + 1) k ls have.1 (omega (arith, less)) ∙ ap (λ i. map (restamped act_of) (runs i)) same))

  pub none_past : (n i : ℕ) (ls : List ActorActs) → HaveActs n ls → n + length ls ≤ i → run_of (map numbered ls) i ≡ []
  none_past n i [] have past = refl
  none_past n i (l ∷ ls) have past =
      let e : l.id ≡ n = have.0.0 in
      let less : n < i = omega (arith, past) in
      let other : (l.id == i) ≡ false = grind (arith, nat_tests) in
      ap (λ b. if b then map of_pair l.acts.items else run_of (map numbered ls) i) other ∙ none_past (n + 1) i ls have.1 (omega (arith, past))
