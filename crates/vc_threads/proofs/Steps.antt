-- Runs joined, and what they keep.
use Rattle.std.proofs.Common.{◌≡◌, ℕ, zero, suc, ◌+◌, List, [], ◌∷◌, ◌++◌, refl, sym, subst, inl, inr, arith}
use Rattle.std.proofs.lemmas.List.Concat.{flat_map-append}
use Rattle.rand_pcg.specs.Lcg.{Lcg}
use Rattle.rand_pcg.specs.Pcg.{pcg32}
use Rattle.vc_network.specs.Actors.{Label, Steps, taken_off, put_on}
use Rattle.vc_network.specs.Actors.Label.{Own, Takes, Puts}
use Rattle.vc_network.specs.LocalRun.{Turn, LocalRun, clock_after, all_taken, all_put, plain}
use Rattle.vc_network.specs.Plan.{Plan}
use Rattle.vc_tokens.specs.declared.token.Token.{Token}
use Rattle.vc_actor.specs.OfPlan.{IsActorOf}
use Rattle.vc_actor.specs.Turns.{FindsTurn, IsPut}
use Rattle.vc_actor.specs.declared.act.Act.{Act}
use Rattle.vc_actor.specs.declared.act.Act.TheVariants.{Take, Put, Fct}
use Rattle.vc_actor.specs.ActorView.{Acting}
use Rattle.vc_threads.specs.Runs.{StepsByLink, HasNoStep, Used, Draws, words_of, word_of}
use Rattle.std.specs.Prelude.{None}

pub clock_then : {A I : Type 0} (clock : ℕ) (ts us : List (Turn A I)) → clock_after clock (ts ++ us) ≡ clock_after (clock_after clock ts) us
clock_then clock [] us = refl
clock_then clock (t ∷ ts) us = clock_then t.at ts us

-- the second run goes on where the first one ended
pub run_then : {S A I : Type 0} (Local : Steps S A I) (k clock : ℕ) (a b c : S) (ts us : List (Turn A I))
    → LocalRun Local k clock a ts b → LocalRun Local k (clock_after clock ts) b us c → LocalRun Local k clock a (ts ++ us) c
run_then Local k clock a b c [] us p q = subst (λ v. LocalRun Local k clock v us c) p q
run_then Local k clock a b c (t ∷ ts) us p q = (p.0, p.1, p.2, p.3, run_then Local k t.at p.0 b c ts us p.4 q)

pub put_then : (link : ℕ) (ts us : List (Turn Act Token)) → all_put link (ts ++ us) ≡ all_put link ts ++ all_put link us
put_then link ts us = flat_map-append (λ t. put_on link t.it) ts us

pub taken_then : (link : ℕ) (ts us : List (Turn Act Token)) → all_taken link (ts ++ us) ≡ all_taken link ts ++ all_taken link us
taken_then link ts us = flat_map-append (λ t. taken_off link t.it) ts us

pub words_then : (ts us : List (Turn Act Token)) → words_of (ts ++ us) ≡ words_of ts ++ words_of us
words_then ts us = flat_map-append (λ t. word_of t.it) ts us

pub draws_then : (g h i : Lcg) (vs ws : List ℕ) → Draws g vs h → Draws h ws i → Draws g (vs ++ ws) i
draws_then g h i [] ws p q = subst (λ x. Draws x ws i) p q
draws_then g h i (v ∷ vs) ws p q = (p.0, draws_then (pcg32 g).1 h i vs ws p.1 q)

-- a turn without a step, and then others
idle_then : (plan : Plan) (k n clock : ℕ) (a b : Acting) (ts : List (Turn Act Token)) → HasNoStep plan k a → Used plan k n clock a ts b → Used plan k (suc n) clock a ts b
idle_then plan k n clock a b [] quiet u = (quiet, u)
idle_then plan k n clock a b (t ∷ ts) quiet u = inl (quiet, u)

-- turns used, and then more
pub used_then : (plan : Plan) (k n m clock : ℕ) (a b c : Acting) (ts us : List (Turn Act Token))
    → Used plan k n clock a ts b → Used plan k m (clock_after clock ts) b us c → Used plan k (n + m) clock a (ts ++ us) c
used_then plan k zero m clock a b c [] us p q =
    let same : m ≡ 0 + m = omega arith in
    subst (λ j. Used plan k j clock a us c) same (subst (λ v. Used plan k m clock v us c) p q)
used_then plan k zero m clock a b c (t ∷ ts) us p q = absurd p
used_then plan k (suc n) m clock a b c [] us p q =
    let same : suc (n + m) ≡ suc n + m = omega arith in
    subst (λ j. Used plan k j clock a us c) same (idle_then plan k (n + m) clock a c us p.0 (used_then plan k n m clock a b c [] us p.1 q))
used_then plan k (suc n) m clock a b c (t ∷ ts) us (inl p) q =
    let same : suc (n + m) ≡ suc n + m = omega arith in
    subst (λ j. Used plan k j clock a (t ∷ (ts ++ us)) c) same (inl (p.0, used_then plan k n m clock a b c (t ∷ ts) us p.1 q))
used_then plan k (suc n) m clock a b c (t ∷ ts) us (inr p) q =
    let same : suc (n + m) ≡ suc n + m = omega arith in
    subst (λ j. Used plan k j clock a (t ∷ (ts ++ us)) c) same (inr (p.0, p.1, used_then plan k n m t.at p.0 b c ts us p.2 q))

-- a put leaves a node of the plan
put_kept : (plan : Plan) (k link : ℕ) (old : Acting) (act : Act) (item : Token) (new : Acting) → IsPut plan k old link act item new → IsActorOf plan k new
put_kept plan k link old (Put l) item new p = p.1.kept
put_kept plan k link old (Fct l) item new p = p.2.kept
put_kept plan k link old a item new p = absurd p

step_kept : (plan : Plan) (k : ℕ) (old : Acting) (label : Label Act Token) (new : Acting) → StepsByLink plan k old label new → IsActorOf plan k new
step_kept plan k old (Own act) new p = p.kept
step_kept plan k old (Takes (Take by word) link t) new p = p.1.kept
step_kept plan k old (Puts act link t) new p = put_kept plan k link old act t new p
step_kept plan k old d new p = absurd p

-- a run leaves a node of the plan
pub run_kept : (plan : Plan) (k clock : ℕ) (old : Acting) (ts : List (Turn Act Token)) (new : Acting)
    → LocalRun (StepsByLink plan) k clock old ts new → IsActorOf plan k old → IsActorOf plan k new
run_kept plan k clock old [] new p h = subst (IsActorOf plan k) (sym p) h
run_kept plan k clock old (t ∷ ts) new p h = run_kept plan k t.at p.0 ts new p.4 (step_kept plan k old (plain t.it) p.0 p.1)

-- a node that has no act for its turn has no step of its own
pub finds_quiet : (plan : Plan) (k : ℕ) (n : Acting) (room : ℕ) → FindsTurn plan k n room None → HasNoStep plan k n
finds_quiet plan k n room f (Take l w) own can = absurd own
finds_quiet plan k n room f (Put l) own can = absurd own
finds_quiet plan k n room f (Fct l) own can = absurd own
finds_quiet plan k n room f x own can = f x (record { can = can; lets = tt })
