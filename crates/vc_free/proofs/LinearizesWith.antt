-- Whatever processes did over channels that hold an output until it is taken has a linearization.
use Rattle.std.proofs.Common.{◌≡◌, ℕ, refl, sym, ap, subst, ◌∙◌, List, [], ◌∷◌, ◌++◌, arith}
use Rattle.vc_placement.specs.Linearization.{Atomic, Exchange, Stop, comms_of, all_comms, points, AreFaithful, completed, IsLinearization}
use Rattle.vc_machine.specs.Rendezvous.{View, DoesAll, nothing_yet}
use Rattle.vc_accepted.specs.OneList.{by, on}
use Rattle.vc_process.specs.Syntax.{Proc}
use Rattle.vc_occam.specs.Traces.{Comm, End, Trace}
use Rattle.vc_process.specs.Values.{Store}
use Rattle.vc_occam.proofs.Balance.{balanced, balanced_within}
use Rattle.vc_occam.proofs.Prefixes.{some_prefix}
use Rattle.vc_placement.proofs.Completions.{Rewrites, rewritten, empty_stays_empty}
use Rattle.vc_placement.proofs.Elements.{Element, Exchanged, Stopped, Received, Finished, spell, linearized, Phase, Idle, ElementsInTurn, InTurn, elements_in_turn, AreMet, all_met}
use Rattle.vc_placement.proofs.Projections.{projected}
use Rattle.vc_placement.proofs.Points.{linearized_points}
use Rattle.vc_placement.proofs.Turns.{Bounded, all_in_turn}
use Rattle.vc_placement.proofs.Views.{seen, even_run, not_received, not_finished, idle_tail}

-- a list without inputs and ends that stand alone
record Atoms (l : List Element) : Type 0 where
  pub all : List Atomic
  pub same : all_comms all ≡ spell l
  pub faithful : AreFaithful all

atoms : (l : List Element) → ((c : ℕ) → ElementsInTurn c Idle l) → AreMet l → Atoms l
atoms [] t h = record { all = []; same = refl; faithful = tt }
atoms (Exchanged n m c x y ∷ l) t h =
    let r = atoms l (λ d. idle_tail d (t d)) h.1 in
    record { all = Exchange n m c x y ∷ r.all; same = ap (λ z. comms_of (Exchange n m c x y) ++ z) r.same; faithful = (h.0, r.faithful) }
atoms (Stopped n c ∷ l) t h =
    let r = atoms l (λ d. idle_tail d (t d)) h.1 in
    record { all = Stop n c ∷ r.all; same = ap (λ z. comms_of (Stop n c) ++ z) r.same; faithful = (tt, r.faithful) }
atoms (Received n c y ∷ l) t h = absurd (not_received c (t c))
atoms (Finished n c ∷ l) t h = absurd (not_finished c (t c))

-- no process finishes more outputs than it began, however far it has come
bounded : {p : Proc} {e : Store} {l : List Comm} (x : End) → Trace p e l x → (c : ℕ) → Bounded c 0 l
bounded x q c w h = let r = some_prefix q h in let k = balanced_within c w r.0 (balanced c r.1) in omega arith

-- and what becomes of each process's part
pub linearizes_with :
    (proc : ℕ → Proc) (store : ℕ → Store) (end : ℕ → End) (view : ℕ → View) (ks : List (ℕ × Comm)) → ((n : ℕ) → Trace (proc n) (store n) (by n ks) (end n))
    → ((c : ℕ) → DoesAll nothing_yet (on c ks) (view c)) → (hs : List Atomic) × IsLinearization proc store end view ks hs × ((n : ℕ) → Rewrites (by n ks) (by n (all_comms hs)))
linearizes_with proc store end view ks traces runs =
    let goes : (c : ℕ) → InTurn c Idle ks = λ c. all_in_turn c ks (view c) Idle nothing_yet (refl, refl) (runs c) (λ j. bounded (end j) (traces j) c) in
    let some : (c : ℕ) → (h : Phase) × InTurn c h ks = λ c. (Idle, goes c) in
    let met = all_met ks some in
    let r = atoms (linearized ks) (λ c. elements_in_turn (goes c)) met in (
      r.all,
      record {
        by_node = λ n. (let t = rewritten (end n) (traces n) (projected n ks some) in (t.0, subst (λ z. Trace (proc n) (store n) (by n z) t.0) (sym r.same) t.1, t.2));
        by_no_other = λ n e. ap (by n) r.same ∙ empty_stays_empty (projected n ks some) e;
        faithful = r.faithful;
        same_points = ap points r.same ∙ linearized_points ks;
        on_channel = λ c. subst (λ z. DoesAll nothing_yet (on c z) (completed (view c))) (sym r.same) (even_run c (seen c ks nothing_yet (view c) (runs c)) (elements_in_turn (goes c)) met);
      },
      λ n. subst (Rewrites (by n ks)) (ap (by n) (sym r.same)) (projected n ks some),
    )
