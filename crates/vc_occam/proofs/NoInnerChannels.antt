-- Where no channel is inside the node, each site's own moves are the moves.
use Rattle.std.proofs.Common.{Ok, Err, ◌≡◌, ℕ, false, refl, ap, ◌∙◌, List, [], ◌∷◌, ◌++◌}
use Rattle.vc_occam.specs.declared.outcome.Outcome.TheVariants as outcome
use Rattle.vc_occam.specs.declared.moves.Move.{Move}
use Rattle.vc_occam.specs.declared.moves.Move.TheVariants.{Offer, Want, Choose, Stopch, Inner, Quiet}
use Rattle.vc_occam.specs.declared.running.Running.{Running}
use Rattle.std.specs.Prelude.{OnOk, Result, ⊤, if◌then◌else◌}
use Rattle.vc_occam.specs.First.{joined, meetings}
use Rattle.vc_occam.specs.Frames.{remains}
use Rattle.vc_occam.specs.Private.Frames.{seen_task}
use Rattle.vc_occam.specs.Runnings.{inner_channels, moves, state}
use Rattle.vc_packets.specs.declared.memory.Memory.{Memory}
use Rattle.vc_process.specs.Terms.{store}
use Rattle.vc_process.specs.Usage.{Set, among}
use Rattle.vc_occam.proofs.Outcomes.{quiet_own, task_outcome}

pub apart : (inside : Set) → ((c : ℕ) → inside c ≡ false) → (all ms : List Move) → joined inside all ms ≡ ms
apart inside h all [] = refl
apart inside h all (Offer i c ∷ ms) = ap (λ b. (if b then meetings i c all else (Offer i c ∷ [])) ++ joined inside all ms) (h c) ∙ ap (λ xs. Offer i c ∷ xs) (apart inside h all ms)
apart inside h all (Want i c ∷ ms) = ap (λ b. (if b then [] else (Want i c ∷ [])) ++ joined inside all ms) (h c) ∙ ap (λ xs. Want i c ∷ xs) (apart inside h all ms)
apart inside h all (Choose i k c ∷ ms) = ap (λ b. (if b then [] else (Choose i k c ∷ [])) ++ joined inside all ms) (h c) ∙ ap (λ xs. Choose i k c ∷ xs) (apart inside h all ms)
apart inside h all (Stopch i c ∷ ms) = ap (λ xs. Stopch i c ∷ xs) (apart inside h all ms)
apart inside h all (Inner i j k c ∷ ms) = ap (λ xs. Inner i j k c ∷ xs) (apart inside h all ms)
apart inside h all (Quiet i ∷ ms) = ap (λ xs. Quiet i ∷ xs) (apart inside h all ms)

pub unjoined : (all ms : List Move) → joined (among []) all ms ≡ ms
unjoined all ms = apart (among []) (λ c. refl) all ms

-- a step is the only move of a process that is known to begin with it
pub only_moves : (r : Running) (i : ℕ) → r.task.begins ≡ outcome.Quiet i → moves r ≡ Quiet i ∷ []
unfolding state inner_channels
only_moves r i h = ap (λ ms. joined (among r.inside) ms ms) (quiet_own (remains r.task) i (store r.vars.items) (task_outcome (seen_task r.task) r.sound ∙ h))

-- what is put in an empty list
pub all_listed : (o : Result ⊤ Memory) (old new ms ns : List Move) → old ++ ms ≡ ns → OnOk o (new ≡ old ++ ms) → OnOk o (new ≡ ns)
all_listed (Ok u) old new ms ns h q = q ∙ h
all_listed (Err e) old new ms ns h q = tt
