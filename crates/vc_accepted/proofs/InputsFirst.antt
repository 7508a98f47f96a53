-- Two nodes that each input before they output get nothing.
use Rattle.std.proofs.Common.{◌≡◌, ℕ, zero, suc, refl, sym, ap, subst, ◌∙◌, List, [], ◌∷◌, arith, eq-eqb, if◌then◌else◌}
use Rattle.vc_machine.specs.Rendezvous as rendezvous
use Rattle.vc_machine.specs.Rendezvous.{View, DoesAll, part, nothing_yet}
use Rattle.vc_process.specs.Messages.{message}
use Rattle.vc_process.specs.Syntax.{Given}
use Rattle.vc_occam.specs.Traces.{Comm, In, End, Trace, cut, input, seq, seq_open, seq_next}
use Rattle.vc_process.specs.Values.{Store}
use Rattle.vc_accepted.specs.OneList.{by, to_channel}
use Rattle.vc_accepted.specs.Swap.{inputs_first, NothingIsSwapped}

-- a list that begins with an input on this channel, or is empty
data BeginsWith (c : ℕ) : List Comm → Type 0 where
  nothing : BeginsWith c []
  an_input : {x : _} {t : List Comm} → BeginsWith c (In c x ∷ t)

begins_with : {c d var : ℕ} {a : Given} {e : Store} {t : List Comm} {x : End} → Trace (inputs_first c d var a) e t x → BeginsWith c t
begins_with cut = nothing
begins_with (seq (seq_open cut)) = nothing
begins_with (seq (seq_next (input k) r)) = an_input

-- nothing can be taken first
not_first : (c : ℕ) (k : Comm) (t ks : List Comm) (ls : List (ℕ × rendezvous.Comm)) (v : View) → BeginsWith c (k ∷ t) → DoesAll nothing_yet (part c (to_channel k ∷ ls)) v → ⊥
not_first c k t ks ls v (an_input {x = x}) run =
    let first = subst (λ b. DoesAll nothing_yet (if b then rendezvous.In (message x) ∷ part c ls else part c ls) v) (eq-eqb c c refl) run in
    let e = first.1.0 in cc

pub nothing_swapped : NothingIsSwapped
nothing_swapped c d [] there back both u w = (ap (λ v. v.taken) u, ap (λ v. v.taken) w)
nothing_swapped c d ((zero, k) ∷ ks) there back both u w = absurd (not_first c k (by 0 ks) [] _ there (begins_with both.one.0) u)
nothing_swapped c d ((suc zero, k) ∷ ks) there back both u w = absurd (not_first d k (by 1 ks) [] _ back (begins_with both.other.0) w)
nothing_swapped c d ((suc (suc n), k) ∷ ks) there back both u w =
    let n2 = suc (suc n) in
    let e : k ∷ by n2 ks ≡ [] = sym (ap (λ b. if b then k ∷ by n2 ks else by n2 ks) (eq-eqb n2 n2 refl)) ∙ both.no_third n2 (omega arith) in
    absurd (cc)
