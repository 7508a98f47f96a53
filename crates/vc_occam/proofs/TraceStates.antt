-- How a trace stands: a process that has come so far has made a trace that has ended, or that is cut off here.
use Rattle.std.proofs.Common.{◌≡◌, refl, ap, subst, ◌∙◌, List, [], inl, inr, ◌⊎◌}
use Rattle.vc_process.specs.Values.{Store}
use Rattle.vc_process.specs.Usage.{Set}
use Rattle.vc_occam.specs.Traces.{End, Open, Ended, both_ended, neither, cut}
use Rattle.vc_occam.specs.Remains.{Rest, Done, Stopped, Fresh, Finishing, Getting, Then, Turns, Beside, TraceRest, done, stopped, fresh, finishing_cut, getting_cut, then_open, turns_open, beside}
use Rattle.vc_occam.specs.NodeTraces.{so_far}
use Rattle.vc_process.specs.declared.value_kind.ValueKind.{ValueKind}
use Rattle.std.specs.Prelude.{ℕ}
use Rattle.vc_occam.proofs.KindPreservation.{Remains, Sound}

module _ (channel : ℕ → ValueKind) (kinds : List ValueKind) where
  is_open : (r : Rest) (e : Store) → Remains channel kinds r → so_far r e ≡ Open
  is_open Done e h = absurd h
  is_open r e h = refl

  right_open : (mine : Set) (x : End) → both_ended mine x Open ≡ Open
  right_open mine Open = refl
  right_open mine (Ended f) = refl

  both_open : (mine : Set) (r q : Rest) (e : Store) → Remains channel kinds r ⊎ Remains channel kinds q → both_ended mine (so_far r e) (so_far q e) ≡ Open
  both_open mine r q e (inl h) = ap (λ x. both_ended mine x (so_far q e)) (is_open r e h)
  both_open mine r q e (inr h) = ap (λ x. both_ended mine (so_far r e) x) (is_open q e h) ∙ right_open mine (so_far r e)

  pub stands : (r : Rest) (e : Store) → Sound channel kinds r → TraceRest r e [] (so_far r e)
  stands Done e h = done
  stands (Stopped i) e h = stopped
  stands (Fresh p) e h = fresh cut
  stands (Finishing s c) e h = finishing_cut
  stands (Getting s c v) e h = getting_cut
  stands (Then r ps) e h = then_open (subst (TraceRest r e []) (is_open r e h.0) (stands r e h.1))
  stands (Turns r v b n p) e h = turns_open (subst (TraceRest r e []) (is_open r e h.0) (stands r e h.1))
  stands (Beside mine r q) e h = subst (TraceRest (Beside mine r q) e []) (both_open mine r q e h.0) (beside (stands r e h.1) (stands q e h.2) neither)
