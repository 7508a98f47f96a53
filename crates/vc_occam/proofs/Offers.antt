-- An output that begins is one of the moves.
use Rattle.std.proofs.Common.{ℕ, sym, ap, subst, List, [], ◌∷◌, if◌then◌else◌}
use Rattle.std.specs.Prelude.{is_some}
use Rattle.std.specs.List.{Contains}
use Rattle.std.proofs.lemmas.List.Elements.{Contains-append_left, Contains-append_right}
use Rattle.vc_occam.specs.SiteActions.{Offer}
use Rattle.vc_occam.specs.declared.moves.Move.TheVariants as move
use Rattle.vc_occam.specs.First.{own}
use Rattle.vc_occam.specs.Remains.{Rest, Step, does_offer, in_then, in_turns, in_left, in_right}
use Rattle.vc_occam.specs.Traces.{Comm}
use Rattle.vc_process.specs.Values.{Store}
use Rattle.vc_process.proofs.Lists.{at_front}

pub offer_own : {r q : Rest} {e f : Store} {i c : ℕ} {ks : List Comm} → Step r e i (Offer c) ks q f → Contains (own r e) (move.Offer i c)
offer_own (does_offer {s = s} {c = c} {a = a} {e = e} h) =
    subst (λ b. Contains ((if b then move.Offer s c else move.Quiet s) ∷ []) (move.Offer s c)) (sym (ap is_some h)) (at_front (move.Offer s c) [])
offer_own (in_then st) = offer_own st
offer_own (in_turns st) = offer_own st
offer_own {i = i} {c = c} (in_left {r = r} {q = q} {e = e} st) = Contains-append_left (own r e) (own q e) (move.Offer i c) (offer_own st)
offer_own {i = i} {c = c} (in_right {r = r} {q = q} {e = e} st) = Contains-append_right (own r e) (own q e) (move.Offer i c) (offer_own st)
