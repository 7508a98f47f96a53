-- An output may begin after its message was taken, and be finished at once: it has met its partner all the same.
use Rattle.std.proofs.Common.{◌≡◌, ℕ, refl, subst, List, Option, Some, None}
use Rattle.std.specs.List.{Contains}
use Rattle.vc_occam.specs.declared.answer.Answer.{Answer}
use Rattle.vc_occam.specs.declared.answer.Answer.TheVariants.{Nothing}
use Rattle.vc_occam.specs.declared.moves.Move.TheVariants.{Offer}
use Rattle.vc_occam.specs.First.{own}
use Rattle.vc_occam.specs.InUse.{UsesLawfully}
use Rattle.vc_occam.specs.MoveSites.{site_of}
use Rattle.vc_occam.specs.Private.Frames.{Able, Did}
use Rattle.vc_occam.specs.Private.MoveSites.{action_for, at, partner}
use Rattle.vc_occam.specs.Private.SiteSteps.{one, whole_output}
use Rattle.vc_occam.specs.Remains.{Rest, Step}
use Rattle.vc_occam.specs.SiteActions as action
use Rattle.vc_occam.specs.Sites.{OwnSites}
use Rattle.vc_occam.specs.States.{Does, bytes_or_none, came, carried, output_at}
use Rattle.vc_occam.specs.Traces.{Comm}
use Rattle.vc_process.specs.ProcessStep.{Meets}
use Rattle.vc_process.specs.Values.{Store}
use Rattle.vc_occam.proofs.Commutation.{after_output, swap}
use Rattle.vc_occam.proofs.Determinate.{step_one}
use Rattle.vc_occam.proofs.Preservation.{lawful}
use Rattle.vc_occam.proofs.Made.{able}
use Rattle.vc_occam.proofs.Meets.{able_taking, has_met}
use Rattle.vc_occam.proofs.Sites.{step_keeps}

-- taking a message is no end of an output
no_finish : (j : ℕ) (k : Option ℕ) (c : ℕ) (a : Answer) → action_for (partner j k c) a ≡ action.Finish → ⊥
no_finish j None c a h = cc
no_finish j (Some k) c a h = cc

module _ {r q : Rest} {e f : Store} (i j : ℕ) (k : Option ℕ) (c : ℕ) (a : Answer) (o : OwnSites r) (u : UsesLawfully r) (offers : Contains (own r e) (Offer i c)) (takes : Contains (own r e) (partner j k c)) (tk : Did r e (site_of (partner j k c)) (one (action_for (partner j k c) a)) q f) where
  -- the output begins first, its message is taken then, and in the other order the same comes of it
  record Either : Type 0 where
    sent : List Comm
    got : List Comm
    rest : Rest
    store : Store
    then_rest : Rest
    then_store : Store
    begins : Step r e i (action.Offer c) sent rest store
    taken : Step rest store (site_of (partner j k c)) (action_for (partner j k c) a) got then_rest then_store
    later : Step q f i (action.Offer c) sent then_rest then_store

  either : Either
  either =
      let (ks, m, g, st) = able r e (Offer i c) Nothing offers in
      let (ls, n, h, t) = able_taking j k a st takes in
      let s = swap (after_output (no_finish j k c a)) st t (lawful r u) in
      let same = step_one s.first tk.1 refl refl o in
      record {
        sent = ks;
        got = ls;
        rest = m;
        store = g;
        then_rest = n;
        then_store = h;
        begins = st;
        taken = t;
        later = subst (λ (x : List Comm × Rest × Store). Step x.1 x.2 i (action.Offer c) ks n h) same s.after;
      }

  -- the output can begin then
  pub able_later : Able q f i (action.Offer c)
  able_later = let n = either in (n.sent, n.then_rest, n.then_store, n.later)

  -- and where it is finished too, it has met its partner
  pub met_later : {t : Rest} {h : Store} → came a ≡ carried (output_at i r e) → Did q f i (whole_output c) t h → (ks : List Comm) × Does (at r e) (Meets i j k c (bytes_or_none (came a))) ks (at t h)
  met_later {t} {h} fits (ks, m, g, ls, st, fin) =
      let n = either in
      let same = step_one st n.later refl refl (step_keeps tk.1 o).1 in
      let ends = subst (λ (x : List Comm × Rest × Store). Step x.1 x.2 i action.Finish ls t h) same fin in
      has_met i j k c a o fits (n.sent, n.begins) (n.got, n.taken) (ls, ends)
