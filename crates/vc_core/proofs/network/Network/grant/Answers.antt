use Rattle.std.proofs.Common.{◌≡◌, [], ◌∷◌, ◌++◌, slice_get, Some, inl, inr, refl, sym, subst}
use Rattle.vc_actor.specs.Acts.{MayAct}
use Rattle.vc_tokens.specs.Tokens as tokens
use Rattle.vc_core.specs.Lines.{Lined}
use Rattle.vc_core.specs.State.{State, state_of, HasFront}
use Rattle.vc_core.specs.Wiring.{Comes}
use Rattle.vc_core.proofs.Awake.{put_came, put_stands, put_wakes}
use Rattle.vc_core.proofs.Events.{granted, way_is, way_found}
use Rattle.vc_core.proofs.network.Network.grant.Goals as goal

pub grant_by-requires : goal.grant_by-requires
grant_by-requires c = let m = c.requires.may in record { actor = m.actor; here = m.here; may = subst (MayAct m.actor) c.requires.is m.may }

pub returns-clause-makes : goal.returns-clause-makes
returns-clause-makes c = λ p is.
    let n = c.args.self.now in
    let s = state_of n in
    let e = c.args.event.now in
    let lets = c.requires.way in
    let w = lets.way in
    let out = lets.out in
    let line = c.in_ok-to.ensures.ok w lets.tokens out (way_found s e.actor c.args.link w lets out) in
    granted p s (state_of (record n { lines = c.push_out.new.self })) (state_of c.grant_by.new.self) e c.args.link (way_is s e.actor c.args.link w lets out) c.requires.is
    (λ i. record { actors = n.actors.items; nodes = n.nodes; ways = (line i).ways; wiring = (line i).wiring; wires = n.wires; channels = n.channels.items }) c.grant_by.ensures.grants is

pub returns-clause-awake : goal.returns-clause-awake
returns-clause-awake c =
    let n = c.args.self.now in
    let s = state_of n in
    let e = c.args.event.now in
    let lets = c.requires.way in
    let w = lets.way in
    let leads = c.in_ok-to.ensures.to w lets.out in
    let line = c.in_ok-to.ensures.ok w lets.tokens lets.out (way_found s e.actor c.args.link w lets lets.out) in
    record {
      kept = c.wake.ensures.kept;
      came = λ k low f.
          put_came n.lines.wiring n.lines.ways w _ c.in_ok-to.to c.wake.new.awake leads c.wake.ensures.it k f.link f.way f.tokens f.token f.into f.stood
          (subst (λ (z : Lined). slice_get z.ways f.way ≡ Some (f.tokens ++ f.token ∷ [])) line (subst (λ (z : State). slice_get z.ways f.way ≡ Some (f.tokens ++ f.token ∷ [])) c.grant_by.ensures.grants.new_is f.stands));
      woken = λ k l low f none.
          put_wakes n.lines.wiring n.lines.ways w _ c.in_ok-to.to c.wake.new.awake leads c.wake.ensures.it k l
          (subst (λ (z : Lined). Comes z.wiring z.ways k l) line (subst (λ z. HasFront z k l) c.grant_by.ensures.grants.new_is f)) none;
      only = λ k low is. elim (c.wake.ensures.only k low is) [
        | inl was ↦ inl was
        | inr to ↦ (let into = (leads k).0 to in
            inr (record {
              way = w;
              link = into.0;
              tokens = lets.tokens;
              token = tokens.Fct;
              into = into.1;
              stood = way_found s e.actor c.args.link w lets lets.out;
              stands = subst (λ (z : State). slice_get z.ways w ≡ Some (lets.tokens ++ tokens.Fct ∷ [])) (sym c.grant_by.ensures.grants.new_is)
                  (subst (λ (z : Lined). slice_get z.ways w ≡ Some (lets.tokens ++ tokens.Fct ∷ [])) (sym line)
                  (put_stands n.lines.wiring n.lines.ways w _ lets.tokens tokens.Fct (way_found s e.actor c.args.link w lets lets.out) refl));
            }))
      ];
    }
