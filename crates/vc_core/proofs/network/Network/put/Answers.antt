use Rattle.std.proofs.Common.{◌≡◌, ◌<◌, [], ◌∷◌, ◌++◌, length, slice_get, slice_set, Some, inl, inr, refl, sym, ◌∙◌, subst}
use Rattle.std.proofs.lemmas.Option.{slice_get_read, slice_get_within}
use Rattle.vc_actor.specs.Acts.{MayAct}
use Rattle.vc_core.specs.Lines.{Lined}
use Rattle.vc_core.specs.Private.Lines.{with_way}
use Rattle.vc_core.specs.Wiring.{Comes}
use Rattle.vc_core.specs.State.{state_of, HasWay}
use Rattle.vc_actor.specs.declared.act.Act.TheVariants as act
use Rattle.vc_core.proofs.Events.{placed}
use Rattle.vc_core.proofs.Awake.{put_came, put_stands, put_wakes}
use Rattle.vc_core.proofs.LineBits.{err_all}
use Rattle.vc_core.proofs.network.Network.put.Goals as goal
use Rattle.vc_vcp.proofs.ListWrites.{set_back}

pub put-requires-clause-may : goal.put-requires-clause-may
put-requires-clause-may c =
    let n = c.args.self.now in
    let e = c.args.event.now in
    let m = c.requires.may in
    let x = c.index_mut-from.result.now in
    let less = subst (λ z. z < length n.actors.items) (sym c.from.ensures) (slice_get_within n.actors.items e.actor m.actor m.here) in
    let read = slice_get_read n.actors.items (length n.actors.items) c.from.result x refl less c.index_mut-from.ensures.value in
    let here = subst (λ z. slice_get n.actors.items z ≡ Some x) c.from.ensures read in
    let both : Some m.actor ≡ Some x = sym m.here ∙ here in
    let same : m.actor ≡ x = cc in
    subst (λ z. MayAct z (act.Put c.args.link)) same (subst (MayAct m.actor) c.requires.is m.may)

pub returns-clause-makes : goal.returns-clause-makes
returns-clause-makes c = λ p is.
    let n = c.args.self.now in
    let s = state_of n in
    let e = c.args.event.now in
    let m = c.requires.may in
    let x = c.index_mut-from.result.now in
    let less = subst (λ z. z < length n.actors.items) (sym c.from.ensures) (slice_get_within n.actors.items e.actor m.actor m.here) in
    let read = slice_get_read n.actors.items (length n.actors.items) c.from.result x refl less c.index_mut-from.ensures.value in
    let here = subst (λ z. slice_get n.actors.items z ≡ Some x) c.from.ensures read in
    let w = c.requires.way.way in
    let puts = c.in_ok-to.ensures.ok w c.requires.way.out in
    let f : HasWay s e.actor c.args.link = record { way = w; tokens = puts.tokens; out = c.requires.way.out; stand = puts.stand } in
    let line = puts.new_is ∙ (λ i. with_way n.lines w (puts.puts.ends i)) in
    placed p s _ e c.args.link x c.put.new.from f puts.puts.token c.requires.is here puts.puts.puts
    (λ i. record { actors = slice_set n.actors.items (c.from.ensures i) c.put.new.from; nodes = n.nodes; ways = (line i).ways; wiring = (line i).wiring; wires = n.wires; channels = n.channels.items }) is

pub returns-clause-awake : goal.returns-clause-awake
returns-clause-awake c =
    let n = c.args.self.now in
    let w = c.requires.way.way in
    let puts = c.in_ok-to.ensures.ok w c.requires.way.out in
    let leads = c.in_ok-to.ensures.to w c.requires.way.out in
    record {
      kept = c.wake.ensures.kept;
      came = λ k low f. put_came n.lines.wiring n.lines.ways w puts.more c.in_ok-to.to c.wake.new.awake leads c.wake.ensures.it k f.link f.way f.tokens f.token f.into f.stood
          (subst (λ (z : Lined). slice_get z.ways f.way ≡ Some (f.tokens ++ f.token ∷ [])) puts.new_is f.stands);
      woken = λ k l low f none. put_wakes n.lines.wiring n.lines.ways w puts.more c.in_ok-to.to c.wake.new.awake leads c.wake.ensures.it k l
          (subst (λ (z : Lined). Comes z.wiring z.ways k l) puts.new_is f) none;
      only = λ k low is. elim (c.wake.ensures.only k low is) [
        | inl was ↦ inl was
        | inr to ↦ (let into = (leads k).0 to in
            inr (record {
              way = w;
              link = into.0;
              tokens = puts.tokens;
              token = puts.puts.token;
              into = into.1;
              stood = puts.stand;
              stands = subst (λ (z : Lined). slice_get z.ways w ≡ Some (puts.tokens ++ puts.puts.token ∷ [])) (sym puts.new_is)
                  (put_stands n.lines.wiring n.lines.ways w puts.more puts.tokens puts.puts.token puts.stand puts.puts.ends);
            }))
      ];
    }

pub returns-in_err-to-clause-refused : goal.returns-in_err-to-clause-refused
returns-in_err-to-clause-refused c =
    let n = c.args.self.now in
    let e = c.args.event.now in
    let m = c.requires.may in
    let x = c.index_mut-from.result.now in
    let less = subst (λ z. z < length n.actors.items) (sym c.from.ensures) (slice_get_within n.actors.items e.actor m.actor m.here) in
    let read = slice_get_read n.actors.items (length n.actors.items) c.from.result x refl less c.index_mut-from.ensures.value in
    let same = c.in_err-to.ensures.err in
    err_all c.from_residual.result (λ i. record { actors = set_back n.actors.items c.from.result x c.put.new.from read same.0 i; nodes = n.nodes; ways = (same.1 i).ways; wiring = (same.1 i).wiring; wires = n.wires; channels = n.channels.items })

pub returns-in_err-to-clause-none_wakes : goal.returns-in_err-to-clause-none_wakes
returns-in_err-to-clause-none_wakes c = err_all c.from_residual.result refl
