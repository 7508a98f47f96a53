use Rattle.std.proofs.Common.{◌≡◌, ◌<◌, [], ◌∷◌, ◌++◌, length, slice_get, slice_set, Some, inl, inr, refl, sym, subst}
use Rattle.std.proofs.lemmas.Bool.{cases_lt, false≢true}
use Rattle.std.proofs.lemmas.Option.{slice_get_past, slice_get_read}
use Rattle.vc_tokens.specs.CodeTokens.{token as spelt}
use Rattle.vc_core.specs.Lines.{Lined}
use Rattle.vc_core.specs.State.{state_of}
use Rattle.vc_core.specs.Wiring.{Comes}
use Rattle.vc_actor.specs.declared.act.Act.TheVariants as act
use Rattle.vc_core.proofs.Awake.{still_awake, taken_came, taken_none}
use Rattle.vc_core.proofs.Enablement.{comes_to}
use Rattle.vc_core.proofs.Events.{taken}
use Rattle.vc_core.proofs.LineBits.{in_few}
use Rattle.vc_core.proofs.Takes.{has_link}
use Rattle.vc_core.proofs.network.Network.take_front.Goals as goal

pub accept-requires : goal.accept-requires
accept-requires c = let f = c.requires in in_few c.args.self.now.lines.wiring c.args.actor c.args.link f.way f.into

pub returns-in-Some-clause-makes : goal.returns-in-Some-clause-makes
returns-in-Some-clause-makes c = λ p is.
    let n = c.args.self.now in
    let s = state_of n in
    let k = c.args.actor in
    let l = c.args.link in
    let a = c.in-Some.acting.now in
    let less = subst (λ m. c.from.result < m) n.actors.ok.0 (c.in-Some.ensures.variant.0 refl) in
    let read = slice_get_read n.actors.items (length n.actors.items) c.from.result a refl less c.in-Some.ensures.value in
    let here : slice_get n.actors.items k ≡ Some a = subst (λ z. slice_get n.actors.items z ≡ Some a) c.from.ensures read in
    let off = c.take_front-token.ensures in
    let f = off.0 in
    taken p s (record s { ways = slice_set s.ways f.way f.rest }) _ (record { actor = k; act = act.Take l c.args.word }) l c.args.word f (spelt c.take_front-token.result) refl off.1 refl
    (record {
      before = a;
      after = c.accept.new.self;
      here = here;
      new_is = (λ i. record { actors = slice_set n.actors.items (c.from.ensures i) c.accept.new.self; nodes = n.nodes; ways = (off.2 i).ways; wiring = (off.2 i).wiring; wires = n.wires; channels = n.channels.items });
      takes = λ plan m of. c.accept.ensures plan m of (has_link p s is k l a f here);
    })
    is

pub returns-in_default-clause-makes : goal.returns-in_default-clause-makes
returns-in_default-clause-makes c = λ p is.
    let n = c.args.self.now in
    let k = c.args.actor in
    absurd (elim (cases_lt k (length n.actors.items)) [
      | inl less ↦ false≢true (c.in_default.ensures.variant.1 (subst (λ m. c.from.result < m) (sym n.actors.ok.0) (subst (λ z. z < length n.actors.items) (sym c.from.ensures) less)))
      | inr past ↦ comes_to p (state_of n) k c.args.link c.requires is (slice_get_past n.actors.items k past)
    ])

pub returns-in-Some-clause-awake : goal.returns-in-Some-clause-awake
returns-in-Some-clause-awake c = λ mask.
    let n = c.args.self.now in
    let off = c.take_front-token.ensures in
    let f = off.0 in
    record {
      kept = λ k low is. is;
      came = λ k low g. absurd (taken_none n.lines.wiring n.lines.ways f.way f.rest f.token f.stands g.way g.tokens g.token g.stood
          (subst (λ (z : Lined). slice_get z.ways g.way ≡ Some (g.tokens ++ g.token ∷ [])) off.2 g.stands));
      woken = λ k l low g none. absurd (none (taken_came n.lines.wiring n.lines.ways f.way f.rest f.token f.rest f.stands k l (subst (λ (z : Lined). Comes z.wiring z.ways k l) off.2 g)));
      only = λ k low is. inl is;
    }

pub returns-in_default-clause-awake : goal.returns-in_default-clause-awake
returns-in_default-clause-awake c = λ mask. let n = c.args.self.now in still_awake (state_of n) (state_of n) mask mask refl refl
