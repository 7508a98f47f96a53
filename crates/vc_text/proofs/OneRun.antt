-- A seed has one run.
use Rattle.std.proofs.Common.{◌≡◌, ◌<◌, ◌%◌, ℕ, List, [], ◌∷◌, ◌++◌, append_assoc, length, slice_get, take, Some, refl, sym, ap, ◌∙◌, subst, inl, inr, arith, eq-eqb, if◌then◌else◌}
use mathlib.Core.Path.{fun_ext}
use Rattle.std.proofs.lemmas.List.Concat.{flat_map-append}
use Rattle.std.specs.List.{range_with_len}
use Rattle.rand_pcg.specs.Lcg.{Lcg}
use Rattle.rand_pcg.specs.Pcg.{pcg32}
use Rattle.vc_network.specs.Network.{Happens, begins}
use Rattle.vc_network.proofs.OneStep.{events_are_one}
use Rattle.vc_switch.specs.Waiting.{Wormhole}
use Rattle.vc_plan.specs.Accepted.{IsAccepted}
use Rattle.vc_plan.specs.declared.plan.Plan.{Plan}
use Rattle.vc_plan.proofs.Members.{In-range}
use Rattle.vc_accepted.specs.Begin.{begin_of}
use Rattle.vc_accepted.specs.Determinate.{proceeds}
use Rattle.vc_accepted.specs.NetworkOf.{network_of}
use Rattle.vc_accepted.specs.Process.{does}
use Rattle.vc_accepted.proofs.AcceptedNetwork.{accepted}
use Rattle.vc_accepted.proofs.Determinate.{one_state}
use Rattle.vc_accepted.proofs.LawfulRuns.{AllLawful, first_lawful, happens_on}
use Rattle.vc_actor.specs.Turns.{actors}
use Rattle.vc_actor.specs.declared.act.Act.TheVariants.{Take}
use Rattle.vc_core.specs.Choices.{AreActs, HasEvent, acts_of, without_word}
use Rattle.vc_core.specs.PossibleEvents.{NetworkState, CanHappenIn}
use Rattle.vc_core.specs.State.{event_of}
use Rattle.vc_core.specs.declared.event.Event.{Event}
use Rattle.vc_core.proofs.ListedActs.{place_in, those_from, those_one}
use Rattle.vc_threads.specs.Runs.{Draws, generator}
use Rattle.vc_text.specs.OneRun.{SeedsHaveOneRun}
use Rattle.vc_text.specs.Schedules.{AreDrawn, IsDrawn, Picks, drawer}
use Rattle.vc_text.specs.Takes.{HasWordsOf, take_word, word_by, words_by}
use Rattle.vc_text.proofs.DrawnEvents.{alike}

-- the next word behind the same words
one_word : (g : Lcg) (ws : List ℕ) (v w : ℕ) (xs ys : List ℕ) (r q : Lcg) → Draws g (ws ++ v ∷ xs) r → Draws g (ws ++ w ∷ ys) q → v ≡ w
one_word g [] v w xs ys r q (e, a) (f, b) = e ∙ sym f
one_word g (u ∷ us) v w xs ys r q (e, a) (f, b) = one_word (pcg32 g).1 us v w xs ys r q a b

picked_one : {X : Type 0} (g : Lcg) (xs ys : List X) (x y : X) (h k : Lcg) → xs ≡ ys → Picks g xs x h → Picks g ys y k → (x ≡ y) × (h ≡ k)
picked_one g xs ys x y h k same a b =
    let one : Some x ≡ Some y = sym a.at ∙ ap (λ zs. slice_get zs ((pcg32 g).0 % length zs)) same ∙ b.at in
    let is : x ≡ y = cc in
    (is, a.after ∙ sym b.after)

-- the word of an actor's take stands behind those before it
worded_at : (k : ℕ) (done es : List Event) (e : Event) (l v : ℕ) → e.actor ≡ k → e.act ≡ Take l v → words_by k (done ++ e ∷ es) ≡ words_by k done ++ v ∷ words_by k es
worded_at k done es e l v at is =
    let its : word_by k e ≡ v ∷ [] = ap (λ b. if b then take_word e.act else []) (eq-eqb e.actor k at) ∙ ap take_word is in
    flat_map-append (word_by k) done (e ∷ es) ∙ ap (λ ws. words_by k done ++ (ws ++ words_by k es)) its

module _ (p : Plan) (acc : IsAccepted p) where
  -- an event of lawful processes leads to one state
  same_state : (x y z : NetworkState) (e : Event) → AllLawful x → Happens (network_of p) Wormhole does x (event_of e) y → Happens (network_of p) Wormhole does x (event_of e) z → (y ≡ z) × AllLawful y
  same_state x y z e l a b =
      let first = happens_on (network_of p) Wormhole x (event_of e) y a l in
      let other = happens_on (network_of p) Wormhole x (event_of e) z b l in
      let same = events_are_one (network_of p) Wormhole proceeds (accepted p acc) one_state x y z (event_of e) first.0 other.0 in
      ((λ i. record { state = fun_ext (λ n. sym (same.states n)) i; way = fun_ext (λ w. sym (same.ways w)) i }), first.1)

  few_actors : (x : NetworkState) (g next : Lcg) (e : Event) → IsDrawn p x g e next → e.actor < actors p
  few_actors x g next e d =
      let among = those_from (HasEvent p x) (range_with_len 0 (actors p)) d.ready e.actor d.are_ready (place_in d.ready _ e.actor d.picks_actor.at) in
      let within = In-range 0 (actors p) e.actor among in
      omega (arith, within.1)

  -- one event is drawn
  same_event : (done es fs : List Event) (x : NetworkState) (g h k : Lcg) (e f : Event) → IsDrawn p x g e h → IsDrawn p x g f k → HasWordsOf p 0 (done ++ e ∷ es) → HasWordsOf p 0 (done ++ f ∷ fs) → (e ≡ f) × (h ≡ k)
  same_event done es fs x g h k e f a b mine yours =
      let ready = those_one (HasEvent p x) (range_with_len 0 (actors p)) a.ready b.ready a.are_ready b.are_ready in
      let who = picked_one g a.ready b.ready e.actor f.actor a.between b.between ready a.picks_actor b.picks_actor in
      let acts = those_one (λ c. CanHappenIn p x (record { actor = e.actor; act = c })) (acts_of (x.state e.actor)) a.acts b.acts a.are_acts (subst (λ n. AreActs p x n b.acts) (sym who.0) b.are_acts) in
      let what = picked_one a.between a.acts b.acts a.act b.act h k acts a.picks_act (subst (λ l. Picks l b.acts b.act k) (sym who.1) b.picks_act) in
      let less = few_actors x g h e a in
      let act : e.act ≡ f.act = elim (alike e.act f.act (a.is ∙ ap without_word what.0 ∙ sym b.is)) [
        | inl (l, v, w, take_e, take_f) ↦ (
            let own = mine e.actor less in
            let other = yours e.actor less in
            let word = one_word (generator 0 e.actor) (words_by e.actor done) v w (words_by e.actor es) (words_by e.actor fs) own.0 other.0
            (subst (λ ws. Draws (generator 0 e.actor) ws own.0) (worded_at e.actor done es e l v refl take_e) own.1)
            (subst (λ ws. Draws (generator 0 e.actor) ws other.0) (worded_at e.actor done fs f l w (sym who.0) take_f) other.1) in
            take_e ∙ ap (Take l) word ∙ sym take_f)
        | inr (same, none) ↦ same
      ] in
      ((λ i. record { actor = who.0 i; act = act i }), what.1)

  same_events : (done es fs : List Event) (x y z : NetworkState) (g h k : Lcg) → AllLawful x → AreDrawn p g x es y h → AreDrawn p g x fs z k → HasWordsOf p 0 (done ++ es) → HasWordsOf p 0 (done ++ fs) →
      take (length fs) es ≡ take (length es) fs
  same_events done [] [] x y z g h k lawful a b mine yours = refl
  same_events done [] (f ∷ fs) x y z g h k lawful a b mine yours = refl
  same_events done (e ∷ es) [] x y z g h k lawful a b mine yours = refl
  same_events done (e ∷ es) (f ∷ fs) x y z g h k lawful (m, l, drawn, happens, more) (n, r, picked, made, rest) mine yours =
      let one = same_event done es fs x g l r e f drawn picked mine yours in
      let mid = same_state x m n e lawful happens (subst (λ d. Happens (network_of p) Wormhole does x (event_of d) n) (sym one.0) made) in
      let after = same_events (done ++ e ∷ []) es fs m y z l h k mid.1 more (subst (λ s. AreDrawn p l s fs z k) (sym mid.0) (subst (λ q. AreDrawn p q n fs z k) (sym one.1) rest))
      (subst (HasWordsOf p 0) (sym (append_assoc done (e ∷ []) es)) mine)
      (subst (HasWordsOf p 0) (ap (λ d. done ++ d ∷ fs) (sym one.0) ∙ sym (append_assoc done (e ∷ []) fs)) yours) in
      (λ i. one.0 i ∷ after i)

pub one_run : SeedsHaveOneRun
one_run p seed most limit es fs x y close end a b =
    let acc = a.so_far.runs.accepted in
    same_events p acc [] es fs (begins (network_of p) (begin_of p)) x y (drawer seed) a.so_far.order.0 b.so_far.order.0 (first_lawful p acc) a.so_far.order.1 b.so_far.order.1 a.so_far.words b.so_far.words
