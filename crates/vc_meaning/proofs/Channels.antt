-- What a channel shows says how far its messages are.
use Rattle.std.proofs.Common.{◌≡◌, ◌≢◌, ◌⊎◌, inl, inr, ℕ, suc, ◌+◌, ◌≤◌, ◌<◌, Bool, true, false, List, [], ◌∷◌, ◌++◌, length, Option, Some, None, refl, sym, ap, subst, ◌∙◌, arith, eq-eqb, if◌then◌else◌}
use Rattle.std.proofs.lemmas.Bool.{cases_eq}
use Rattle.std.specs.List.{Contains}
use Rattle.vc_accepted.specs.NetworkOf.{network_of, home_in}
use Rattle.vc_core.specs.PossibleEvents.{NetworkState}
use Rattle.vc_free.proofs.PutOff.{total, total_there, is_out, is_in}
use Rattle.vc_free.proofs.Rest.{longer}
use Rattle.vc_free.specs.Delivery.{in_half}
use Rattle.vc_machine.specs.Rendezvous.{View}
use Rattle.vc_meaning.proofs.Sequences.{ahead_map, alone_map, ahead_fewer}
use Rattle.vc_meaning.specs.Meaning.{IsOnLink, OutputAlone, InputAlone, MessagePasses, IsUnfinished, EndIsToCome, PartMeans, HavePassed}
use Rattle.vc_network.specs.Views.{view}
use Rattle.vc_occam.specs.States.{State, input, output, waiting}
use Rattle.vc_plan.specs.declared.plan.Plan.{Plan}

pub next_one : (xs : List (List ℕ)) (m l : List ℕ) → xs ++ m ∷ [] ≡ xs ++ l ∷ [] → m ≡ l
next_one [] m l e = cc
next_one (x ∷ xs) m l e = next_one xs m l (let t : xs ++ m ∷ [] ≡ xs ++ l ∷ [] = cc in t)

pub never_both : (a b : List (List ℕ)) (m : List ℕ) → a ≡ b → b ≡ a ++ m ∷ [] → ⊥
never_both a b m e f = longer a m (e ∙ f)

pub true_false : (b : Bool) → b ≡ true → b ≡ false → ⊥
true_false true h k = cc
true_false false h k = cc

-- a channel shows the same of its messages in two states
pub record SameAt (p : Plan) (x y : NetworkState) (c : ℕ) : Type 0 where
  pub offered : (view (network_of p) y c).offered ≡ (view (network_of p) x c).offered
  pub taken : (view (network_of p) y c).taken ≡ (view (network_of p) x c).taken
  pub finished : (view (network_of p) y c).finished ≡ (view (network_of p) x c).finished
  pub asked : IsOnLink p c → (in_half p y c).wants ≡ (in_half p x c).wants

pub back : {p : Plan} {x y : NetworkState} {c : ℕ} → SameAt p x y c → SameAt p y x c
back h = record { offered = sym h.offered; taken = sym h.taken; finished = sym h.finished; asked = λ l. sym (h.asked l) }

module _ {p : Plan} {x y : NetworkState} {c : ℕ} (same : SameAt p x y c) where
  pub output_alone : {m : List ℕ} → OutputAlone p x c m → OutputAlone p y c m
  output_alone {m} h = record { on_link = h.on_link; offered = same.offered ∙ h.offered ∙ ap (λ z. z ++ m ∷ []) (sym same.taken); unasked = same.asked h.on_link ∙ h.unasked }

  pub input_alone : InputAlone p x c → InputAlone p y c
  input_alone h = record { on_link = h.on_link; taken = same.taken ∙ h.taken ∙ sym same.offered; asked = same.asked h.on_link ∙ h.asked }

  pub message_passes : {m : List ℕ} → MessagePasses p x c m → MessagePasses p y c m
  message_passes {m} h = record { on_link = h.on_link; offered = same.offered ∙ h.offered ∙ ap (λ z. z ++ m ∷ []) (sym same.taken); asked = same.asked h.on_link ∙ h.asked }

  pub is_unfinished : IsUnfinished p x c → IsUnfinished p y c
  is_unfinished h = record { on_link = h.on_link; taken = same.taken ∙ h.taken ∙ sym same.offered; unfinished = ap length same.offered ∙ h.unfinished ∙ ap suc (sym same.finished) }

  pub end_is_to_come : EndIsToCome p x c → EndIsToCome p y c
  end_is_to_come (inl h) = inl (is_unfinished h)
  end_is_to_come (inr h) = inr (h.0, message_passes h.1)

pub have_passed : {p : Plan} {x y : NetworkState} {c : ℕ} {passed : List (List ℕ)} → SameAt p x y c → HavePassed p x c passed → HavePassed p y c passed
have_passed same h = record {
  passing = λ m k. h.passing m (message_passes (back same) k) ∙ ap (λ z. z ++ m ∷ []) (sym same.taken);
  taken = λ none. h.taken (λ m k. none m (message_passes same k)) ∙ sym same.taken;
}

-- ---- a part that does not change

-- of channel c, what is known of a process that waits on it
pub record Carries (p : Plan) (x y : NetworkState) (here both : State) (c : ℕ) : Type 0 where
  pub ending : 1 ≤ total (is_out c) (waiting here.rest) → EndIsToCome p x c → EndIsToCome p y c
  pub coming : (m : List ℕ) → 1 ≤ total (is_in c) (waiting here.rest) → MessagePasses p x c m → MessagePasses p y c m
  pub offered : (m : List ℕ) → 1 ≤ total (is_out c) (waiting both.rest) → OutputAlone p x c m → OutputAlone p y c m
  pub asked : 1 ≤ total (is_in c) (waiting both.rest) → InputAlone p x c → InputAlone p y c
  pub ended : 1 ≤ total (is_out c) (waiting both.rest) → EndIsToCome p y c → EndIsToCome p x c
  pub came : (m : List ℕ) → 1 ≤ total (is_in c) (waiting both.rest) → MessagePasses p y c m → MessagePasses p x c m

pub carries_same : {p : Plan} {x y : NetworkState} {here both : State} {c : ℕ} → SameAt p x y c → Carries p x y here both c
carries_same same = record {
  ending = λ l h. end_is_to_come same h;
  coming = λ m l h. message_passes same h;
  offered = λ m l h. output_alone same h;
  asked = λ l h. input_alone same h;
  ended = λ l h. end_is_to_come (back same) h;
  came = λ m l h. message_passes (back same) h;
}

-- it does not wait on the channel
pub carries_none : {p : Plan} {x y : NetworkState} {here both : State} {c : ℕ} → total (is_out c) (waiting here.rest) ≡ 0 → total (is_in c) (waiting here.rest) ≡ 0 → total (is_out c) (waiting both.rest) ≤ total (is_out c) (waiting here.rest) →
    total (is_in c) (waiting both.rest) ≤ total (is_in c) (waiting here.rest) → Carries p x y here both c
carries_none a b f g = record {
  ending = λ l h. absurd (omega arith);
  coming = λ m l h. absurd (omega arith);
  offered = λ m l h. absurd (omega arith);
  asked = λ l h. absurd (omega arith);
  ended = λ l h. absurd (omega arith);
  came = λ m l h. absurd (omega arith);
}

pub one_there : (c i : ℕ) (z : State) → Contains (waiting z.rest) (output i c) → 1 ≤ total (is_out c) (waiting z.rest)
one_there c i z k = let l = total_there (is_out c) (waiting z.rest) (output i c) k in let e : is_out c (output i c) ≡ 1 = ap (λ b. if b then 1 else 0) (eq-eqb c c refl) in omega arith

pub one_asked : (c i : ℕ) (z : State) → Contains (waiting z.rest) (input i c) → 1 ≤ total (is_in c) (waiting z.rest)
one_asked c i z k = let l = total_there (is_in c) (waiting z.rest) (input i c) k in let e : is_in c (input i c) ≡ 1 = ap (λ b. if b then 1 else 0) (eq-eqb c c refl) in omega arith

pub carried : {p : Plan} {x y : NetworkState} {here there : State} (q : PartMeans p x here there) → ((c : ℕ) → Carries p x y here q.both c) → PartMeans p y here there
carried q f = record {
  both = q.both;
  ahead = ahead_map q.ahead (λ c l h. (f c).ending l h) (λ c m l h. (f c).coming m l h);
  all_came = record {
    ends = λ c h i k. q.all_came.ends c ((f c).ended (one_there c i q.both k) h) i k;
    messages = λ c m h i k. q.all_came.messages c m ((f c).came m (one_asked c i q.both k) h) i k;
  };
  alone = alone_map q.alone (λ c m l h. (f c).offered m l h) (λ c l h. (f c).asked l h);
  waits_not = q.waits_not;
}
