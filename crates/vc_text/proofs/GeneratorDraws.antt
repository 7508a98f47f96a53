-- What the generators of a run have given.
use Rattle.std.proofs.Common.{◌≡◌, ◌==◌, ℕ, zero, suc, ◌+◌, ◌<◌, ◌≤◌, List, length, [], ◌∷◌, ◌++◌, Bool, true, false, if◌then◌else◌, slice_get, Some, inl, inr, refl, sym, ap, ◌∙◌, subst, arith, append-nil, eq-eqb, ne_eqb}
use Rattle.std.proofs.lemmas.Bool.{cases_eq, cases_lt}
use Rattle.std.proofs.lemmas.List.Concat.{flat_map-append}
use Rattle.rand_pcg.specs.Lcg.{Lcg}
use Rattle.rand_pcg.specs.Pcg.{pcg32}
use Rattle.vc_actor.specs.declared.act.Act.{Act}
use Rattle.vc_actor.specs.declared.act.Act.TheVariants.{Take}
use Rattle.vc_actor.specs.Turns.{TakesNone, actors}
use Rattle.vc_core.specs.declared.event.Event.{Event}
use Rattle.vc_plan.specs.declared.plan.Plan.{Plan}
use Rattle.vc_threads.proofs.Steps.{draws_then}
use Rattle.vc_threads.specs.Runs.{Draws, generator}
use Rattle.vc_text.specs.Private.Generators.{DrawsFor, HaveGiven, generator_of}
use Rattle.vc_text.specs.Takes.{HasWordsOf, take_word, word_by, words_by}
use Rattle.vc_text.specs.declared.generators.Generators.{Generators}

-- one thing more
get_before : {X : Type 0} (xs : List X) (x : X) (k : ℕ) → k < length xs → slice_get (xs ++ x ∷ []) k ≡ slice_get xs k
get_before [] x k less = absurd (omega (arith, less))
get_before (y ∷ ys) x zero less = refl
get_before (y ∷ ys) x (suc k) less = get_before ys x k (omega (arith, less))

get_last : {X : Type 0} (xs : List X) (x : X) (k : ℕ) → k ≡ length xs → slice_get (xs ++ x ∷ []) k ≡ Some x
get_last [] x zero is = refl
get_last [] x (suc k) is = absurd (omega (arith, is))
get_last (y ∷ ys) x zero is = absurd (omega (arith, is))
get_last (y ∷ ys) x (suc k) is = get_last ys x k (omega (arith, is))

-- one generator more, at its beginning
pub generators_begun : (ws : List Lcg) (n : ℕ) → length ws ≡ n → ((k : ℕ) → k < n → slice_get ws k ≡ Some (generator 0 k)) →
    (k : ℕ) → k < n + 1 → slice_get (ws ++ generator 0 n ∷ []) k ≡ Some (generator 0 k)
generators_begun ws n count begun k less = elim (cases_lt k n) [
  | inl sooner ↦ get_before ws (generator 0 n) k (omega (arith, count, sooner)) ∙ begun k sooner
  | inr later ↦ (let at : n ≡ k = omega (arith, less, later) in get_last ws (generator 0 n) k (omega (arith, count, at)) ∙ ap (λ i. Some (generator 0 i)) at)
]

-- at first none has given a word
pub none_given : (p : Plan) (generators : Generators) → actors p ≤ 64 → ((k : ℕ) → k < 64 → generator_of generators k ≡ Some (generator 0 k)) → HaveGiven p [] generators
none_given p generators few begin = λ k less. (generator 0 k, begin k (omega (arith, few, less)), refl)

-- a run's words are those that were given
pub given_words : (p : Plan) (es : List Event) (generators : Generators) → HaveGiven p es generators → HasWordsOf p 0 es
given_words p es generators given = λ k less. (let g = given k less in (g.0, g.2))

-- an act that is no take has no word
no_word : (a : Act) → TakesNone a → take_word a ≡ []
no_word (Take link word) none = absurd none
no_word a none = refl

none_either : (b : Bool) (ws : List ℕ) → ws ≡ [] → (if b then ws else []) ≡ []
none_either true ws none = none
none_either false ws none = refl

-- one event more has its word behind those before it
words_more : (k : ℕ) (es : List Event) (e : Event) → words_by k (es ++ e ∷ []) ≡ words_by k es ++ (word_by k e ++ [])
words_more k es e = flat_map-append (word_by k) es (e ∷ [])

-- an event without a word for actor k
silent : (k : ℕ) (es : List Event) (e : Event) → word_by k e ≡ [] → words_by k (es ++ e ∷ []) ≡ words_by k es
silent k es e none = words_more k es e ∙ ap (λ ws. words_by k es ++ (ws ++ [])) none ∙ append-nil (words_by k es)

-- an event that is no take
pub given_still : (p : Plan) (es : List Event) (e : Event) (a b : Generators) → TakesNone e.act → b.words ≡ a.words → HaveGiven p es a → HaveGiven p (es ++ e ∷ []) b
given_still p es e a b none same given = λ k less. (
    let g = given k less in
    let quiet = silent k es e (none_either (e.actor == k) (take_word e.act) (no_word e.act none)) in
    (g.0, ap (λ ws. slice_get ws.items k) same ∙ g.1, subst (λ ws. Draws (generator 0 k) ws g.0) (sym quiet) g.2))

-- a take, with the next word of its actor
pub given_take : (p : Plan) (es : List Event) (a b : Generators) (actor link word : ℕ) → DrawsFor a actor word b → HaveGiven p es a →
    HaveGiven p (es ++ record { actor = actor; act = Take link word } ∷ []) b
given_take p es a b actor link word draws given = λ k less.
    let g = given k less in
    let e : Event = record { actor = actor; act = Take link word } in
    elim (cases_eq k actor) [
      | inl is ↦ (let own = draws.its g.0 (subst (λ z. generator_of a z ≡ Some g.0) is g.1) in
          let its : word_by k e ≡ word ∷ [] = ap (λ b. if b then word ∷ [] else []) (eq-eqb actor k (sym is)) in
          let more : words_by k (es ++ e ∷ []) ≡ words_by k es ++ word ∷ [] = words_more k es e ∙ ap (λ ws. words_by k es ++ (ws ++ [])) its in (
            (pcg32 g.0).1,
            subst (λ z. generator_of b z ≡ Some (pcg32 g.0).1) (sym is) own.1,
            subst (λ ws. Draws (generator 0 k) ws (pcg32 g.0).1) (sym more) (draws_then (generator 0 k) g.0 (pcg32 g.0).1 (words_by k es) (word ∷ []) g.2 (own.0, refl)),
          ))
      | inr ne ↦ (let none : word_by k e ≡ [] = ap (λ b. if b then word ∷ [] else []) (ne_eqb actor k (λ s. ne (sym s))) in
          (g.0, draws.others k ne ∙ g.1, subst (λ ws. Draws (generator 0 k) ws g.0) (sym (silent k es e none)) g.2))
    ]
