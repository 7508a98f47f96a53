-- Jobs whose ends have links of their own, and how the jobs are numbered.
use Rattle.std.proofs.Common.{◌≡◌, ◌≢◌, ℕ, ◌+◌, ◌<◌, ◌⊎◌, Bool, true, false, if◌then◌else◌, List, [], ◌∷◌, ◌++◌, length, map, get_or, inl, inr, ap, sym, subst, ◌∙◌, arith, length-append, suc, append_assoc}
use Rattle.std.specs.List.{All, AllByRecursion}
use Rattle.std.proofs.lemmas.Bool.{cases_order}
use Rattle.std.proofs.lemmas.List.{map-append, get_or-map, get_or_append_left}
use Rattle.std.proofs.Math.Seq.{get_or-append_seam}
use Rattle.std.proofs.lemmas.List.Elements.{All-push}
use Rattle.std.proofs.lemmas.Simd.{map-map}
use Rattle.vc_actor.specs.ActorView.{Acting}
use Rattle.vc_threads.specs.Private.Threads.{AreNumbered, Who, actor_in, who}
use Rattle.vc_threads.specs.declared.spawn.Job.{Job}
use Rattle.vc_threads.specs.Wires.{Distinct, out_links, in_links}
use Rattle.vc_threads.specs.Works.{Out, In}
use Rattle.vc_threads.proofs.Goings.{length_links}

module _ {X : Type 0} where
  -- one link more, which no other has
  pub distinct_more : (xs : List (ℕ × X)) (x : ℕ × X) → Distinct (map (λ o. o.0) xs) → All (λ o. o.0 ≢ x.0) xs → Distinct (map (λ o. o.0) (xs ++ x ∷ []))
  distinct_more xs x dist fresh =
      subst Distinct (sym (map-append (λ (o : ℕ × X). o.0) xs (x ∷ []))) (λ i j less within same.
      let ls = map (λ (o : ℕ × X). o.0) xs in
      let n : length ls ≡ length xs = length_links xs in
      let s = length-append ls (x.0 ∷ []) in
      let left = get_or_append_left ls (x.0 ∷ []) 0 i (omega (arith, s)) in
      elim (order j (length ls) (omega (arith, s))) [
        | inl inside ↦ dist i j less inside (sym left ∙ (same ∙ get_or_append_left ls (x.0 ∷ []) 0 j inside))
        | inr last ↦
            let m : i < length xs = omega arith in
            fresh i x m (sym (get_or-map (λ (o : ℕ × X). o.0) xs i x 0 m) ∙ (sym left ∙ (same ∙ (ap (λ k. get_or (ls ++ x.0 ∷ []) k 0) last ∙ get_or-append_seam ls x.0 [] 0))))
      ])
    where
      order : (j n : ℕ) → j < n + 1 → (j < n) ⊎ (j ≡ n)
      order j n l = elim (cases_order j n) [
        | inl e ↦ inr e
        | inr o ↦ elim o [ inl less ↦ inl less | inr more ↦ absurd (omega arith) ]
      ]

-- none, and one more
pub none_apart : Distinct []
none_apart i j l m = absurd (omega arith)

pub outs_more : (os os' : List Out) (x : Out) (b : Bool) → Distinct (out_links os) → All (λ o. o.0 ≢ x.0) os → os' ≡ (if b then os ++ x ∷ [] else os) → Distinct (out_links os')
outs_more os os' x true d fresh e = subst (λ w. Distinct (out_links w)) (sym e) (distinct_more os x d fresh)
outs_more os os' x false d fresh e = subst (λ w. Distinct (out_links w)) (sym e) d

pub low_more : (os os' : List Out) (x : Out) (b : Bool) → All (λ (o : Out). o.0 < 32) os → x.0 < 32 → os' ≡ (if b then os ++ x ∷ [] else os) → All (λ (o : Out). o.0 < 32) os'
low_more os os' x true f low e = subst (All (λ (o : Out). o.0 < 32)) (sym e) (All-push (λ (o : Out). o.0 < 32) os x f low)
low_more os os' x false f low e = subst (All (λ (o : Out). o.0 < 32)) (sym e) f

pub ins_more : (is is' : List In) (x : In) (b : Bool) → Distinct (in_links is) → All (λ i. i.0 ≢ x.0) is → is' ≡ (if b then is ++ x ∷ [] else is) → Distinct (in_links is')
ins_more is is' x true d fresh e = subst (λ w. Distinct (in_links w)) (sym e) (distinct_more is x d fresh)
ins_more is is' x false d fresh e = subst (λ w. Distinct (in_links w)) (sym e) d

pub numbered_push : (n : ℕ) (ws : List Who) (w : Who) → AreNumbered n ws → w.id ≡ n + length ws → AreNumbered n (ws ++ w ∷ [])
numbered_push n [] w are is = (omega (arith, is), tt)
numbered_push n (v ∷ vs) w are is = (are.0, numbered_push (n + 1) vs w are.1 (omega (arith, is)))

pub by_recursion : {X : Type 0} (P : X → Type 0) (xs : List X) → All P xs → AllByRecursion P xs
by_recursion P [] h = tt
by_recursion P (x ∷ xs) h = (h 0 x (omega arith), by_recursion P xs (λ k d l. h (suc k) d (omega arith)))

-- one actor more has its job
pub actors_step : (js js' : List Job) (job : Job) {x : Acting} {rest rest' all : List Acting} → js' ≡ js ++ job ∷ [] → actor_in job ≡ x → rest ≡ x ∷ rest' → map actor_in js ++ rest ≡ all → map actor_in js' ++ rest' ≡ all
actors_step js js' job {x} {rest} {rest'} {all} pushed is steps before =
    ap (λ ys. map actor_in ys ++ rest') pushed ∙ (ap (λ ys. ys ++ rest') (map-append actor_in js (job ∷ [])) ∙ (append_assoc (map actor_in js) (actor_in job ∷ []) rest'
    ∙ (ap (λ a. map actor_in js ++ a ∷ rest') is ∙ (ap (λ ys. map actor_in js ++ ys) (sym steps) ∙ before))))

-- jobs of the same actors
pub actors_kept : (old new : List Job) → map who new ≡ map who old → map actor_in new ≡ map actor_in old
actors_kept old new e = sym (map-map (λ (w : Who). w.actor) who new) ∙ (ap (map (λ (w : Who). w.actor)) e ∙ map-map (λ (w : Who). w.actor) who old)
