-- Steps whose new state is written as a change at one actor and one way.
use Rattle.std.proofs.Common.{◌≡◌, ℕ, List, [], ◌∷◌, ◌++◌, refl, sym, ap, subst, ◌∙◌, append-nil, if◌then◌else◌, ◌==◌, eq-eqb, ne_eqb}
use Rattle.vc_network.specs.Actors.{Steps, Network, Step}
use Rattle.vc_network.specs.Actors.Label.{Own, Takes, Puts}
use Rattle.vc_packets.specs.Functions.{put}
use Rattle.vc_machine.proofs.Basics.{put-same, put-other, every_put}

pub own_step : {S A I : Type 0} (L : Steps S A I) (s : Network S I) (n : ℕ) (act : A) (x : S) → L n (s.state n) (Own act) x → Step L s n (Own act) (record s { state = put s.state n x })
own_step L s n act x h =
    record { local = subst (L n (s.state n) (Own act)) (sym (put-same s.state n x)) h; others = λ m ne. put-other s.state n x m ne; ways = λ v. sym (append-nil (s.way v)) }

pub take_step : {S A I : Type 0} (L : Steps S A I) (s : Network S I) (n : ℕ) (act : A) (w : ℕ) (p : I) (rest : List I) (x : S) → s.way w ≡ p ∷ rest → L n (s.state n) (Takes act w p) x →
    Step L s n (Takes act w p) (record { state = put s.state n x; way = put s.way w rest })
take_step {I} L s n act w p rest x front h =
    record {
      local = subst (L n (s.state n) (Takes act w p)) (sym (put-same s.state n x)) h;
      others = λ m ne. put-other s.state n x m ne;
      ways = every_put (λ v xs. (if w == v then p ∷ [] else []) ++ xs ≡ s.way v ++ []) s.way w rest
          (ap (λ b. (if b then p ∷ [] else []) ++ rest) (eq-eqb w w refl) ∙ sym front ∙ sym (append-nil (s.way w)))
          (λ v ne. ap (λ b. (if b then p ∷ [] else []) ++ s.way v) (ne_eqb w v (λ e. ne (sym e))) ∙ sym (append-nil (s.way v)));
    }

pub put_step : {S A I : Type 0} (L : Steps S A I) (s : Network S I) (n : ℕ) (act : A) (w : ℕ) (p : I) (x : S) → L n (s.state n) (Puts act w p) x →
    Step L s n (Puts act w p) (record { state = put s.state n x; way = put s.way w (s.way w ++ p ∷ []) })
put_step {I} L s n act w p x h =
    record {
      local = subst (L n (s.state n) (Puts act w p)) (sym (put-same s.state n x)) h;
      others = λ m ne. put-other s.state n x m ne;
      ways = every_put (λ v xs. [] ++ xs ≡ s.way v ++ (if w == v then p ∷ [] else [])) s.way w (s.way w ++ p ∷ [])
          (ap (λ b. s.way w ++ (if b then p ∷ [] else [])) (sym (eq-eqb w w refl)))
          (λ v ne. sym (append-nil (s.way v)) ∙ ap (λ b. s.way v ++ (if b then p ∷ [] else [])) (sym (ne_eqb w v (λ e. ne (sym e)))));
    }
