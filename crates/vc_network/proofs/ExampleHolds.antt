-- The example is accepted, and the exchange runs in it.
use Rattle.std.proofs.Common.{◌≡◌, ℕ, zero, suc, ◌<◌, Bool, true, false, [], ◌∷◌, refl, sym, ap, subst, ◌∙◌, arith}
use Rattle.vc_machine.specs.Paths.{Port, AtNode, AtSwitch, Delivers}
use Rattle.vc_network.specs.Plan.{near, net_of, net_end, wire, port_of, Way, Inside, end_of, virtual_link, IsAccepted}
use Rattle.vc_network.specs.Example.{example}

side_at : Port → Bool
side_at (AtNode zero link) = true
side_at (AtNode (suc n) link) = false
side_at (AtSwitch k link) = true

side_is : (p : Bool) → side_at (port_of (wire example 0) p) ≡ p
unfolding side_at
side_is true = refl
side_is false = refl

ports : (i j : ℕ) (p q : Bool) → i < 1 → j < 1 → port_of (wire example i) p ≡ port_of (wire example j) q → (i ≡ j) × (p ≡ q)
ports zero zero p q a b e = (refl, sym (side_is p) ∙ ap side_at e ∙ side_is q)
ports zero (suc j) p q a b e = absurd (omega arith)
ports (suc i) j p q a b e = absurd (omega arith)

apart : AtNode 0 0 ≡ AtNode 1 0 → ⊥
apart e = absurd (cc)

link_of : (v : ℕ) (ab : Bool) → Way 0 true ≡ Way v ab → v ≡ 0
link_of v ab e = let q : 0 ≡ v = cc in sym q

no_way : (n v : ℕ) (ab : Bool) → Inside n ≡ Way v ab → ⊥
no_way n v ab e = absurd (cc)

pub accepted : IsAccepted example
accepted = record {
  one_port = ports;
  sends = elim [ zero ↦ elim [ true ↦ λ h. (0, (omega arith, refl)) | false ↦ λ h. (1, (omega arith, refl)) ] | suc v ↦ λ side h. absurd (omega arith) ];
  groups = λ k header first last link e a b. absurd (cc);
  one_end = λ v u p q a b. ends v u p q (omega arith) (omega arith);
  on_link = elim [ zero ↦ λ v ab e. (let q = link_of v ab e in omega arith) | suc c ↦ λ v ab e. absurd (no_way 2 v ab e) ];
  one_channel = elim [ zero ↦ elim [ zero ↦ λ v ab e f. refl | suc d ↦ λ v ab e f. absurd (no_way 2 v ab f) ] | suc c ↦ λ d v ab e f. absurd (no_way 2 v ab e) ];
  delivers = elim [ zero ↦ λ w. elim [ true ↦ λ h o. there w o.0 o.1 | false ↦ λ h o. back w o.0 o.1 ] | suc v ↦ λ w side h o. absurd (omega arith) ];
  headers = elim [ zero ↦ elim [ true ↦ λ h. omega arith | false ↦ λ h. omega arith ] | suc v ↦ λ side h. absurd (omega arith) ];
  sixth = λ k link i h. omega arith;
  ranges = λ k link i e. absurd (cc);
}
  where
    there : (w : ℕ) → w < 2 → near example w ≡ AtNode 0 0 → Delivers (net_of example) 32 w (1 ∷ []) (net_end example (virtual_link example 0).b)
    there zero h e = (refl, refl)
    there (suc zero) h e = absurd (apart (sym e))
    there (suc (suc w)) h e = absurd (omega arith)

    back : (w : ℕ) → w < 2 → near example w ≡ AtNode 1 0 → Delivers (net_of example) 32 w (1 ∷ []) (net_end example (virtual_link example 0).a)
    back zero h e = absurd (apart e)
    back (suc zero) h e = (refl, refl)
    back (suc (suc w)) h e = absurd (omega arith)

    open_ends : (p q : Bool) → (end_of (virtual_link example 0) p).node ≡ (end_of (virtual_link example 0) q).node → p ≡ q
    open_ends true true e = refl
    open_ends false false e = refl
    open_ends true false e = absurd (omega arith)
    open_ends false true e = absurd (omega arith)

    ends : (v u : ℕ) (p q : Bool) → v ≡ 0 → u ≡ 0 → (end_of (virtual_link example v) p).node ≡ (end_of (virtual_link example u) q).node → (end_of (virtual_link example v) p).block ≡ (end_of (virtual_link example u) q).block → (v ≡ u) × (p ≡ q)
    ends v u p q a b e f = (a ∙ sym b, open_ends p q (subst (λ z. (end_of (virtual_link example z) p).node ≡ (end_of (virtual_link example 0) q).node) a (subst (λ z. (end_of (virtual_link example v) p).node ≡ (end_of (virtual_link example z) q).node) b e)))
