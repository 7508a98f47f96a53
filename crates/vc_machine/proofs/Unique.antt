-- One stack, one end: a packet belongs to at most one channel.
use Rattle.std.proofs.Common.{◌≡◌, ℕ, zero, suc, ◌/◌, ◌%◌, ◌<◌, ◌≤◌, inl, inr, List, [], ◌∷◌, ◌++◌, refl, sym, ap, subst, ◌∙◌, arith, Option, Some, None}
use Rattle.std.proofs.lemmas.Bool.{cases_eq}
use Rattle.vc_packets.specs.Headers.{spelled}
use Rattle.vc_machine.specs.Paths.{Port, AtNode, AtSwitch, End, Net, IsWellAt, Delivers, IsAccepted}
use Rattle.vc_switch.specs.Forward.{behind}
use Rattle.vc_machine.proofs.Basics.{header_same, header_rest_same}
use Rattle.vc_machine.proofs.Cover.{leaves_follow, onward, at_node}

-- more fuel
well_more : (net : Net) (F G : ℕ → List ℕ → Type 0) (q : Port) (s : List ℕ) (e : End) → ((w : ℕ) (t : List ℕ) → F w t → G w t) → IsWellAt net F q s e → IsWellAt net G q s e
well_more net F G (AtNode n i) s e h d = d
well_more net F G (AtSwitch n i) s e h d = λ v draw. ((d v draw).0, ((d v draw).1.0, λ w t l. h w t ((d v draw).1.1 w t l)))

pub more_fuel : (net : Net) (k w : ℕ) (s : List ℕ) (e : End) → Delivers net k w s e → Delivers net (suc k) w s e
more_fuel net zero w s e d = well_more net (λ w2 s2. ⊥) (λ w2 s2. Delivers net zero w2 s2 e) (net.far w) s e (λ w2 t h. absurd h) d
more_fuel net (suc k) w s e d = well_more net (λ w2 s2. Delivers net k w2 s2 e) (λ w2 s2. Delivers net (suc k) w2 s2 e) (net.far w) s e (λ w2 t h. more_fuel net k w2 t e h) d

pub fuel_to : (net : Net) (n k w : ℕ) (s : List ℕ) (e : End) → k ≤ n → Delivers net k w s e → Delivers net n w s e
fuel_to net zero k w s e h d = let z : k ≡ zero = omega arith in subst (λ j. Delivers net j w s e) z d
fuel_to net (suc n) k w s e h d =
    elim (cases_eq k (suc n)) [
      | inl same ↦ subst (λ j. Delivers net j w s e) same d
      | inr ne ↦ more_fuel net n w s e (fuel_to net n k w s e (omega arith) d)
    ]

pub spelled_behind_both : (v : Option ℕ) (s r t q : List ℕ) → spelled s ++ r ≡ spelled t ++ q → spelled (behind v s) ++ r ≡ spelled (behind v t) ++ q
spelled_behind_both None s r t q e = e
spelled_behind_both (Some v) s r t q e = ap (λ k. v / 256 ∷ v % 256 ∷ k) e

abbrev pub SameEnd : End → End → List ℕ → List ℕ → Type 0
SameEnd e f r q = (e.node ≡ f.node) × (e.block ≡ f.block) × (r ≡ q)

same_at_node : (n : ℕ) (s t r q : List ℕ) (e f : End) → (n ≡ e.node) × (s ≡ e.block ∷ []) → (n ≡ f.node) × (t ≡ f.block ∷ []) → spelled s ++ r ≡ spelled t ++ q → SameEnd e f r q
same_at_node n s t r q e f a b h =
    let g : spelled (e.block ∷ []) ++ r ≡ spelled (f.block ∷ []) ++ q = ap (λ k. spelled k ++ r) (sym a.1) ∙ h ∙ ap (λ k. spelled k ++ q) b.1 in
    (sym a.0 ∙ b.0, header_same e.block f.block r q g, header_rest_same e.block f.block r q g)

pub same_end : (net : Net) → IsAccepted net → (bound j k w : ℕ) (s t r q : List ℕ) (e f : End) → j < bound → Delivers net j w s e → Delivers net k w t f →
    spelled s ++ r ≡ spelled t ++ q → SameEnd e f r q
same_end net acc zero j k w s t r q e f less a b h = absurd (omega arith)
same_end net acc (suc bound) j k w s t r q e f less a b h = go (net.far w) refl (λ x x2 u o y. same_end net acc bound x x2 u o y)
  where
    go : (port : Port) → net.far w ≡ port →
        ((x x2 u : ℕ) (o y r q : List ℕ) (e f : End) → x < bound → Delivers net x u o e → Delivers net x2 u y f → spelled o ++ r ≡ spelled y ++ q → SameEnd e f r q) →
        SameEnd e f r q
    go (AtNode n i) far ih = same_at_node n s t r q e f (at_node net j w s e n i far a) (at_node net k w t f n i far b) h
    go (AtSwitch n i) far ih =
        let v = (acc.ranges n i).0 in
        let draw = (acc.ranges n i).1 in
        let o = onward net j w s e n i v far draw a in
        let u = onward net k w t f n i v far draw b in
        let g = leaves_follow net n (behind v s) r o.way o.stack (behind v t) q u.way u.stack o.leaves u.leaves (spelled_behind_both v s r t q h) in
        let x = o.each u.way g.after g.leaves in
        let y = u.each u.way u.stack u.leaves in
        ih x.0 y.0 u.way g.after u.stack r q e f (let z = x.1 in omega arith) x.2 y.2 (sym g.body)
