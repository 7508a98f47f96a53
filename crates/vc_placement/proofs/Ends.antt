-- A process that outputs or inputs on a channel has a use of it.
use Rattle.std.proofs.Common.{◌≡◌, ℕ, zero, suc, Bool, true, false, refl, sym, List, [], ◌∷◌, ◌++◌, slice_get, Some, inl, inr, ◌⊎◌, eqb-true, true≢false}
use Rattle.vc_occam.proofs.Sites.{either}
use Rattle.vc_process.specs.ChannelUses.{channel_uses, guard_uses, uses_of_all, uses_of_bodies, uses_of_branches}
use Rattle.vc_process.specs.Lawful.{inputs, inputs_all, inputs_branches, inputs_guards, outputs, outputs_all, outputs_branches, outputs_guards}
use Rattle.vc_process.specs.Syntax.{Proc, Output, Input, StopChan, SEQ, PAR, IF, WHILE, COUNT, ALT, Procs, no_parts, part, Branches, no_branches, branch, Guards, no_guards, guard}
use Rattle.vc_process.specs.Usage.{◌∪◌, just}
use Rattle.vc_process.specs.declared.channel_use.ChannelUse.{ChannelUse}
use Rattle.vc_process.specs.declared.value_kind.ValueKind.{ValueKind}

-- among the uses is an output on the channel, or an input
abbrev pub HasUse : Bool → ℕ → List ChannelUse → Type 0
HasUse o c us = (k : ℕ) × (u : ChannelUse) × (slice_get us k ≡ Some u) × (u.chan ≡ c) × (u.is_output ≡ o)

has_left : (o : Bool) (c : ℕ) (us vs : List ChannelUse) → HasUse o c us → HasUse o c (us ++ vs)
has_left o c [] vs (k, u, e, d, i) = absurd cc
has_left o c (x ∷ us) vs (zero, u, e, d, i) = (zero, u, e, d, i)
has_left o c (x ∷ us) vs (suc k, u, e, d, i) = let r = has_left o c us vs (k, u, e, d, i) in (suc r.0, r.1, r.2, r.3, r.4)

has_right : (o : Bool) (c : ℕ) (us vs : List ChannelUse) → HasUse o c vs → HasUse o c (us ++ vs)
has_right o c [] vs h = h
has_right o c (x ∷ us) vs h = let r = has_right o c us vs h in (suc r.0, r.1, r.2, r.3, r.4)

module _ (kinds : List ValueKind) (c : ℕ) where
  none : {A : Type 0} → false ≡ true → A
  none h = absurd (true≢false (sym h))

  mutual
    pub output_use : (p : Proc) → outputs p c ≡ true → HasUse true c (channel_uses kinds p)
    output_use (Output i d a) h = (zero, _, refl, sym (eqb-true c d h), refl)
    output_use (SEQ i ps) h = parts_output_use ps h
    output_use (PAR i ps) h = parts_output_use ps h
    output_use (IF i bs) h = branches_output_use bs h
    output_use (WHILE i t p) h = output_use p h
    output_use (COUNT i v a n p) h = output_use p h
    output_use (ALT i gs) h = has_right true c (guard_uses kinds gs) (uses_of_bodies kinds gs) (bodies_output_use gs h)
    output_use p h = none h

    parts_output_use : (ps : Procs) → outputs_all ps c ≡ true → HasUse true c (uses_of_all kinds ps)
    parts_output_use no_parts h = none h
    parts_output_use (part p ps) h = elim (either (outputs p c) (outputs_all ps c) h) [
      | inl e ↦ has_left true c (channel_uses kinds p) (uses_of_all kinds ps) (output_use p e)
      | inr e ↦ has_right true c (channel_uses kinds p) (uses_of_all kinds ps) (parts_output_use ps e)
    ]

    branches_output_use : (bs : Branches) → outputs_branches bs c ≡ true → HasUse true c (uses_of_branches kinds bs)
    branches_output_use no_branches h = none h
    branches_output_use (branch t p bs) h = elim (either (outputs p c) (outputs_branches bs c) h) [
      | inl e ↦ has_left true c (channel_uses kinds p) (uses_of_branches kinds bs) (output_use p e)
      | inr e ↦ has_right true c (channel_uses kinds p) (uses_of_branches kinds bs) (branches_output_use bs e)
    ]

    bodies_output_use : (gs : Guards) → outputs_guards gs c ≡ true → HasUse true c (uses_of_bodies kinds gs)
    bodies_output_use no_guards h = none h
    bodies_output_use (guard t d v p gs) h = elim (either (outputs p c) (outputs_guards gs c) h) [
      | inl e ↦ has_left true c (channel_uses kinds p) (uses_of_bodies kinds gs) (output_use p e)
      | inr e ↦ has_right true c (channel_uses kinds p) (uses_of_bodies kinds gs) (bodies_output_use gs e)
    ]

  mutual
    pub input_use : (p : Proc) → inputs p c ≡ true → HasUse false c (channel_uses kinds p)
    input_use (Input i d v) h = (zero, _, refl, sym (eqb-true c d h), refl)
    input_use (StopChan i d) h = (zero, _, refl, sym (eqb-true c d h), refl)
    input_use (SEQ i ps) h = parts_input_use ps h
    input_use (PAR i ps) h = parts_input_use ps h
    input_use (IF i bs) h = branches_input_use bs h
    input_use (WHILE i t p) h = input_use p h
    input_use (COUNT i v a n p) h = input_use p h
    input_use (ALT i gs) h = elim (guards_input_use gs h) [
      | inl e ↦ has_left false c (guard_uses kinds gs) (uses_of_bodies kinds gs) e
      | inr e ↦ has_right false c (guard_uses kinds gs) (uses_of_bodies kinds gs) e
    ]
    input_use p h = none h

    parts_input_use : (ps : Procs) → inputs_all ps c ≡ true → HasUse false c (uses_of_all kinds ps)
    parts_input_use no_parts h = none h
    parts_input_use (part p ps) h = elim (either (inputs p c) (inputs_all ps c) h) [
      | inl e ↦ has_left false c (channel_uses kinds p) (uses_of_all kinds ps) (input_use p e)
      | inr e ↦ has_right false c (channel_uses kinds p) (uses_of_all kinds ps) (parts_input_use ps e)
    ]

    branches_input_use : (bs : Branches) → inputs_branches bs c ≡ true → HasUse false c (uses_of_branches kinds bs)
    branches_input_use no_branches h = none h
    branches_input_use (branch t p bs) h = elim (either (inputs p c) (inputs_branches bs c) h) [
      | inl e ↦ has_left false c (channel_uses kinds p) (uses_of_branches kinds bs) (input_use p e)
      | inr e ↦ has_right false c (channel_uses kinds p) (uses_of_branches kinds bs) (branches_input_use bs e)
    ]

    guards_input_use : (gs : Guards) → inputs_guards gs c ≡ true → HasUse false c (guard_uses kinds gs) ⊎ HasUse false c (uses_of_bodies kinds gs)
    guards_input_use no_guards h = none h
    guards_input_use (guard t d v p gs) h = elim (either ((just d ∪ inputs p) c) (inputs_guards gs c) h) [
      | inl e ↦ elim (either (just d c) (inputs p c) e) [
        | inl f ↦ inl (zero, _, refl, sym (eqb-true c d f), refl)
        | inr f ↦ inr (has_left false c (channel_uses kinds p) (uses_of_bodies kinds gs) (input_use p f))
      ]
      | inr e ↦ elim (guards_input_use gs e) [
        | inl f ↦ (let r = f in inl (suc r.0, r.1, r.2, r.3, r.4))
        | inr f ↦ inr (has_right false c (channel_uses kinds p) (uses_of_bodies kinds gs) f)
      ]
    ]
