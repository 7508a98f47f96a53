-- What a process keeps over other variables: its depth, its messages, the names that fit, its uses of channels.
use Rattle.std.proofs.Common.{◌≡◌, ℕ, ◌-◌, ◌<◌, Bool, true, false, ◌&&◌, ◌||◌, nat_lt, refl, ap, ap₂, ◌∙◌, List, [], ◌∷◌, ◌++◌, length, slice_get, Some}
use Rattle.std.proofs.lemmas.Bool.{lt-ltb, ltb-true}
use Rattle.vc_plan.proofs.Limits.{both}
use Rattle.vc_process.proofs.Held.{held_there}
use Rattle.vc_process.specs.ChannelUses.{channel_uses, guard_uses, inputs_on, uses_of_all, uses_of_bodies, uses_of_branches}
use Rattle.vc_process.specs.Lawful.{inputs, inputs_all, inputs_branches, inputs_guards, outputs, outputs_all, outputs_branches, outputs_guards}
use Rattle.vc_process.specs.Limits.{exp_fits, exp_within, given_fits, given_in_length, given_kind, given_within, holds_kind, is_kind}
use Rattle.vc_process.specs.ProcessLimits.{branches_depth_within, branches_exps_within, branches_in_length, branches_names_fit, depth_within, exps_within, guards_depth_within, guards_exps_within, guards_in_length, guards_names_fit, in_length, names_fit, parts_depth_within, parts_exps_within, parts_in_length, parts_names_fit, test_fits, test_within}
use Rattle.vc_process.specs.Renaming.{renamed_exp, renamed_test, renamed_given, Renamed, skips, never, assigns, outputs as sends, inputs as receives, stops, in_turn, abreast, one_of, again, counts, chooses, AllRenamed, no_part, parts, BranchesRenamed, no_branch, branches, GuardsRenamed, no_guard, guards}
use Rattle.vc_process.specs.Syntax.{Exp, Number, Variable, Binary, SizeOf, Test, Constant, Compare, Both, Either, Negate, Literal, Contents, Filled, Given, Whole, Bytes, Proc, Procs, Branches, Guards}
use Rattle.vc_process.specs.Usage.{just}
use Rattle.vc_process.specs.declared.value_kind.ValueKind.{ValueKind}
use Rattle.vc_process.specs.declared.value_kind.ValueKind.TheVariants as of

pub both_true : {a b : Bool} → a ≡ true → b ≡ true → (a && b) ≡ true
both_true {a = true} e f = f
both_true {a = false} e f = e

module _ (ρ : ℕ → ℕ) where
  exp_within_kept : (a : Exp) (n : ℕ) → exp_within (renamed_exp ρ a) n ≡ exp_within a n
  exp_within_kept (Binary op a b) n = ap₂ (λ x y. nat_lt 0 n && (x && y)) (exp_within_kept a (n - 1)) (exp_within_kept b (n - 1))
  exp_within_kept a n = refl

  given_within_kept : (a : Given) (n : ℕ) → given_within (renamed_given ρ a) n ≡ given_within a n
  given_within_kept (Whole a) n = exp_within_kept a n
  given_within_kept (Bytes a) n = refl

  test_within_kept : (a : Test) (n : ℕ) → test_within (renamed_test ρ a) n ≡ test_within a n
  test_within_kept (Constant b) n = refl
  test_within_kept (Compare rel a b) n = ap₂ (λ x y. nat_lt 0 n && (x && y)) (exp_within_kept a (n - 1)) (exp_within_kept b (n - 1))
  test_within_kept (Both a b) n = ap₂ (λ x y. nat_lt 0 n && (x && y)) (test_within_kept a (n - 1)) (test_within_kept b (n - 1))
  test_within_kept (Either a b) n = ap₂ (λ x y. nat_lt 0 n && (x && y)) (test_within_kept a (n - 1)) (test_within_kept b (n - 1))
  test_within_kept (Negate a) n = ap (λ x. nat_lt 0 n && x) (test_within_kept a (n - 1))

  given_length_kept : (a : Given) → given_in_length (renamed_given ρ a) ≡ given_in_length a
  given_length_kept (Whole a) = refl
  given_length_kept (Bytes (Literal xs)) = refl
  given_length_kept a = refl

  given_kind_kept : (a : Given) → given_kind (renamed_given ρ a) ≡ given_kind a
  given_kind_kept (Whole a) = refl
  given_kind_kept (Bytes a) = refl

  mutual
    pub depth_kept : {p q : Proc} → Renamed ρ p q → (n : ℕ) → depth_within q n ≡ depth_within p n
    depth_kept skips n = refl
    depth_kept never n = refl
    depth_kept assigns n = refl
    depth_kept sends n = refl
    depth_kept receives n = refl
    depth_kept stops n = refl
    depth_kept (in_turn h) n = ap (λ x. nat_lt 0 n && x) (parts_depth_kept h (n - 1))
    depth_kept (abreast h) n = ap (λ x. nat_lt 0 n && x) (parts_depth_kept h (n - 1))
    depth_kept (one_of h) n = ap (λ x. nat_lt 0 n && x) (branches_depth_kept h (n - 1))
    depth_kept (again h) n = ap (λ x. nat_lt 0 n && x) (depth_kept h (n - 1))
    depth_kept (counts h) n = ap (λ x. nat_lt 0 n && x) (depth_kept h (n - 1))
    depth_kept (chooses h) n = ap (λ x. nat_lt 0 n && x) (guards_depth_kept h (n - 1))

    parts_depth_kept : {ps qs : Procs} → AllRenamed ρ ps qs → (n : ℕ) → parts_depth_within qs n ≡ parts_depth_within ps n
    parts_depth_kept no_part n = refl
    parts_depth_kept (parts h g) n = ap₂ (λ x y. x && y) (depth_kept h n) (parts_depth_kept g n)

    branches_depth_kept : {bs ds : Branches} → BranchesRenamed ρ bs ds → (n : ℕ) → branches_depth_within ds n ≡ branches_depth_within bs n
    branches_depth_kept no_branch n = refl
    branches_depth_kept (branches h g) n = ap₂ (λ x y. x && y) (depth_kept h n) (branches_depth_kept g n)

    guards_depth_kept : {gs hs : Guards} → GuardsRenamed ρ gs hs → (n : ℕ) → guards_depth_within hs n ≡ guards_depth_within gs n
    guards_depth_kept no_guard n = refl
    guards_depth_kept (guards h g) n = ap₂ (λ x y. x && y) (depth_kept h n) (guards_depth_kept g n)

  mutual
    pub exps_kept : {p q : Proc} → Renamed ρ p q → (n : ℕ) → exps_within q n ≡ exps_within p n
    exps_kept skips n = refl
    exps_kept never n = refl
    exps_kept (assigns {a = a}) n = given_within_kept a n
    exps_kept (sends {a = a}) n = given_within_kept a n
    exps_kept receives n = refl
    exps_kept stops n = refl
    exps_kept (in_turn h) n = parts_exps_kept h n
    exps_kept (abreast h) n = parts_exps_kept h n
    exps_kept (one_of h) n = branches_exps_kept h n
    exps_kept (again {b = b} h) n = ap₂ (λ x y. x && y) (test_within_kept b n) (exps_kept h n)
    exps_kept (counts {a = a} {n = k} h) n = ap₂ (λ x y. x && y) (ap₂ (λ x y. x && y) (exp_within_kept a n) (exp_within_kept k n)) (exps_kept h n)
    exps_kept (chooses h) n = guards_exps_kept h n

    parts_exps_kept : {ps qs : Procs} → AllRenamed ρ ps qs → (n : ℕ) → parts_exps_within qs n ≡ parts_exps_within ps n
    parts_exps_kept no_part n = refl
    parts_exps_kept (parts h g) n = ap₂ (λ x y. x && y) (exps_kept h n) (parts_exps_kept g n)

    branches_exps_kept : {bs ds : Branches} → BranchesRenamed ρ bs ds → (n : ℕ) → branches_exps_within ds n ≡ branches_exps_within bs n
    branches_exps_kept no_branch n = refl
    branches_exps_kept (branches {b = b} h g) n = ap₂ (λ x y. x && y) (ap₂ (λ x y. x && y) (test_within_kept b n) (exps_kept h n)) (branches_exps_kept g n)

    guards_exps_kept : {gs hs : Guards} → GuardsRenamed ρ gs hs → (n : ℕ) → guards_exps_within hs n ≡ guards_exps_within gs n
    guards_exps_kept no_guard n = refl
    guards_exps_kept (guards {b = b} h g) n = ap₂ (λ x y. x && y) (ap₂ (λ x y. x && y) (test_within_kept b n) (exps_kept h n)) (guards_exps_kept g n)

  mutual
    pub length_kept : {p q : Proc} → Renamed ρ p q → in_length q ≡ in_length p
    length_kept skips = refl
    length_kept never = refl
    length_kept (assigns {a = a}) = given_length_kept a
    length_kept (sends {a = a}) = given_length_kept a
    length_kept receives = refl
    length_kept stops = refl
    length_kept (in_turn h) = parts_length_kept h
    length_kept (abreast h) = parts_length_kept h
    length_kept (one_of h) = branches_length_kept h
    length_kept (again h) = length_kept h
    length_kept (counts h) = length_kept h
    length_kept (chooses h) = guards_length_kept h

    parts_length_kept : {ps qs : Procs} → AllRenamed ρ ps qs → parts_in_length qs ≡ parts_in_length ps
    parts_length_kept no_part = refl
    parts_length_kept (parts h g) = ap₂ (λ x y. x && y) (length_kept h) (parts_length_kept g)

    branches_length_kept : {bs ds : Branches} → BranchesRenamed ρ bs ds → branches_in_length ds ≡ branches_in_length bs
    branches_length_kept no_branch = refl
    branches_length_kept (branches h g) = ap₂ (λ x y. x && y) (length_kept h) (branches_length_kept g)

    guards_length_kept : {gs hs : Guards} → GuardsRenamed ρ gs hs → guards_in_length hs ≡ guards_in_length gs
    guards_length_kept no_guard = refl
    guards_length_kept (guards h g) = ap₂ (λ x y. x && y) (length_kept h) (guards_length_kept g)

  -- it outputs and inputs on the same channels
  mutual
    pub outputs_kept : {p q : Proc} → Renamed ρ p q → (c : ℕ) → outputs q c ≡ outputs p c
    outputs_kept skips c = refl
    outputs_kept never c = refl
    outputs_kept assigns c = refl
    outputs_kept sends c = refl
    outputs_kept receives c = refl
    outputs_kept stops c = refl
    outputs_kept (in_turn h) c = parts_outputs_kept h c
    outputs_kept (abreast h) c = parts_outputs_kept h c
    outputs_kept (one_of h) c = branches_outputs_kept h c
    outputs_kept (again h) c = outputs_kept h c
    outputs_kept (counts h) c = outputs_kept h c
    outputs_kept (chooses h) c = guards_outputs_kept h c

    pub parts_outputs_kept : {ps qs : Procs} → AllRenamed ρ ps qs → (c : ℕ) → outputs_all qs c ≡ outputs_all ps c
    parts_outputs_kept no_part c = refl
    parts_outputs_kept (parts h g) c = ap₂ (λ x y. x || y) (outputs_kept h c) (parts_outputs_kept g c)

    branches_outputs_kept : {bs ds : Branches} → BranchesRenamed ρ bs ds → (c : ℕ) → outputs_branches ds c ≡ outputs_branches bs c
    branches_outputs_kept no_branch c = refl
    branches_outputs_kept (branches h g) c = ap₂ (λ x y. x || y) (outputs_kept h c) (branches_outputs_kept g c)

    guards_outputs_kept : {gs hs : Guards} → GuardsRenamed ρ gs hs → (c : ℕ) → outputs_guards hs c ≡ outputs_guards gs c
    guards_outputs_kept no_guard c = refl
    guards_outputs_kept (guards h g) c = ap₂ (λ x y. x || y) (outputs_kept h c) (guards_outputs_kept g c)

  mutual
    pub inputs_kept : {p q : Proc} → Renamed ρ p q → (c : ℕ) → inputs q c ≡ inputs p c
    inputs_kept skips c = refl
    inputs_kept never c = refl
    inputs_kept assigns c = refl
    inputs_kept sends c = refl
    inputs_kept receives c = refl
    inputs_kept stops c = refl
    inputs_kept (in_turn h) c = parts_inputs_kept h c
    inputs_kept (abreast h) c = parts_inputs_kept h c
    inputs_kept (one_of h) c = branches_inputs_kept h c
    inputs_kept (again h) c = inputs_kept h c
    inputs_kept (counts h) c = inputs_kept h c
    inputs_kept (chooses h) c = guards_inputs_kept h c

    pub parts_inputs_kept : {ps qs : Procs} → AllRenamed ρ ps qs → (c : ℕ) → inputs_all qs c ≡ inputs_all ps c
    parts_inputs_kept no_part c = refl
    parts_inputs_kept (parts h g) c = ap₂ (λ x y. x || y) (inputs_kept h c) (parts_inputs_kept g c)

    branches_inputs_kept : {bs ds : Branches} → BranchesRenamed ρ bs ds → (c : ℕ) → inputs_branches ds c ≡ inputs_branches bs c
    branches_inputs_kept no_branch c = refl
    branches_inputs_kept (branches h g) c = ap₂ (λ x y. x || y) (inputs_kept h c) (branches_inputs_kept g c)

    guards_inputs_kept : {gs hs : Guards} → GuardsRenamed ρ gs hs → (c : ℕ) → inputs_guards hs c ≡ inputs_guards gs c
    guards_inputs_kept no_guard c = refl
    guards_inputs_kept (guards {c = d} h g) c = ap₂ (λ x y. x || y) (ap (λ x. just d c || x) (inputs_kept h c)) (guards_inputs_kept g c)

  -- where each variable has the kind that it had
  module _ (kinds big : List ValueKind) (same : (v : ℕ) → v < length kinds → slice_get big (ρ v) ≡ slice_get kinds v) (there : (v : ℕ) → v < length kinds → ρ v < length big) (n : ℕ) where
    holds_kept : (v : ℕ) (k : ValueKind) → holds_kind kinds v k ≡ true → holds_kind big (ρ v) k ≡ true
    holds_kept v k h = ap (λ o. is_kind o k) (same v (held_there kinds v k h)) ∙ h

    exp_fits_kept : (a : Exp) → exp_fits a kinds ≡ true → exp_fits (renamed_exp ρ a) big ≡ true
    exp_fits_kept (Number z) h = refl
    exp_fits_kept (Variable v) h = holds_kept v of.Int h
    exp_fits_kept (SizeOf v) h = holds_kept v of.Bytes h
    exp_fits_kept (Binary op a b) h = let r = both (exp_fits a kinds) (exp_fits b kinds) h in both_true (exp_fits_kept a r.0) (exp_fits_kept b r.1)

    given_fits_kept : (a : Given) → given_fits a kinds ≡ true → given_fits (renamed_given ρ a) big ≡ true
    given_fits_kept (Whole a) h = exp_fits_kept a h
    given_fits_kept (Bytes (Literal xs)) h = refl
    given_fits_kept (Bytes (Contents v)) h = holds_kept v of.Bytes h
    given_fits_kept (Bytes (Filled b m)) h = refl

    test_fits_kept : (a : Test) → test_fits a kinds ≡ true → test_fits (renamed_test ρ a) big ≡ true
    test_fits_kept (Constant b) h = refl
    test_fits_kept (Compare rel a b) h = let r = both (exp_fits a kinds) (exp_fits b kinds) h in both_true (exp_fits_kept a r.0) (exp_fits_kept b r.1)
    test_fits_kept (Both a b) h = let r = both (test_fits a kinds) (test_fits b kinds) h in both_true (test_fits_kept a r.0) (test_fits_kept b r.1)
    test_fits_kept (Either a b) h = let r = both (test_fits a kinds) (test_fits b kinds) h in both_true (test_fits_kept a r.0) (test_fits_kept b r.1)
    test_fits_kept (Negate a) h = test_fits_kept a h

    is_there : (v : ℕ) → nat_lt v (length kinds) ≡ true → nat_lt (ρ v) (length big) ≡ true
    is_there v h = lt-ltb (ρ v) (length big) (there v (ltb-true v (length kinds) h))

    mutual
      pub names_kept : {p q : Proc} → Renamed ρ p q → names_fit p kinds n ≡ true → names_fit q big n ≡ true
      names_kept skips h = refl
      names_kept never h = refl
      names_kept (assigns {v = v} {a = a}) h =
          let r = both (holds_kind kinds v (given_kind a)) (given_fits a kinds) h in
          both_true (ap (holds_kind big (ρ v)) (given_kind_kept a) ∙ holds_kept v (given_kind a) r.0) (given_fits_kept a r.1)
      names_kept (sends {c = c} {a = a}) h = let r = both (nat_lt c n) (given_fits a kinds) h in both_true r.0 (given_fits_kept a r.1)
      names_kept (receives {c = c} {v = v}) h = let r = both (nat_lt c n) (nat_lt v (length kinds)) h in both_true r.0 (is_there v r.1)
      names_kept stops h = h
      names_kept (in_turn g) h = parts_names_kept g h
      names_kept (abreast g) h = parts_names_kept g h
      names_kept (one_of g) h = branches_names_kept g h
      names_kept (again {b = b} {p = p} g) h = let r = both (test_fits b kinds) (names_fit p kinds n) h in both_true (test_fits_kept b r.0) (names_kept g r.1)
      names_kept (counts {v = v} {a = a} {n = k} {p = p} g) h =
          let r = both (holds_kind kinds v of.Int && exp_fits a kinds && exp_fits k kinds) (names_fit p kinds n) h in
          let s = both (holds_kind kinds v of.Int && exp_fits a kinds) (exp_fits k kinds) r.0 in
          let t = both (holds_kind kinds v of.Int) (exp_fits a kinds) s.0 in
          both_true (both_true (both_true (holds_kept v of.Int t.0) (exp_fits_kept a t.1)) (exp_fits_kept k s.1)) (names_kept g r.1)
      names_kept (chooses g) h = guards_names_kept g h

      parts_names_kept : {ps qs : Procs} → AllRenamed ρ ps qs → parts_names_fit ps kinds n ≡ true → parts_names_fit qs big n ≡ true
      parts_names_kept no_part h = refl
      parts_names_kept (parts {p = p} {ps = ps} g f) h = let r = both (names_fit p kinds n) (parts_names_fit ps kinds n) h in both_true (names_kept g r.0) (parts_names_kept f r.1)

      branches_names_kept : {bs ds : Branches} → BranchesRenamed ρ bs ds → branches_names_fit bs kinds n ≡ true → branches_names_fit ds big n ≡ true
      branches_names_kept no_branch h = refl
      branches_names_kept (branches {b = b} {p = p} {bs = bs} g f) h =
          let r = both (test_fits b kinds && names_fit p kinds n) (branches_names_fit bs kinds n) h in
          let s = both (test_fits b kinds) (names_fit p kinds n) r.0 in
          both_true (both_true (test_fits_kept b s.0) (names_kept g s.1)) (branches_names_kept f r.1)

      guards_names_kept : {gs hs : Guards} → GuardsRenamed ρ gs hs → guards_names_fit gs kinds n ≡ true → guards_names_fit hs big n ≡ true
      guards_names_kept no_guard h = refl
      guards_names_kept (guards {b = b} {c = c} {v = v} {p = p} {gs = gs} g f) h =
          let r = both (test_fits b kinds && nat_lt c n && nat_lt v (length kinds) && names_fit p kinds n) (guards_names_fit gs kinds n) h in
          let s = both (test_fits b kinds && nat_lt c n && nat_lt v (length kinds)) (names_fit p kinds n) r.0 in
          let t = both (test_fits b kinds && nat_lt c n) (nat_lt v (length kinds)) s.0 in
          let u = both (test_fits b kinds) (nat_lt c n) t.0 in
          both_true (both_true (both_true (both_true (test_fits_kept b u.0) u.1) (is_there v t.1)) (names_kept g s.1)) (guards_names_kept f r.1)

    -- each use of a channel is as it was
    input_kept : (c v : ℕ) → nat_lt v (length kinds) ≡ true → inputs_on c (slice_get big (ρ v)) ≡ inputs_on c (slice_get kinds v)
    input_kept c v h = ap (inputs_on c) (same v (ltb-true v (length kinds) h))

    mutual
      pub uses_kept : {p q : Proc} → Renamed ρ p q → names_fit p kinds n ≡ true → channel_uses big q ≡ channel_uses kinds p
      uses_kept (sends {c = c} {a = a}) h = ap (λ k. record { chan = c; is_output = true; kind = Some k } ∷ []) (given_kind_kept a)
      uses_kept (receives {c = c} {v = v}) h = ap (λ u. u ∷ []) (input_kept c v (both (nat_lt c n) (nat_lt v (length kinds)) h).1)
      uses_kept (in_turn g) h = parts_uses_kept g h
      uses_kept (abreast g) h = parts_uses_kept g h
      uses_kept (one_of g) h = branches_uses_kept g h
      uses_kept (again {b = b} {p = p} g) h = uses_kept g (both (test_fits b kinds) (names_fit p kinds n) h).1
      uses_kept (counts {v = v} {a = a} {n = k} {p = p} g) h = uses_kept g (both (holds_kind kinds v of.Int && exp_fits a kinds && exp_fits k kinds) (names_fit p kinds n) h).1
      uses_kept (chooses g) h = ap₂ (λ x y. x ++ y) (guard_uses_kept g h) (bodies_uses_kept g h)
      uses_kept x h = refl

      parts_uses_kept : {ps qs : Procs} → AllRenamed ρ ps qs → parts_names_fit ps kinds n ≡ true → uses_of_all big qs ≡ uses_of_all kinds ps
      parts_uses_kept no_part h = refl
      parts_uses_kept (parts {p = p} {ps = ps} g f) h = let r = both (names_fit p kinds n) (parts_names_fit ps kinds n) h in ap₂ (λ x y. x ++ y) (uses_kept g r.0) (parts_uses_kept f r.1)

      branches_uses_kept : {bs ds : Branches} → BranchesRenamed ρ bs ds → branches_names_fit bs kinds n ≡ true → uses_of_branches big ds ≡ uses_of_branches kinds bs
      branches_uses_kept no_branch h = refl
      branches_uses_kept (branches {b = b} {p = p} {bs = bs} g f) h =
          let r = both (test_fits b kinds && names_fit p kinds n) (branches_names_fit bs kinds n) h in
          ap₂ (λ x y. x ++ y) (uses_kept g (both (test_fits b kinds) (names_fit p kinds n) r.0).1) (branches_uses_kept f r.1)

      guard_uses_kept : {gs hs : Guards} → GuardsRenamed ρ gs hs → guards_names_fit gs kinds n ≡ true → guard_uses big hs ≡ guard_uses kinds gs
      guard_uses_kept no_guard h = refl
      guard_uses_kept (guards {b = b} {c = c} {v = v} {p = p} {gs = gs} g f) h =
          let r = both (test_fits b kinds && nat_lt c n && nat_lt v (length kinds) && names_fit p kinds n) (guards_names_fit gs kinds n) h in
          let s = both (test_fits b kinds && nat_lt c n && nat_lt v (length kinds)) (names_fit p kinds n) r.0 in
          let t = both (test_fits b kinds && nat_lt c n) (nat_lt v (length kinds)) s.0 in
          ap₂ (λ x y. x ∷ y) (input_kept c v t.1) (guard_uses_kept f r.1)

      bodies_uses_kept : {gs hs : Guards} → GuardsRenamed ρ gs hs → guards_names_fit gs kinds n ≡ true → uses_of_bodies big hs ≡ uses_of_bodies kinds gs
      bodies_uses_kept no_guard h = refl
      bodies_uses_kept (guards {b = b} {c = c} {v = v} {p = p} {gs = gs} g f) h =
          let r = both (test_fits b kinds && nat_lt c n && nat_lt v (length kinds) && names_fit p kinds n) (guards_names_fit gs kinds n) h in
          let s = both (test_fits b kinds && nat_lt c n && nat_lt v (length kinds)) (names_fit p kinds n) r.0 in
          ap₂ (λ x y. x ++ y) (uses_kept g s.1) (bodies_uses_kept f r.1)
