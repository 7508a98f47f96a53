-- Of the first offence of a process there are two places.
use Rattle.std.proofs.Common.{◌≡◌, ℕ, suc, ◌<◌, ◌==◌, ◌⊎◌, Bool, true, false, ◌&&◌, ◌||◌, if◌then◌else◌, refl, ap, ◌∙◌, List, [], ◌∷◌, ◌++◌, Option, Some, None, inl, inr, arith}
use Rattle.std.specs.Prelude.{option_map}
use Rattle.std.specs.Option.{is_some, option_or}
use Rattle.std.proofs.lemmas.Bool.{false≢true, or_left, or_right}
use Rattle.std.proofs.lemmas.Map.Views.{exact_unsigned_eq}
use Rattle.std.proofs.Math.Bool.{or-true}
use Rattle.vc_process.specs.Lawful.{FirstOfAll, FirstOfBranches, FirstOfGuards, FirstOffence, Offence, Offends, Shared, With, at_count, at_par, by_input, by_output, by_variable, channel, in_alt, in_count, in_if, in_par, in_seq, in_while, inputs, later_branch, later_guard, later_part, outputs, this_branch, this_guard, this_part, variable}
use Rattle.vc_process.specs.Syntax.{Proc, Assign, Output, SEQ, PAR, IF, WHILE, COUNT, ALT, Procs, no_parts, part, Branches, no_branches, branch, Guards, no_guards, guard}
use Rattle.vc_process.specs.Usage.{Set, changes, changes_all, changes_branches, changes_guards, in_exp, in_given, in_test, uses, uses_all, uses_branches, uses_guards}
use Rattle.vc_reader.specs.declared.path.Step.{Step}
use Rattle.vc_reader.specs.declared.path.Step.TheVariants.{Field, Index}
use Rattle.vc_reader.specs.declared.word.Word.{Word}
use Rattle.vc_reader.specs.declared.word.Word.TheVariants as word
use Rattle.vc_explain.specs.declared.offence.Named.{Named}
use Rattle.vc_explain.specs.declared.offence.PartPlace.{PartPlace}
use Rattle.vc_explain.specs.declared.wanted.Wanted.{Wanted}
use Rattle.vc_explain.specs.declared.wanted.Wanted.TheVariants as wanted
use Rattle.vc_explain.specs.Laws.{Names, OffencesAreFound}
use Rattle.vc_explain.specs.Offences.{both, channel_clash, clash, first_beside, first_in, in_par as in_par_at, in_part, index_change, offence, own_offence, variable_clash, with_another}
use Rattle.vc_explain.specs.Uses.{first_of, place, within, within_branches, within_guards, within_parts}
use Rattle.vc_explain.proofs.Coverage.{some_append, some_or}
use Rattle.vc_explain.proofs.Sets.{change_place, input_place, output_place, use_place}

some_left : {B : Type 0} (x y : Option B) → is_some x ≡ true → is_some (option_or x y) ≡ true
some_left x y h = some_or x y ∙ ap (λ b. b || is_some y) h

some_right : {B : Type 0} (x y : Option B) → is_some y ≡ true → is_some (option_or x y) ≡ true
some_right x y h = some_or x y ∙ ap (λ b. is_some x || b) h ∙ or-true (is_some x)

some_map : {A B : Type 0} (f : A → B) (x : Option A) → is_some x ≡ true → is_some (option_map f x) ≡ true
some_map f None h = h
some_map f (Some a) h = refl

-- one of the parts has k in this set
abbrev pub Has : (Proc → Set) → ℕ → Procs → Type 0
Has f k no_parts = ⊥
Has f k (part p ps) = (f p k ≡ true) ⊎ Has f k ps

two_ways : (a b c d : Bool) → ((a && b) || (c && d)) ≡ true → ((a ≡ true) × (b ≡ true)) ⊎ ((c ≡ true) × (d ≡ true))
two_ways true true c d h = inl (refl, refl)
two_ways true false true true h = inr (refl, refl)
two_ways true false true false h = absurd (false≢true h)
two_ways true false false d h = absurd (false≢true h)
two_ways false b true true h = inr (refl, refl)
two_ways false b true false h = absurd (false≢true h)
two_ways false b false d h = absurd (false≢true h)

-- in one of two, unless a test leaves the first one out
unless : {B : Type 0} (b : Bool) (x y : Option B) → (b ≡ true → is_some y ≡ true) → (b ≡ false → is_some x ≡ true) → is_some (option_or (if b then None else x) y) ≡ true
unless true x y skipped kept = skipped refl
unless false x y skipped kept = some_left x y (kept refl)

pub same_number : (v : ℕ) → (v == v) ≡ true
same_number v = grind arith

module _ (one other : Wanted) (f g : Proc → Set) (k : ℕ) (f_place : (p : Proc) (at : List Step) → is_some (place one [] p at) ≡ f p k) (g_place : (p : Proc) (at : List Step) → is_some (place other [] p at) ≡ g p k) (within_g : (p : Proc) → f p k ≡ true → g p k ≡ true) where
  with_first : (p : Proc) (ps : Procs) → With f g k p ps → g p k ≡ true
  with_first p no_parts h = absurd h
  with_first p (part q ps) (inl h) = elim (two_ways (f p k) (g q k) (g p k) (f q k) h) [ inl e ↦ within_g p e.0 | inr e ↦ e.0 ]
  with_first p (part q ps) (inr h) = with_first p ps h

  with_later : (p : Proc) (ps : Procs) → With f g k p ps → Has g k ps
  with_later p no_parts h = h
  with_later p (part q ps) (inl h) = inl (elim (two_ways (f p k) (g q k) (g p k) (f q k) h) [ inl e ↦ e.1 | inr e ↦ within_g q e.1 ])
  with_later p (part q ps) (inr h) = inr (with_later p ps h)

  with_either : (p : Proc) (ps : Procs) → With f g k p ps → Has f k (part p ps)
  with_either p no_parts h = absurd h
  with_either p (part q ps) (inl h) = elim (two_ways (f p k) (g q k) (g p k) (f q k) h) [ inl e ↦ inl e.0 | inr e ↦ inr (inl e.1) ]
  with_either p (part q ps) (inr h) = elim (with_either p ps h) [ inl e ↦ inl e | inr e ↦ inr (inr e) ]

  shared_first : (ps : Procs) → Shared f g k ps → Has f k ps
  shared_first no_parts h = h
  shared_first (part p ps) (inl h) = with_either p ps h
  shared_first (part p ps) (inr h) = inr (shared_first ps h)

  found_in : (at : List Step) (i : ℕ) (ps : Procs) → Has f k ps → is_some (first_in one at i ps) ≡ true
  found_in at i no_parts h = absurd h
  found_in at i (part p ps) (inl h) =
      let x = place one [] p (in_par_at at i) in
      some_left (option_map (in_part i) x) (first_in one at (suc i) ps) (some_map (in_part i) x (f_place p (in_par_at at i) ∙ h))
  found_in at i (part p ps) (inr h) = some_right (option_map (in_part i) (place one [] p (in_par_at at i))) (first_in one at (suc i) ps) (found_in at (suc i) ps h)

  -- behind part j
  found_behind : (at : List Step) (i j : ℕ) (ps : Procs) → j < i → Has g k ps → is_some (first_beside other j at i ps) ≡ true
  found_behind at i j no_parts l h = absurd h
  found_behind at i j (part p ps) l (inl h) =
      unless (i == j) (place other [] p (in_par_at at i)) (first_beside other j at (suc i) ps) (λ e. absurd (let s : i ≡ j = exact_unsigned_eq i j e in omega arith)) (λ e. g_place p (in_par_at at i) ∙ h)
  found_behind at i j (part p ps) l (inr h) = some_right (if i == j then None else place other [] p (in_par_at at i)) (first_beside other j at (suc i) ps) (found_behind at (suc i) j ps (omega arith) h)

  -- of two parts one is not part j
  found_beside : (at : List Step) (i j : ℕ) (ps : Procs) → Shared f g k ps → is_some (first_beside other j at i ps) ≡ true
  found_beside at i j no_parts h = absurd h
  found_beside at i j (part p ps) (inl h) =
      unless (i == j) (place other [] p (in_par_at at i)) (first_beside other j at (suc i) ps) (λ e. found_behind at (suc i) j ps (let s : i ≡ j = exact_unsigned_eq i j e in omega arith) (with_later p ps h)) (λ e. g_place p (in_par_at at i) ∙ with_first p ps h)
  found_beside at i j (part p ps) (inr h) = some_right (if i == j then None else place other [] p (in_par_at at i)) (first_beside other j at (suc i) ps) (found_beside at (suc i) j ps h)

  paired : (at : List Step) (ps : Procs) (o : Option PartPlace) → is_some o ≡ true → Shared f g k ps → is_some (with_another other at ps o) ≡ true
  paired at ps None h s = h
  paired at ps (Some x) h s = some_map (both x.path) (first_beside other x.part at 0 ps) (found_beside at 0 x.part ps s)

  clashes : (at : List Step) (ps : Procs) → Shared f g k ps → is_some (clash one other at ps) ≡ true
  clashes at ps s = paired at ps (first_in one at 0 ps) (found_in at 0 ps (shared_first ps s)) s

itself : (f : Proc → Set) (k : ℕ) (p : Proc) → f p k ≡ true → f p k ≡ true
itself f k p h = h

in_one : (a b c : Bool) → (a ≡ true → c ≡ true) → (b ≡ true → c ≡ true) → (a || b) ≡ true → c ≡ true
in_one true b c f g h = f refl
in_one false b c f g h = g h

module _ (k : ℕ) where
  mutual
    changed : (p : Proc) → changes p k ≡ true → uses p k ≡ true
    changed (Assign i v a) h = or_left (k == v) (in_given a k) h
    changed (Output i c a) h = absurd (false≢true h)
    changed (SEQ i ps) h = changed_parts ps h
    changed (PAR i ps) h = changed_parts ps h
    changed (IF i bs) h = changed_branches bs h
    changed (WHILE i t p) h = or_right (in_test t k) (uses p k) (changed p h)
    changed (COUNT i v a n p) h =
        let own = (k == v) || (in_exp a k || in_exp n k) in
        in_one (k == v) (changes p k) (own || uses p k) (λ e. or_left own (uses p k) (or_left (k == v) (in_exp a k || in_exp n k) e)) (λ e. or_right own (uses p k) (changed p e)) h
    changed (ALT i gs) h = changed_guards gs h
    changed p h = h

    changed_parts : (ps : Procs) → changes_all ps k ≡ true → uses_all ps k ≡ true
    changed_parts no_parts h = h
    changed_parts (part p ps) h =
        in_one (changes p k) (changes_all ps k) (uses p k || uses_all ps k) (λ e. or_left (uses p k) (uses_all ps k) (changed p e)) (λ e. or_right (uses p k) (uses_all ps k) (changed_parts ps e)) h

    changed_branches : (bs : Branches) → changes_branches bs k ≡ true → uses_branches bs k ≡ true
    changed_branches no_branches h = h
    changed_branches (branch t p bs) h =
        let own = in_test t k || uses p k in
        in_one (changes p k) (changes_branches bs k) (own || uses_branches bs k) (λ e. or_left own (uses_branches bs k) (or_right (in_test t k) (uses p k) (changed p e))) (λ e. or_right own (uses_branches bs k) (changed_branches bs e)) h

    changed_guards : (gs : Guards) → changes_guards gs k ≡ true → uses_guards gs k ≡ true
    changed_guards no_guards h = h
    changed_guards (guard t c v p gs) h =
        let own = ((k == v) || in_test t k) || uses p k in
        in_one ((k == v) || changes p k) (changes_guards gs k) (own || uses_guards gs k)
        (λ e. or_left own (uses_guards gs k) (in_one (k == v) (changes p k) own (λ d. or_left ((k == v) || in_test t k) (uses p k) (or_left (k == v) (in_test t k) d)) (λ d. or_right ((k == v) || in_test t k) (uses p k) (changed p d)) e))
        (λ e. or_right own (uses_guards gs k) (changed_guards gs e)) h

parts_offend : (n : Named) (at : List Step) (ps : Procs) (x : Offence) → Offends ps x → Names n x → is_some (option_or (channel_clash n.chan at ps) (variable_clash n.var at ps)) ≡ true
parts_offend n at ps (channel c) (by_output least) names =
    let here = clashes (wanted.Output c) (wanted.Output c) outputs outputs c (output_place c) (output_place c) (itself outputs c) at ps least.0 in
    some_left (channel_clash n.chan at ps) (variable_clash n.var at ps) (ap (λ o. is_some (channel_clash o at ps)) names ∙ some_left (clash (wanted.Output c) (wanted.Output c) at ps) (clash (wanted.Input c) (wanted.Input c) at ps) here)
parts_offend n at ps (channel c) (by_input none least) names =
    let here = clashes (wanted.Input c) (wanted.Input c) inputs inputs c (input_place c) (input_place c) (itself inputs c) at ps least.0 in
    some_left (channel_clash n.chan at ps) (variable_clash n.var at ps) (ap (λ o. is_some (channel_clash o at ps)) names ∙ some_right (clash (wanted.Output c) (wanted.Output c) at ps) (clash (wanted.Input c) (wanted.Input c) at ps) here)
parts_offend n at ps (variable v) (by_variable none nor least) names =
    let here = clashes (wanted.Change v) (wanted.Use v) changes uses v (change_place v) (use_place v) (changed v) at ps least.0 in
    some_right (channel_clash n.chan at ps) (variable_clash n.var at ps) (ap (λ o. is_some (variable_clash o at ps)) names ∙ here)

index_changes : (n : Named) (at : List Step) (v : ℕ) (p : Proc) → n.var ≡ Some v → changes p v ≡ true → is_some (index_change n.var at v p) ≡ true
index_changes n at v p names h =
    let inner = at ++ Field word.For ∷ Index 3 ∷ [] in
    let x = option_map (both (at ++ Field word.For ∷ Index 0 ∷ [])) (place (wanted.Change v) [] p inner) in
    ap (λ o. is_some (index_change o at v p)) names ∙ ap (λ b. is_some (if b then x else None)) (same_number v) ∙ some_map (both (at ++ Field word.For ∷ Index 0 ∷ [])) (place (wanted.Change v) [] p inner) (change_place v p inner ∙ h)

module _ (n : Named) where
  mutual
    found : (p : Proc) (x : Offence) (at : List Step) → FirstOffence p x → Names n x → is_some (offence n p at) ≡ true
    found (SEQ i ps) x at (in_seq h) names = found_parts word.Seq at 0 ps x h names
    found (PAR i ps) x at (at_par h) names = some_left (own_offence n (PAR i ps, at)) (first_of (own_offence n) (within_parts word.Par at 0 ps)) (parts_offend n at ps x h names)
    found (PAR i ps) x at (in_par side h) names = some_right (own_offence n (PAR i ps, at)) (first_of (own_offence n) (within_parts word.Par at 0 ps)) (found_parts word.Par at 0 ps x h names)
    found (IF i bs) x at (in_if h) names = found_branches at 0 bs x h names
    found (WHILE i t p) x at (in_while h) names = found p x (at ++ Field word.While ∷ Index 1 ∷ []) h names
    found (COUNT i v a k p) x at (at_count h) names = some_left (own_offence n (COUNT i v a k p, at)) (first_of (own_offence n) (within p (at ++ Field word.For ∷ Index 3 ∷ []))) (index_changes n at v p names h)
    found (COUNT i v a k p) x at (in_count none h) names = some_right (own_offence n (COUNT i v a k p, at)) (first_of (own_offence n) (within p (at ++ Field word.For ∷ Index 3 ∷ []))) (found p x (at ++ Field word.For ∷ Index 3 ∷ []) h names)
    found (ALT i gs) x at (in_alt h) names = found_guards at 0 gs x h names
    found p x at h names = elim h [ ]

    found_parts : (l : Word) (at : List Step) (k : ℕ) (ps : Procs) (x : Offence) → FirstOfAll ps x → Names n x → is_some (first_of (own_offence n) (within_parts l at k ps)) ≡ true
    found_parts l at k no_parts x h names = elim h [ ]
    found_parts l at k (part p ps) x (this_part h) names =
        let inner = at ++ Field l ∷ Index k ∷ [] in
        some_append (own_offence n) (within p inner) (within_parts l at (suc k) ps) ∙ ap (λ b. b || is_some (first_of (own_offence n) (within_parts l at (suc k) ps))) (found p x inner h names)
    found_parts l at k (part p ps) x (later_part lawful h) names =
        let inner = at ++ Field l ∷ Index k ∷ [] in
        some_append (own_offence n) (within p inner) (within_parts l at (suc k) ps) ∙ ap (λ b. is_some (offence n p inner) || b) (found_parts l at (suc k) ps x h names) ∙ or-true (is_some (offence n p inner))

    found_branches : (at : List Step) (k : ℕ) (bs : Branches) (x : Offence) → FirstOfBranches bs x → Names n x → is_some (first_of (own_offence n) (within_branches at k bs)) ≡ true
    found_branches at k no_branches x h names = elim h [ ]
    found_branches at k (branch t p bs) x (this_branch h) names =
        let inner = at ++ Field word.If ∷ Index k ∷ Index 1 ∷ [] in
        some_append (own_offence n) (within p inner) (within_branches at (suc k) bs) ∙ ap (λ b. b || is_some (first_of (own_offence n) (within_branches at (suc k) bs))) (found p x inner h names)
    found_branches at k (branch t p bs) x (later_branch lawful h) names =
        let inner = at ++ Field word.If ∷ Index k ∷ Index 1 ∷ [] in
        some_append (own_offence n) (within p inner) (within_branches at (suc k) bs) ∙ ap (λ b. is_some (offence n p inner) || b) (found_branches at (suc k) bs x h names) ∙ or-true (is_some (offence n p inner))

    found_guards : (at : List Step) (k : ℕ) (gs : Guards) (x : Offence) → FirstOfGuards gs x → Names n x → is_some (first_of (own_offence n) (within_guards at k gs)) ≡ true
    found_guards at k no_guards x h names = elim h [ ]
    found_guards at k (guard t c v p gs) x (this_guard h) names =
        let inner = at ++ Field word.Alt ∷ Index k ∷ Index 3 ∷ [] in
        some_append (own_offence n) (within p inner) (within_guards at (suc k) gs) ∙ ap (λ b. b || is_some (first_of (own_offence n) (within_guards at (suc k) gs))) (found p x inner h names)
    found_guards at k (guard t c v p gs) x (later_guard lawful h) names =
        let inner = at ++ Field word.Alt ∷ Index k ∷ Index 3 ∷ [] in
        some_append (own_offence n) (within p inner) (within_guards at (suc k) gs) ∙ ap (λ b. is_some (offence n p inner) || b) (found_guards at (suc k) gs x h names) ∙ or-true (is_some (offence n p inner))

pub are_found : OffencesAreFound
are_found p x n at h names = found n p x at h names
