-- Of lawful use nothing is told.
use Rattle.std.proofs.Common.{◌≡◌, ℕ, suc, ◌≤◌, ◌==◌, ◌⊎◌, Bool, true, false, ◌&&◌, ◌||◌, if◌then◌else◌, refl, ap, sym, ◌∙◌, List, [], ◌∷◌, ◌++◌, Option, Some, None, inl, inr, arith}
use Rattle.std.specs.Prelude.{option_map}
use Rattle.std.specs.Option.{is_some, option_or}
use Rattle.std.proofs.lemmas.Bool.{false≢true, false_from_ne_true}
use Rattle.std.proofs.Math.Bool.{or-true}
use Rattle.vc_process.specs.Lawful.{Lawfully, LawfullyAll, LawfullyBranches, LawfullyGuards, Shared, SideBySide, With, inputs, outputs}
use Rattle.vc_process.specs.Syntax.{Proc, SEQ, PAR, IF, WHILE, COUNT, ALT, Procs, no_parts, part, Branches, no_branches, branch, Guards, no_guards, guard}
use Rattle.vc_process.specs.Usage.{Set, changes, uses}
use Rattle.vc_reader.specs.declared.path.Step.{Step}
use Rattle.vc_reader.specs.declared.path.Step.TheVariants.{Field, Index}
use Rattle.vc_reader.specs.declared.word.Word.{Word}
use Rattle.vc_reader.specs.declared.word.Word.TheVariants as word
use Rattle.vc_explain.specs.declared.offence.Named.{Named}
use Rattle.vc_explain.specs.declared.offence.PartPlace.{PartPlace}
use Rattle.vc_explain.specs.declared.wanted.Wanted.{Wanted}
use Rattle.vc_explain.specs.declared.wanted.Wanted.TheVariants as wanted
use Rattle.vc_explain.specs.Laws.{NothingOfLawful}
use Rattle.vc_explain.specs.Offences.{both, channel_clash, clash, first_beside, first_in, in_par, in_part, index_change, offence, own_offence, variable_clash, with_another}
use Rattle.vc_explain.specs.Uses.{first_of, place, within, within_branches, within_guards, within_parts}
use Rattle.vc_explain.proofs.Coverage.{both_or, some_append, some_or}
use Rattle.vc_explain.proofs.Offences.{Has, same_number}
use Rattle.vc_explain.proofs.Sets.{change_place, input_place, output_place, use_place}

none_of : {B : Type 0} (o : Option B) → is_some o ≡ false → o ≡ None
none_of None h = refl
none_of (Some b) h = absurd (false≢true (sym h))

no_map : {A B : Type 0} (f : A → B) (o : Option A) → is_some o ≡ false → is_some (option_map f o) ≡ false
no_map f None h = refl
no_map f (Some a) h = h

neither : {B : Type 0} (x y : Option B) → is_some x ≡ false → is_some y ≡ false → is_some (option_or x y) ≡ false
neither x y h i = some_or x y ∙ both_or h i

-- one of two gives it
or_is : {B : Type 0} (x y : Option B) (z : B) → option_or x y ≡ Some z → (x ≡ Some z) ⊎ ((x ≡ None) × (y ≡ Some z))
or_is None y z h = inr (refl, h)
or_is (Some b) y z h = inl h

part_of : Option PartPlace → ℕ
part_of None = 0
part_of (Some x) = x.part

-- a place in part i
mapped : (i : ℕ) (o : Option (List Step)) (x : PartPlace) → option_map (in_part i) o ≡ Some x → (is_some o ≡ true) × (i ≡ x.part)
unfolding part_of
mapped i None x h = absurd (let e : false ≡ true = ap is_some h in false≢true e)
mapped i (Some path) x h = (refl, ap part_of h)

both_true : (a b c d : Bool) → a ≡ true → b ≡ true → ((a && b) || (c && d)) ≡ true
both_true a b c d h i = ap (λ x. (x && b) || (c && d)) h ∙ ap (λ x. x || (c && d)) i

other_true : (a b c d : Bool) → c ≡ true → d ≡ true → ((a && b) || (c && d)) ≡ true
other_true a b c d h i = ap (λ x. (a && b) || (x && d)) h ∙ ap (λ x. (a && b) || x) i ∙ or-true (a && b)

unless_false : {B : Type 0} (b : Bool) (x : Option B) → (b ≡ false → is_some x ≡ false) → is_some (if b then None else x) ≡ false
unless_false true x h = refl
unless_false false x h = h refl

if_so : {B : Type 0} (b : Bool) (x : Option B) → is_some x ≡ false → is_some (if b then x else None) ≡ false
if_so true x h = h
if_so false x h = refl

module _ (one other : Wanted) (f g : Proc → Set) (k : ℕ) (f_place : (p : Proc) (at : List Step) → is_some (place one [] p at) ≡ f p k) (g_place : (p : Proc) (at : List Step) → is_some (place other [] p at) ≡ g p k) where
  -- where the first of two parts has one, and a later one the other
  with_after : (p : Proc) (ps : Procs) → f p k ≡ true → Has g k ps → With f g k p ps
  with_after p no_parts h i = i
  with_after p (part q ps) h (inl i) = inl (both_true (f p k) (g q k) (g p k) (f q k) h i)
  with_after p (part q ps) h (inr i) = inr (with_after p ps h i)

  with_before : (p : Proc) (ps : Procs) → g p k ≡ true → Has f k ps → With f g k p ps
  with_before p no_parts h i = i
  with_before p (part q ps) h (inl i) = inl (other_true (f p k) (g q k) (g p k) (f q k) h i)
  with_before p (part q ps) h (inr i) = inr (with_before p ps h i)

  none_beside : (at : List Step) (i j : ℕ) (ps : Procs) → (Has g k ps → ⊥) → is_some (first_beside other j at i ps) ≡ false
  none_beside at i j no_parts none = refl
  none_beside at i j (part p ps) none =
      neither (if i == j then None else place other [] p (in_par at i)) (first_beside other j at (suc i) ps) (unless_false (i == j) (place other [] p (in_par at i)) (λ e. g_place p (in_par at i) ∙ false_from_ne_true (g p k) (λ h. none (inl h)))) (none_beside at (suc i) j ps (λ h. none (inr h)))

  -- the first place is in a part that has one
  first_has : (at : List Step) (i : ℕ) (ps : Procs) (x : PartPlace) → first_in one at i ps ≡ Some x → Has f k ps × (i ≤ x.part)
  first_has at i no_parts x h = absurd (let e : false ≡ true = ap is_some h in false≢true e)
  first_has at i (part p ps) x h =
      let mine = place one [] p (in_par at i) in
      elim (or_is (option_map (in_part i) mine) (first_in one at (suc i) ps) x h) [
        | inl e ↦ (let m = mapped i mine x e in (inl (sym (f_place p (in_par at i)) ∙ m.0), let same : i ≡ x.part = m.1 in omega arith))
        | inr e ↦ (let r = first_has at (suc i) ps x e.1 in (inr r.0, let less : suc i ≤ x.part = r.1 in omega arith))
      ]

  no_clash : (at : List Step) (i : ℕ) (ps : Procs) (x : PartPlace) → (Shared f g k ps → ⊥) → first_in one at i ps ≡ Some x → is_some (first_beside other x.part at i ps) ≡ false
  no_clash at i no_parts x none h = absurd (let e : false ≡ true = ap is_some h in false≢true e)
  no_clash at i (part p ps) x none h =
      let mine = place one [] p (in_par at i) in
      let theirs = place other [] p (in_par at i) in
      elim (or_is (option_map (in_part i) mine) (first_in one at (suc i) ps) x h) [
        | inl e ↦ (
            let m = mapped i mine x e in
            let has : f p k ≡ true = sym (f_place p (in_par at i)) ∙ m.0 in
            neither (if i == x.part then None else theirs) (first_beside other x.part at (suc i) ps) (unless_false (i == x.part) theirs (λ differ. absurd (false≢true (sym differ ∙ ap (λ j. i == j) (sym m.1) ∙ same_number i))))
            (none_beside at (suc i) x.part ps (λ later. none (inl (with_after p ps has later))))
            )
        | inr e ↦ (
            let r = first_has at (suc i) ps x e.1 in
            neither (if i == x.part then None else theirs) (first_beside other x.part at (suc i) ps) (unless_false (i == x.part) theirs (λ differ. g_place p (in_par at i) ∙ false_from_ne_true (g p k) (λ had. none (inl (with_before p ps had r.0)))))
            (no_clash at (suc i) ps x (λ shared. none (inr shared)) e.1)
            )
      ]

  no_pair : (at : List Step) (ps : Procs) (o : Option PartPlace) → (Shared f g k ps → ⊥) → first_in one at 0 ps ≡ o → is_some (with_another other at ps o) ≡ false
  no_pair at ps None none e = refl
  no_pair at ps (Some x) none e = no_map (both x.path) (first_beside other x.part at 0 ps) (no_clash at 0 ps x none e)

  apart : (at : List Step) (ps : Procs) → (Shared f g k ps → ⊥) → is_some (clash one other at ps) ≡ false
  apart at ps none = no_pair at ps (first_in one at 0 ps) none refl

channels_apart : (o : Option ℕ) (at : List Step) (ps : Procs) → SideBySide ps → is_some (channel_clash o at ps) ≡ false
channels_apart None at ps side = refl
channels_apart (Some c) at ps side =
    neither (clash (wanted.Output c) (wanted.Output c) at ps) (clash (wanted.Input c) (wanted.Input c) at ps) (apart (wanted.Output c) (wanted.Output c) outputs outputs c (output_place c) (output_place c) at ps (side.0 c))
    (apart (wanted.Input c) (wanted.Input c) inputs inputs c (input_place c) (input_place c) at ps (side.1 c))

variables_apart : (o : Option ℕ) (at : List Step) (ps : Procs) → SideBySide ps → is_some (variable_clash o at ps) ≡ false
variables_apart None at ps side = refl
variables_apart (Some v) at ps side = apart (wanted.Change v) (wanted.Use v) changes uses v (change_place v) (use_place v) at ps (side.2 v)

index_kept : (o : Option ℕ) (at : List Step) (v : ℕ) (p : Proc) → changes p v ≡ false → is_some (index_change o at v p) ≡ false
index_kept None at v p h = refl
index_kept (Some w) at v p h =
    let inner = at ++ Field word.For ∷ Index 3 ∷ [] in
    if_so (v == w) (option_map (both (at ++ Field word.For ∷ Index 0 ∷ [])) (place (wanted.Change v) [] p inner)) (no_map (both (at ++ Field word.For ∷ Index 0 ∷ [])) (place (wanted.Change v) [] p inner) (change_place v p inner ∙ h))

module _ (n : Named) where
  mutual
    nothing : (p : Proc) (at : List Step) → Lawfully p → is_some (offence n p at) ≡ false
    nothing (SEQ i ps) at l = nothing_in word.Seq at 0 ps l
    nothing (PAR i ps) at l =
        neither (own_offence n (PAR i ps, at)) (first_of (own_offence n) (within_parts word.Par at 0 ps))
        (neither (channel_clash n.chan at ps) (variable_clash n.var at ps) (channels_apart n.chan at ps l.0) (variables_apart n.var at ps l.0)) (nothing_in word.Par at 0 ps l.1)
    nothing (IF i bs) at l = nothing_in_branches at 0 bs l
    nothing (WHILE i t p) at l = nothing p (at ++ Field word.While ∷ Index 1 ∷ []) l
    nothing (COUNT i v a k p) at l =
        neither (own_offence n (COUNT i v a k p, at)) (first_of (own_offence n) (within p (at ++ Field word.For ∷ Index 3 ∷ []))) (index_kept n.var at v p l.0) (nothing p (at ++ Field word.For ∷ Index 3 ∷ []) l.1)
    nothing (ALT i gs) at l = nothing_in_guards at 0 gs l
    nothing p at l = refl

    nothing_in : (w : Word) (at : List Step) (k : ℕ) (ps : Procs) → LawfullyAll ps → is_some (first_of (own_offence n) (within_parts w at k ps)) ≡ false
    nothing_in w at k no_parts l = refl
    nothing_in w at k (part p ps) l =
        let inner = at ++ Field w ∷ Index k ∷ [] in
        some_append (own_offence n) (within p inner) (within_parts w at (suc k) ps) ∙ both_or (nothing p inner l.0) (nothing_in w at (suc k) ps l.1)

    nothing_in_branches : (at : List Step) (k : ℕ) (bs : Branches) → LawfullyBranches bs → is_some (first_of (own_offence n) (within_branches at k bs)) ≡ false
    nothing_in_branches at k no_branches l = refl
    nothing_in_branches at k (branch t p bs) l =
        let inner = at ++ Field word.If ∷ Index k ∷ Index 1 ∷ [] in
        some_append (own_offence n) (within p inner) (within_branches at (suc k) bs) ∙ both_or (nothing p inner l.0) (nothing_in_branches at (suc k) bs l.1)

    nothing_in_guards : (at : List Step) (k : ℕ) (gs : Guards) → LawfullyGuards gs → is_some (first_of (own_offence n) (within_guards at k gs)) ≡ false
    nothing_in_guards at k no_guards l = refl
    nothing_in_guards at k (guard t c v p gs) l =
        let inner = at ++ Field word.Alt ∷ Index k ∷ Index 3 ∷ [] in
        some_append (own_offence n) (within p inner) (within_guards at (suc k) gs) ∙ both_or (nothing p inner l.0) (nothing_in_guards at (suc k) gs l.1)

pub nothing_told : NothingOfLawful
nothing_told p n at l = none_of (offence n p at) (nothing n p at l)
