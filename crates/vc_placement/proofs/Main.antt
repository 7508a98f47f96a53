-- The plan of one node passes each test of the checker.
use Rattle.std.proofs.Common.{◌≡◌, ℕ, zero, suc, ◌+◌, ◌≤◌, ◌<◌, Bool, true, false, ◌&&◌, ◌||◌, ◌==◌, nat_le, nat_lt, refl, sym, ap, subst, ◌∙◌, List, [], ◌∷◌, ◌++◌, length, length-append, map, option_map, slice_get, Option, Some, None, inl, inr, ◌⊎◌, ◌≢◌, arith, eqb-true, true≢false, if◌then◌else◌}
use Rattle.std.specs.List.{list_all, list_any}
use Rattle.std.specs.Option.{option_or}
use Rattle.std.proofs.lemmas.Bool.{lt-ltb, ltb-true}
use Rattle.std.proofs.lemmas.List.{length-map, map-append}
use Rattle.std.proofs.lemmas.List.Folds.{list_all-append}
use Rattle.std.proofs.lemmas.Option.{slice_get-map}
use Rattle.vc_occam.proofs.Scope.{uses_there}
use Rattle.vc_occam.proofs.Sites.{either}
use Rattle.vc_occam.proofs.Changes.{changed_used}
use Rattle.vc_placement.proofs.Ends.{output_use, input_use}
use Rattle.vc_placement.proofs.Kept.{both_true, depth_kept, exps_kept, length_kept, names_kept, uses_kept, outputs_kept, inputs_kept}
use Rattle.vc_placement.proofs.LawfulKept.{lawful_kept, changes_from, uses_from}
use Rattle.vc_placement.specs.Fits.{fits_one_node, IsSize, IsSizeLimit, OneNodeIsAccepted, OnlySizesRefuseIt}
use Rattle.vc_plan.proofs.Acceptance.{accepted}
use Rattle.vc_plan.proofs.Refutations.{right}
use Rattle.vc_plan.proofs.KeptLimits.{limits_of}
use Rattle.vc_plan.proofs.Limits.{both, keeps, names-fit, passes, unbroken, Keeps}
use Rattle.vc_plan.proofs.Tests.{uses_are_ok}
use Rattle.vc_plan.specs.Accepted.{IsAccepted, uses_of}
use Rattle.vc_plan.specs.Check.{IsCause, PassesLimits, block_twice, misused, misused_from, port_missing, port_twice, way_twice, same_way, way_twice_from, has_end, end_is_at, end_is_there, kind_fits, channel_used, use_ok, wrong_use, same_bool}
use Rattle.vc_plan.specs.Private.Check.{PassesUse}
use Rattle.vc_plan.specs.Limits.{links_ok, number_ok, version_ok, ends_ok, ends_there, limit_broken, parts_ok, random_ok, routes_ok, rows_ok, switch_in_version_one, switch_links_ok, unless_ok, vars_ok, wire_ok, wire_there, depth_ok, is_name, kinds_of, message_ok, names_ok, node_names_ok, process_names, home_there}
use Rattle.vc_plan.specs.OneNode.{all_sites, all_vars, inside, IsBehind, AreProcesses, IsOneNodeOf}
use Rattle.vc_plan.specs.declared.channel.Channel.{Channel}
use Rattle.vc_plan.specs.declared.channel.Home.{Home}
use Rattle.vc_plan.specs.declared.channel.Home.TheVariants.{Way, Inside}
use Rattle.vc_plan.specs.declared.node_plan.NodePlan.{NodePlan}
use Rattle.vc_plan.specs.declared.node_plan.Variable.{Variable}
use Rattle.vc_plan.specs.declared.plan.Plan.{Plan}
use Rattle.vc_plan.specs.declared.check_refused.CheckRefused.{CheckRefused}
use Rattle.vc_plan.specs.declared.check_refused.CheckRefused.TheVariants as why
use Rattle.vc_plan.specs.declared.limit_word.LimitWord.{LimitWord}
use Rattle.vc_plan.specs.declared.switch_plan.SwitchPlan.{SwitchPlan}
use Rattle.vc_plan.specs.declared.vlink.Vlink.{Vlink}
use Rattle.vc_process.specs.ChannelUses.{channel_uses, uses_of_all}
use Rattle.vc_process.specs.Lawful.{inputs, outputs, Lawfully, LawfullyAll, Shared, With}
use Rattle.vc_process.specs.Numbering.{written}
use Rattle.vc_process.specs.ProcessLimits.{depth_within, exps_within, in_length, names_fit, parts_depth_within, parts_exps_within, parts_in_length, parts_names_fit}
use Rattle.vc_process.specs.Syntax.{Proc, Procs, no_parts, part}
use Rattle.vc_process.specs.Usage.{Set, changes, uses}
use Rattle.vc_process.specs.declared.channel_use.ChannelUse.{ChannelUse}
use Rattle.vc_process.specs.declared.value_kind.ValueKind.{ValueKind}

-- ---- lists

kinds_length : (a : List Variable) → length (kinds_of a) ≡ length a
kinds_length a = length-map a (λ (v : Variable). v.kind)

first_of : {A : Type 0} (xs ys : List A) (k : ℕ) → k < length xs → slice_get (xs ++ ys) k ≡ slice_get xs k
first_of [] ys k l = absurd (omega arith)
first_of (x ∷ xs) ys zero l = refl
first_of (x ∷ xs) ys (suc k) l = first_of xs ys k (omega arith)

rest_of : {A : Type 0} (xs ys : List A) (k : ℕ) → slice_get (xs ++ ys) (length xs + k) ≡ slice_get ys k
rest_of [] ys k = let e : 0 + k ≡ k = omega arith in ap (slice_get ys) e
rest_of (x ∷ xs) ys k = let e : length (x ∷ xs) + k ≡ suc (length xs + k) = omega arith in ap (slice_get ((x ∷ xs) ++ ys)) e ∙ rest_of xs ys k

-- ---- names of variables, and ways

vars_named : (ns : List NodePlan) → list_all node_names_ok ns ≡ true → list_all (λ (v : Variable). is_name v.name) (all_vars ns) ≡ true
vars_named [] h = refl
vars_named (n ∷ ns) h =
    let r = both (node_names_ok n) (list_all node_names_ok ns) h in
    list_all-append (λ (v : Variable). is_name v.name) n.vars (all_vars ns) ∙ both_true (both (is_name n.name) (list_all (λ (v : Variable). is_name v.name) n.vars) r.0).1 (vars_named ns r.1)

names_inside : (cs : List Channel) → list_all (λ (c : Channel). is_name c.name) (map inside cs) ≡ list_all (λ (c : Channel). is_name c.name) cs
names_inside [] = refl
names_inside (c ∷ cs) = ap (λ b. is_name c.name && b) (names_inside cs)

homes_inside : (one : Plan) (cs : List Channel) → nat_lt 0 (length one.nodes) ≡ true → list_all (λ (c : Channel). home_there one c.home) (map inside cs) ≡ true
homes_inside one [] h = refl
homes_inside one (c ∷ cs) h = both_true h (homes_inside one cs h)

-- what is inside is on no way
no_way : (seen : List Home) → list_any (same_way (Inside 0)) seen ≡ false
no_way [] = refl
no_way (h ∷ seen) = no_way seen

no_way_twice : (n : ℕ) (seen : List Home) (cs : List Channel) → way_twice_from n seen (map inside cs) ≡ None
no_way_twice n seen [] = refl
no_way_twice n seen (c ∷ cs) = ap (λ b. if b then Some n else way_twice_from (suc n) (seen ++ Inside 0 ∷ []) (map inside cs)) (no_way seen) ∙ no_way_twice (suc n) (seen ++ Inside 0 ∷ []) cs

-- a test that passes is not the first that is broken, and one that does not pass is
past : (b : Bool) (v w : LimitWord) (next : Option LimitWord) → b ≡ true → unless_ok b v next ≡ Some w → next ≡ Some w
past true v w next e h = h
past false v w next e h = absurd (true≢false (sym e))

broken_or : (b : Bool) (v w : LimitWord) (next : Option LimitWord) → unless_ok b v next ≡ Some w → (v ≡ w) ⊎ (next ≡ Some w)
broken_or true v w next h = inr h
broken_or false v w next h = inl (cc)

-- ---- one node is at each end of a channel

one_at : (l : Vlink) (b : Bool) (i j : ℕ) → end_is_at l b i ≡ true → end_is_at l b j ≡ true → i ≡ j
one_at l true i j h g = sym (eqb-true l.a.node i h) ∙ eqb-true l.a.node j g
one_at l false i j h g = sym (eqb-true l.b.node i h) ∙ eqb-true l.b.node j g

one_there : (o : Option Vlink) (b : Bool) (i j : ℕ) → end_is_there o b i ≡ true → end_is_there o b j ≡ true → i ≡ j
one_there None b i j h g = absurd (true≢false (sym h))
one_there (Some l) b i j h g = one_at l b i j h g

one_end : (p : Plan) (h : Home) (o : Bool) (i j : ℕ) → has_end p h o i ≡ true → has_end p h o j ≡ true → i ≡ j
one_end p (Way v f) o i j h g = one_there (slice_get p.vlinks v) (same_bool f o) i j h g
one_end p (Inside m) o i j h g = sym (eqb-true m i h) ∙ eqb-true m j g

module _ (p : Plan) (acc : IsAccepted p) (one : Plan) (is : IsOneNodeOf p one) where
  kept : Keeps p
  kept = keeps p (limits_of p acc)

  abbrev big : List ValueKind
  big = kinds_of (all_vars p.nodes)

  abbrev count : ℕ
  count = length p.channels

  -- from the k-th kind on stand those of these nodes
  record Here (k : ℕ) (ns : List NodePlan) : Type 0 where
    pub kind : (v : ℕ) → slice_get big (k + v) ≡ slice_get (kinds_of (all_vars ns)) v
    pub all : k + length (kinds_of (all_vars ns)) ≡ length big

  split : (x : NodePlan) (ns : List NodePlan) → kinds_of (all_vars (x ∷ ns)) ≡ kinds_of x.vars ++ kinds_of (all_vars ns)
  split x ns = map-append (λ (v : Variable). v.kind) x.vars (all_vars ns)

  here_first : (k : ℕ) (x : NodePlan) (ns : List NodePlan) → Here k (x ∷ ns) → (v : ℕ) → v < length x.vars → slice_get big (k + v) ≡ slice_get (kinds_of x.vars) v
  here_first k x ns h v l =
      let c = kinds_length x.vars in
      h.kind v ∙ ap (λ z. slice_get z v) (split x ns) ∙ first_of (kinds_of x.vars) (kinds_of (all_vars ns)) v (omega arith)

  here_room : (k : ℕ) (x : NodePlan) (ns : List NodePlan) → Here k (x ∷ ns) → k + length x.vars ≤ length big
  here_room k x ns h =
      let a = ap length (split x ns) in
      let b = length-append (kinds_of x.vars) (kinds_of (all_vars ns)) in
      let c = kinds_length x.vars in
      let d = h.all in
      omega arith

  here_rest : (k : ℕ) (x : NodePlan) (ns : List NodePlan) → Here k (x ∷ ns) → Here (k + length x.vars) ns
  here_rest k x ns h = record {
    kind = λ v.
        (let c = kinds_length x.vars in
        let e : k + length x.vars + v ≡ k + (length (kinds_of x.vars) + v) = omega arith in
        ap (slice_get big) e ∙ h.kind (length (kinds_of x.vars) + v) ∙ ap (λ z. slice_get z (length (kinds_of x.vars) + v)) (split x ns) ∙ rest_of (kinds_of x.vars) (kinds_of (all_vars ns)) v);
    all =
        let a = ap length (split x ns) in
        let b = length-append (kinds_of x.vars) (kinds_of (all_vars ns)) in
        let c = kinds_length x.vars in
        let d = h.all in
        omega arith;
  }

  -- node i is at that end of the channel
  abbrev IsAt : ℕ → Bool → ℕ → Type 0
  IsAt i o c = (x : Channel) × (slice_get p.channels c ≡ Some x) × (has_end p x.home o i ≡ true)

  one_is_at : (i j : ℕ) (o : Bool) (c : ℕ) → IsAt i o c → IsAt j o c → i ≡ j
  one_is_at i j o c a b =
      let same : a.0 ≡ b.0 = let e : Some a.0 ≡ Some b.0 = sym a.1 ∙ b.1 in cc in
      one_end p b.0.home o i j (subst (λ (x : Channel). has_end p x.home o i ≡ true) same a.2) b.2

  is_at : (i : ℕ) (u : ChannelUse) (o : Bool) (c : ℕ) → use_ok p i u ≡ true → u.chan ≡ c → u.is_output ≡ o → IsAt i o c
  is_at i u o c h e f = subst (λ d. IsAt i o d) e (subst (λ b. IsAt i b u.chan) f (go (slice_get p.channels u.chan) refl h))
    where
      go : (x : Option Channel) → slice_get p.channels u.chan ≡ x → channel_used p i u x ≡ true → IsAt i u.is_output u.chan
      go None e h = absurd (true≢false (sym h))
      go (Some x) e h = (x, e, (both (has_end p x.home u.is_output i) (kind_fits u.kind x.kind) h).0)

  -- what a node may do with a channel the one node may do
  used_inside : (i : ℕ) (u : ChannelUse) → use_ok p i u ≡ true → use_ok one 0 u ≡ true
  used_inside i u h = ap (λ cs. channel_used one 0 u (slice_get cs u.chan)) is.channels ∙ go (slice_get p.channels u.chan) refl h
    where
      go : (x : Option Channel) → slice_get p.channels u.chan ≡ x → channel_used p i u x ≡ true → channel_used one 0 u (slice_get (map inside p.channels) u.chan) ≡ true
      go None e h = absurd (true≢false (sym h))
      go (Some x) e h = ap (channel_used one 0 u) (slice_get-map inside p.channels u.chan ∙ ap (option_map inside) e) ∙ (both (has_end p x.home u.is_output i) (kind_fits u.kind x.kind) h).1

  right_uses : (i : ℕ) (us : List ChannelUse) → ((j : ℕ) (u : ChannelUse) → slice_get us j ≡ Some u → use_ok p i u ≡ true) → wrong_use one 0 us ≡ None
  right_uses i [] h = refl
  right_uses i (u ∷ us) h = ap (λ b. if b then wrong_use one 0 us else Some u.chan) (used_inside i u (h 0 u refl)) ∙ right_uses i us (λ j v e. h (suc j) v e)

  right_append : (us vs : List ChannelUse) → wrong_use one 0 us ≡ None → wrong_use one 0 vs ≡ None → wrong_use one 0 (us ++ vs) ≡ None
  right_append [] vs h g = g
  right_append (u ∷ us) vs h g = at (use_ok one 0 u) refl (λ k. right_append us vs k g)
    where
      at : (b : Bool) → use_ok one 0 u ≡ b → (wrong_use one 0 us ≡ None → wrong_use one 0 (us ++ vs) ≡ None) → wrong_use one 0 (u ∷ (us ++ vs)) ≡ None
      at true e f = ap (λ b. if b then wrong_use one 0 (us ++ vs) else Some u.chan) e ∙ f (sym (ap (λ b. if b then wrong_use one 0 us else Some u.chan) e) ∙ h)
      at false e f = absurd (let z : Some u.chan ≡ None = sym (ap (λ b. if b then wrong_use one 0 us else Some u.chan) e) ∙ h in cc)

  -- ---- one part

  record IsPart (i k : ℕ) (x : NodePlan) (q : Proc) : Type 0 where
    pub outs : (c : ℕ) → outputs q c ≡ true → IsAt i true c
    pub ins : (c : ℕ) → inputs q c ≡ true → IsAt i false c
    pub changed : (w : ℕ) → changes q w ≡ true → (k ≤ w) × (w < k + length x.vars)
    pub used : (w : ℕ) → uses q w ≡ true → (k ≤ w) × (w < k + length x.vars)
    pub lawful : Lawfully q
    pub names : names_fit q big count ≡ true
    pub right : wrong_use one 0 (channel_uses big q) ≡ None
    pub flat : exps_within q 8 ≡ true
    pub deep : depth_within q 31 ≡ depth_within (written x.process) 31
    pub short : in_length q ≡ true

  is_part : (i k : ℕ) (x : NodePlan) (ns : List NodePlan) (q : Proc) → slice_get p.nodes i ≡ Some x → Here k (x ∷ ns) → IsBehind k (length x.vars) (written x.process) q → IsPart i k x q
  is_part i k x ns q node here behind =
      let ρ = behind.0 in
      let num = behind.1 in
      let ren = behind.2 in
      let was = written x.process in
      let kinds = kinds_of x.vars in
      let size = kinds_length x.vars in
      let room = here_room k x ns here in
      let named : names_fit was kinds count ≡ true = passes (process_names p) p.nodes i x (names-fit p kept) node in
      let within : (v : ℕ) → uses was v ≡ true → v < length x.vars = λ v u. (let l = uses_there kinds was count named v u in omega arith) in
      let same : (v : ℕ) → v < length kinds → slice_get big (ρ v) ≡ slice_get kinds v = λ v l. (let m : v < length x.vars = omega arith in ap (slice_get big) (num v m) ∙ here_first k x ns here v m) in
      let there : (v : ℕ) → v < length kinds → ρ v < length big = λ v l. (let m : v < length x.vars = omega arith in let e = num v m in omega arith) in
      let dom : Set = λ v. nat_lt v (length x.vars) in
      let apart : (v w : ℕ) → dom v ≡ true → dom w ≡ true → ρ v ≡ ρ w → v ≡ w = λ v w a b e. (let l = num v (ltb-true v (length x.vars) a) in let m = num w (ltb-true w (length x.vars) b) in omega arith) in
      let depth = both (depth_within was 32) (exps_within was 8) (passes depth_ok p.nodes i x kept.depth node) in
      record {
        outs = λ c h. (let u = output_use kinds c was (sym (outputs_kept ρ ren c) ∙ h) in is_at i u.1 true c (uses_are_ok p acc i u.0 x u.1 node u.2) u.3 u.4);
        ins = λ c h. (let u = input_use kinds c was (sym (inputs_kept ρ ren c) ∙ h) in is_at i u.1 false c (uses_are_ok p acc i u.0 x u.1 node u.2) u.3 u.4);
        changed = λ w h. (let f = changes_from ρ ren w h in let l = within f.0 (changed_used was f.0 f.2) in let e = num f.0 l in let g = f.1 in (omega arith, omega arith));
        used = λ w h. (let f = uses_from ρ ren w h in let l = within f.0 f.2 in let e = num f.0 l in let g = f.1 in (omega arith, omega arith));
        lawful = lawful_kept ρ dom apart ren (λ v u. lt-ltb v (length x.vars) (within v u)) (acc.lawful_use i x node);
        names = names_kept ρ kinds big same there count ren named;
        right = ap (wrong_use one 0) (uses_kept ρ kinds big same there count ren named) ∙ right_uses i (channel_uses kinds was) (λ j u e. uses_are_ok p acc i j x u node e);
        flat = exps_kept ρ ren 8 ∙ depth.1;
        deep = depth_kept ρ ren 31;
        short = length_kept ρ ren ∙ passes message_ok p.nodes i x kept.message node;
      }

  -- ---- all parts

  abbrev AreParts : ℕ → ℕ → List NodePlan → Procs → Type 0
  AreParts i k [] no_parts = Unit {0}
  AreParts i k (x ∷ ns) (part q qs) = IsPart i k x q × AreParts (suc i) (k + length x.vars) ns qs
  AreParts i k [] (part q qs) = ⊥
  AreParts i k (x ∷ ns) no_parts = ⊥

  are_parts : (i k : ℕ) (ns : List NodePlan) (qs : Procs) → ((m : ℕ) (x : NodePlan) → slice_get ns m ≡ Some x → slice_get p.nodes (i + m) ≡ Some x) → Here k ns → AreProcesses k ns qs → AreParts i k ns qs
  are_parts i k [] no_parts f h a = tt
  are_parts i k (x ∷ ns) (part q qs) f h a = (
    is_part i k x ns q (let e : i + 0 ≡ i = omega arith in subst (λ j. slice_get p.nodes j ≡ Some x) e (f 0 x refl)) h a.0,
    are_parts (suc i) (k + length x.vars) ns qs (λ m y e. (let g : i + suc m ≡ suc i + m = omega arith in subst (λ j. slice_get p.nodes j ≡ Some y) g (f (suc m) y e))) (here_rest k x ns h) a.1,
  )
  are_parts i k [] (part q qs) f h a = absurd a
  are_parts i k (x ∷ ns) no_parts f h a = absurd a

  -- no two share an output, an input or a variable
  module _ (i k : ℕ) (x : NodePlan) (q : Proc) (mine : IsPart i k x q) where
    no_output : (c j m : ℕ) (ns : List NodePlan) (qs : Procs) → i < j → AreParts j m ns qs → With outputs outputs c q qs → ⊥
    no_output c j m [] no_parts l a w = w
    no_output c j m (y ∷ ns) (part r rs) l a (inl e) =
        let b : (outputs q c ≡ true) × (outputs r c ≡ true) = elim (either (outputs q c && outputs r c) (outputs q c && outputs r c) e) [ inl z ↦ both (outputs q c) (outputs r c) z | inr z ↦ both (outputs q c) (outputs r c) z ] in
        let same = one_is_at i j true c (mine.outs c b.0) (a.0.outs c b.1) in
        omega arith
    no_output c j m (y ∷ ns) (part r rs) l a (inr w) = no_output c (suc j) (m + length y.vars) ns rs (omega arith) a.1 w
    no_output c j m [] (part r rs) l a w = a
    no_output c j m (y ∷ ns) no_parts l a w = a

    no_input : (c j m : ℕ) (ns : List NodePlan) (qs : Procs) → i < j → AreParts j m ns qs → With inputs inputs c q qs → ⊥
    no_input c j m [] no_parts l a w = w
    no_input c j m (y ∷ ns) (part r rs) l a (inl e) =
        let b : (inputs q c ≡ true) × (inputs r c ≡ true) = elim (either (inputs q c && inputs r c) (inputs q c && inputs r c) e) [ inl z ↦ both (inputs q c) (inputs r c) z | inr z ↦ both (inputs q c) (inputs r c) z ] in
        let same = one_is_at i j false c (mine.ins c b.0) (a.0.ins c b.1) in
        omega arith
    no_input c j m (y ∷ ns) (part r rs) l a (inr w) = no_input c (suc j) (m + length y.vars) ns rs (omega arith) a.1 w
    no_input c j m [] (part r rs) l a w = a
    no_input c j m (y ∷ ns) no_parts l a w = a

    no_variable : (w j m : ℕ) (ns : List NodePlan) (qs : Procs) → k + length x.vars ≤ m → AreParts j m ns qs → With changes uses w q qs → ⊥
    no_variable w j m [] no_parts l a h = h
    no_variable w j m (y ∷ ns) (part r rs) l a (inl e) = elim (either (changes q w && uses r w) (uses q w && changes r w) e) [
      | inl z ↦ (let b = both (changes q w) (uses r w) z in let s = mine.changed w b.0 in let t = a.0.used w b.1 in let s1 = s.1 in let t0 = t.0 in omega arith)
      | inr z ↦ (let b = both (uses q w) (changes r w) z in let s = mine.used w b.0 in let t = a.0.changed w b.1 in let s1 = s.1 in let t0 = t.0 in omega arith)
    ]
    no_variable w j m (y ∷ ns) (part r rs) l a (inr h) = no_variable w (suc j) (m + length y.vars) ns rs (omega arith) a.1 h
    no_variable w j m [] (part r rs) l a h = a
    no_variable w j m (y ∷ ns) no_parts l a h = a

  no_output_shared : (c i k : ℕ) (ns : List NodePlan) (qs : Procs) → AreParts i k ns qs → Shared outputs outputs c qs → ⊥
  no_output_shared c i k [] no_parts a s = s
  no_output_shared c i k (x ∷ ns) (part q qs) a (inl w) = no_output i k x q a.0 c (suc i) (k + length x.vars) ns qs (omega arith) a.1 w
  no_output_shared c i k (x ∷ ns) (part q qs) a (inr s) = no_output_shared c (suc i) (k + length x.vars) ns qs a.1 s
  no_output_shared c i k [] (part q qs) a s = a
  no_output_shared c i k (x ∷ ns) no_parts a s = a

  no_input_shared : (c i k : ℕ) (ns : List NodePlan) (qs : Procs) → AreParts i k ns qs → Shared inputs inputs c qs → ⊥
  no_input_shared c i k [] no_parts a s = s
  no_input_shared c i k (x ∷ ns) (part q qs) a (inl w) = no_input i k x q a.0 c (suc i) (k + length x.vars) ns qs (omega arith) a.1 w
  no_input_shared c i k (x ∷ ns) (part q qs) a (inr s) = no_input_shared c (suc i) (k + length x.vars) ns qs a.1 s
  no_input_shared c i k [] (part q qs) a s = a
  no_input_shared c i k (x ∷ ns) no_parts a s = a

  no_variable_shared : (w i k : ℕ) (ns : List NodePlan) (qs : Procs) → AreParts i k ns qs → Shared changes uses w qs → ⊥
  no_variable_shared w i k [] no_parts a s = s
  no_variable_shared w i k (x ∷ ns) (part q qs) a (inl h) = no_variable i k x q a.0 w (suc i) (k + length x.vars) ns qs (omega arith) a.1 h
  no_variable_shared w i k (x ∷ ns) (part q qs) a (inr s) = no_variable_shared w (suc i) (k + length x.vars) ns qs a.1 s
  no_variable_shared w i k [] (part q qs) a s = a
  no_variable_shared w i k (x ∷ ns) no_parts a s = a

  record Together (qs : Procs) : Type 0 where
    pub lawful : LawfullyAll qs
    pub names : parts_names_fit qs big count ≡ true
    pub right : wrong_use one 0 (uses_of_all big qs) ≡ None
    pub flat : parts_exps_within qs 8 ≡ true
    pub short : parts_in_length qs ≡ true

  together : (i k : ℕ) (ns : List NodePlan) (qs : Procs) → AreParts i k ns qs → Together qs
  together i k [] no_parts a = record { lawful = tt; names = refl; right = refl; flat = refl; short = refl }
  together i k (x ∷ ns) (part q qs) a =
      let m = a.0 in
      let r = together (suc i) (k + length x.vars) ns qs a.1 in
      record {
        lawful = (m.lawful, r.lawful);
        names = both_true m.names r.names;
        right = right_append (channel_uses big q) (uses_of_all big qs) m.right r.right;
        flat = both_true m.flat r.flat;
        short = both_true m.short r.short;
      }
  together i k [] (part q qs) a = absurd a
  together i k (x ∷ ns) no_parts a = absurd a

  deep_parts : (i k : ℕ) (ns : List NodePlan) (qs : Procs) → AreParts i k ns qs → list_all (λ (n : NodePlan). depth_within (written n.process) 31) ns ≡ true → parts_depth_within qs 31 ≡ true
  deep_parts i k [] no_parts a h = refl
  deep_parts i k (x ∷ ns) (part q qs) a h =
      let r = both (depth_within (written x.process) 31) (list_all (λ (n : NodePlan). depth_within (written n.process) 31) ns) h in
      both_true (a.0.deep ∙ r.0) (deep_parts (suc i) (k + length x.vars) ns qs a.1 r.1)
  deep_parts i k [] (part q qs) a h = absurd a
  deep_parts i k (x ∷ ns) no_parts a h = absurd a

  deep_nodes : (i k : ℕ) (ns : List NodePlan) (qs : Procs) → AreParts i k ns qs → parts_depth_within qs 31 ≡ true → list_all (λ (n : NodePlan). depth_within (written n.process) 31) ns ≡ true
  deep_nodes i k [] no_parts a h = refl
  deep_nodes i k (x ∷ ns) (part q qs) a h =
      let r = both (depth_within q 31) (parts_depth_within qs 31) h in
      both_true (sym a.0.deep ∙ r.0) (deep_nodes (suc i) (k + length x.vars) ns qs a.1 r.1)
  deep_nodes i k [] (part q qs) a h = absurd a
  deep_nodes i k (x ∷ ns) no_parts a h = absurd a

  parts_here : AreParts 0 0 p.nodes is.is.parts
  parts_here = are_parts 0 0 p.nodes is.is.parts (λ m x e. (let g : 0 + m ≡ m = omega arith in subst (λ j. slice_get p.nodes j ≡ Some x) (sym g) e))
      (record { kind = λ v. (let g : 0 + v ≡ v = omega arith in ap (slice_get big) g); all = omega arith }) is.is.processes

  all_together : Together is.is.parts
  all_together = together 0 0 p.nodes is.is.parts parts_here

  -- ---- where it is accepted, its limits are kept

  on_node : (test : NodePlan → Bool) → list_all test one.nodes ≡ true → test is.is.node ≡ true
  on_node test h = (both (test is.is.node) true (sym (ap (list_all test) is.is.nodes) ∙ h)).0

  fits_where_kept : Keeps one → fits_one_node p.nodes ≡ true
  fits_where_kept k =
      let deep = both (depth_within (written is.is.node.process) 32) (exps_within (written is.is.node.process) 8) (on_node depth_ok k.depth) in
      both_true (sym (ap (λ vs. nat_le (length vs) 64) is.variables) ∙ on_node vars_ok k.vars)
      (both_true (sym (ap (λ n. nat_le n 4096) is.sites) ∙ on_node parts_ok k.parts)
      (deep_nodes 0 0 p.nodes is.is.parts parts_here (sym (ap (λ t. depth_within t 32) is.is.process) ∙ deep.0)))

  -- ---- the tests, in their order

  of_node : (test : NodePlan → Bool) → test is.is.node ≡ true → list_all test one.nodes ≡ true
  of_node test h = ap (list_all test) is.is.nodes ∙ both_true h refl

  -- the limits that are kept wherever p keeps its own
  record Sound : Type 0 where
    pub version : version_ok one ≡ true
    pub nodes : nat_le (length one.nodes) 32 ≡ true
    pub switches : nat_le (length one.switches) 32 ≡ true
    pub wires : nat_le (length one.wires) 256 ≡ true
    pub vlinks : nat_le (length one.vlinks) 256 ≡ true
    pub channels : nat_le (length one.channels) 512 ≡ true
    pub rows : list_all rows_ok one.switches ≡ true
    pub routes : list_all routes_ok one.vlinks ≡ true
    pub links : links_ok one ≡ true
    pub random : list_all random_ok one.switches ≡ true
    pub message : list_all message_ok one.nodes ≡ true
    pub number : number_ok one ≡ true
    pub names : names_ok one ≡ true

  sound : Sound
  sound = record {
    version = ap (λ v. v == 2 || (v == 1 && list_all switch_in_version_one one.switches)) is.version;
    nodes = ap (λ ns. nat_le (length ns) 32) is.is.nodes;
    switches = ap (λ s. nat_le (length s) 32) is.switches;
    wires = ap (λ w. nat_le (length w) 256) is.wires;
    vlinks = ap (λ v. nat_le (length v) 256) is.vlinks;
    channels = ap (λ cs. nat_le (length cs) 512) is.channels ∙ ap (λ n. nat_le n 512) (length-map p.channels inside) ∙ kept.channels;
    rows = ap (list_all rows_ok) is.switches;
    routes = ap (list_all routes_ok) is.vlinks;
    links = both_true (ap (list_all wire_ok) is.wires) (both_true (ap (list_all ends_ok) is.vlinks) (ap (list_all switch_links_ok) is.switches));
    random = ap (list_all random_ok) is.switches;
    message = of_node message_ok (ap in_length is.is.process ∙ all_together.short);
    number = both_true (ap (list_all (wire_there one)) is.wires) (both_true (ap (list_all (ends_there one)) is.vlinks)
        (both_true (ap (list_all (λ (c : Channel). home_there one c.home)) is.channels ∙ homes_inside one p.channels (ap (λ ns. nat_lt 0 (length ns)) is.is.nodes))
        (of_node (process_names one)
        (ap (λ t. names_fit t (kinds_of is.is.node.vars) (length one.channels)) is.is.process ∙ ap (λ ks. parts_names_fit is.is.parts ks (length one.channels)) is.is.vars
        ∙ ap (parts_names_fit is.is.parts big) (ap length is.channels ∙ length-map p.channels inside) ∙ all_together.names))));
    names =
        let was = both (list_all node_names_ok p.nodes) (list_all (λ (s : SwitchPlan). is_name s.name) p.switches && (list_all (λ (v : Vlink). is_name v.name) p.vlinks && list_all (λ (c : Channel). is_name c.name) p.channels)) kept.names in
        let some = both (list_all (λ (s : SwitchPlan). is_name s.name) p.switches) (list_all (λ (v : Vlink). is_name v.name) p.vlinks && list_all (λ (c : Channel). is_name c.name) p.channels) was.1 in
        let last = both (list_all (λ (v : Vlink). is_name v.name) p.vlinks) (list_all (λ (c : Channel). is_name c.name) p.channels) some.1 in
        both_true (of_node node_names_ok (both_true (ap is_name is.name) (ap (list_all (λ (v : Variable). is_name v.name)) is.variables ∙ vars_named p.nodes was.0)))
        (both_true (ap (list_all (λ (s : SwitchPlan). is_name s.name)) is.switches) (both_true (ap (list_all (λ (v : Vlink). is_name v.name)) is.vlinks)
        (ap (list_all (λ (c : Channel). is_name c.name)) is.channels ∙ names_inside p.channels ∙ last.1)));
  }

  with_sizes : list_all vars_ok one.nodes ≡ true → list_all depth_ok one.nodes ≡ true → list_all parts_ok one.nodes ≡ true → Keeps one
  with_sizes v d s = record {
    version = sound.version;
    nodes = sound.nodes;
    switches = sound.switches;
    wires = sound.wires;
    vlinks = sound.vlinks;
    channels = sound.channels;
    vars = v;
    rows = sound.rows;
    routes = sound.routes;
    links = sound.links;
    random = sound.random;
    depth = d;
    parts = s;
    message = sound.message;
    number = sound.number;
    names = sound.names;
  }

  -- else one of these three is the first that is broken
  first_broken : (w : LimitWord) → limit_broken one ≡ Some w → IsSizeLimit w
  first_broken w h =
      let a = past _ _ w _ sound.channels (past _ _ w _ sound.vlinks (past _ _ w _ sound.wires (past _ _ w _ sound.switches (past _ _ w _ sound.nodes (past _ _ w _ sound.version h))))) in
      elim (broken_or (list_all vars_ok one.nodes) _ w _ a) [
        | inl e ↦ subst IsSizeLimit e tt
        | inr b ↦ elim (broken_or (list_all depth_ok one.nodes) _ w _ (past _ _ w _ sound.random (past _ _ w _ sound.links (past _ _ w _ sound.routes (past _ _ w _ sound.rows b))))) [
          | inl e ↦ subst IsSizeLimit e tt
          | inr c ↦ elim (broken_or (list_all parts_ok one.nodes) _ w _ c) [
            | inl e ↦ subst IsSizeLimit e tt
            | inr d ↦ absurd (let z : None ≡ Some w = past _ _ w _ sound.names (past _ _ w _ sound.number (past _ _ w _ sound.message d)) in cc)
          ]
        ]
      ]

  module _ (fits : fits_one_node p.nodes ≡ true) where
    room : (nat_le (length (all_vars p.nodes)) 64 ≡ true) × ((nat_le (suc (all_sites p.nodes)) 4096 && list_all (λ (n : NodePlan). depth_within (written n.process) 31) p.nodes) ≡ true)
    room = both (nat_le (length (all_vars p.nodes)) 64) (nat_le (suc (all_sites p.nodes)) 4096 && list_all (λ (n : NodePlan). depth_within (written n.process) 31) p.nodes) fits

    sites_and_depth : (nat_le (suc (all_sites p.nodes)) 4096 ≡ true) × (list_all (λ (n : NodePlan). depth_within (written n.process) 31) p.nodes ≡ true)
    sites_and_depth = both (nat_le (suc (all_sites p.nodes)) 4096) (list_all (λ (n : NodePlan). depth_within (written n.process) 31) p.nodes) room.1

    one_keeps : Keeps one
    one_keeps = with_sizes
        (of_node vars_ok (ap (λ vs. nat_le (length vs) 64) is.variables ∙ room.0))
        (of_node depth_ok (both_true (ap (λ t. depth_within t 32) is.is.process ∙ deep_parts 0 0 p.nodes is.is.parts parts_here sites_and_depth.1) (ap (λ t. exps_within t 8) is.is.process ∙ all_together.flat)))
        (of_node parts_ok (ap (λ n. nat_le n 4096) is.sites ∙ sites_and_depth.0))

    right_one : wrong_use one 0 (uses_of is.is.node) ≡ None
    right_one = ap (λ ks. wrong_use one 0 (channel_uses ks (written is.is.node.process))) is.is.vars ∙ ap (λ t. wrong_use one 0 (channel_uses big t)) is.is.process ∙ all_together.right

    lawful_one : (n : ℕ) (x : NodePlan) → slice_get (is.is.node ∷ []) n ≡ Some x → Lawfully (written x.process)
    lawful_one zero x e =
        let same : is.is.node ≡ x = cc in
        subst (λ (y : NodePlan). Lawfully (written y.process)) same (subst Lawfully (sym is.is.process) (
          (
            λ c s. no_output_shared c 0 0 p.nodes is.is.parts parts_here s,
            λ c s. no_input_shared c 0 0 p.nodes is.is.parts parts_here s,
            λ w s. no_variable_shared w 0 0 p.nodes is.is.parts parts_here s,
          ),
          all_together.lawful,
        ))
    lawful_one (suc n) x e = absurd cc

    nothing_at : {A : Type 0} (xs : List A) (n : ℕ) (x : A) → xs ≡ [] → slice_get xs n ≡ Some x → ⊥
    nothing_at xs n x e h = let z : None ≡ Some x = sym (ap (λ ys. slice_get ys n) e) ∙ h in cc

    passes_use : PassesUse one
    passes_use = record {
      before = record {
        before = record {
          before = record {
            before = record {
              before = record {
                before = record {
                  before = record {
                    before = record { limits = unbroken one one_keeps };
                    once = ap port_twice is.wires;
                  };
                  ports = ap (port_missing one.wires) is.vlinks;
                };
                blocks = ap block_twice is.vlinks;
              };
              tables = λ n s e. absurd (nothing_at one.switches n s is.switches e);
            };
            labelled = λ n v e. absurd (nothing_at one.vlinks n v is.vlinks e);
          };
          apart = λ n v e f. nothing_at one.vlinks n v is.vlinks e;
        };
        channels = ap (λ o. option_or o (misused one)) (ap way_twice is.channels ∙ no_way_twice 0 [] p.channels) ∙ ap (misused_from one 0) is.is.nodes ∙ ap (λ o. option_or o None) right_one;
      };
      lawful = λ n x e. lawful_one n x (sym (ap (λ ns. slice_get ns n) is.is.nodes) ∙ e);
    }

pub one_accepted : OneNodeIsAccepted
one_accepted p one acc is = (λ ok. fits_where_kept p acc one is (keeps one (limits_of one ok)), λ fits. accepted one (passes_use p acc one is fits))

-- a cause but a limit comes behind all limits
kept_before : (p : Plan) (cause : CheckRefused) → ((w : LimitWord) → cause ≡ why.Limit w → ⊥) → cause ≢ why.Memory → IsCause p cause → PassesLimits p
kept_before p (why.Limit w) n m h = absurd (n w refl)
kept_before p (why.PortTwice port) n m h = h.0
kept_before p (why.PortMissing port) n m h = h.0.before
kept_before p (why.BlockTwice node block) n m h = h.0.before.before
kept_before p (why.Table switch f) n m h = h.0.before.before.before
kept_before p (why.StackFull f) n m h = h.1.1.0.before.before.before.before
kept_before p (why.SameNode v) n m h = h.0.before.before.before.before.before
kept_before p (why.Channel c) n m h = h.0.before.before.before.before.before.before
kept_before p (why.Usage node name) n m h = h.0.before.before.before.before.before.before.before
kept_before p why.Memory n m h = absurd (m refl)
kept_before p x n m h = h.0.before.before.before.before

pub only_sizes : OnlySizesRefuseIt
only_sizes p one cause acc is h m = at cause h m
  where
    refuse : (cause : CheckRefused) → ((w : LimitWord) → cause ≡ why.Limit w → ⊥) → IsCause one cause → cause ≢ why.Memory → ⊥
    refuse cause n h m =
        let k = keeps one (kept_before one cause n m h).limits in
        right.refuted one cause m h (accepted one (passes_use p acc one is (fits_where_kept p acc one is k)))

    at : (cause : CheckRefused) → IsCause one cause → cause ≢ why.Memory → IsSize cause
    at (why.Limit w) h m = first_broken p acc one is w h
    at why.Memory h m = absurd (m refl)
    at x h m = absurd (refuse x (λ w e. cc) h m)
