-- Ways that stand by the links to which they lead, as they change.
use Rattle.std.proofs.Common.{◌≡◌, ◌≢◌, ℕ, zero, suc, ◌+◌, ◌*◌, ◌<◌, Bool, true, false, nat_lt, List, [], ◌∷◌, length, get_or, map, slice_get, slice_set, Option, Some, None, Result, Ok, Err, OnOk, OnErr, refl, sym, ap, ◌∙◌, subst, arith, if◌then◌else◌}
use Rattle.std.proofs.lemmas.List.{get_or-set_other, get_or-set_same, length-map}
use Rattle.std.proofs.lemmas.Nat.{same_from_place}
use Rattle.std.proofs.lemmas.Option.{slice_get-map, get_or_from_slice_get}
use Rattle.std.specs.List.{AllByRecursion}
use Rattle.std.specs.Option.{option_map}
use Rattle.vc_accepted.specs.NetworkOf.{wire_of}
use Rattle.vc_accepted.proofs.WayPorts.{outgoing_is}
use Rattle.vc_plan.specs.Accepted.{IsAccepted}
use Rattle.vc_plan.specs.declared.plan.Plan.{Plan}
use Rattle.vc_tokens.specs.Tokens.{Token}
use Rattle.vc_core.specs.Lines.{AreLined}
use Rattle.vc_core.specs.Private.Fronts.{Marked}
use Rattle.vc_core.specs.Private.Lines.{LeadsTo}
use Rattle.vc_core.specs.Private.ByEnd.{AreApart, ByEnd, Leads, place_of, with_line, ways_at}
use Rattle.vc_core.specs.Private.Wiring.{AreEnds, AreFar, far_end_of}
use Rattle.vc_core.specs.Wiring.{AreWaysAt, Comes, in_at, out_at, there}
use Rattle.vc_core.specs.declared.ends.End.{End}
use Rattle.vc_core.proofs.WaysOut.{in_out, out_within}
use Rattle.vc_core.proofs.LineBits.{comes_no_more, comes_now, comes_yet, in_few}
use Rattle.vc_switch.proofs.ListWrites.{some_at}
use Rattle.vc_vcp.proofs.ListWrites.{set_back}

-- the ways whose ends have other places stay
others_stay : (ends : List End) (lines : List (List Token)) (p : ℕ) (ts : List Token) → ((v : ℕ) (f : End) → slice_get ends v ≡ Some f → place_of f ≢ p) →
    ways_at ends (slice_set lines p ts) ≡ ways_at ends lines
others_stay [] lines p ts apart = refl
others_stay (e ∷ es) lines p ts apart =
    let rest = others_stay es lines p ts (λ v f. apart (suc v) f) in
    λ i. get_or-set_other lines p (place_of e) ts [] (apart 0 e refl) i ∷ rest i

-- and the way whose end some_at the place some_at these tokens
pub way_changes : (ends : List End) (lines : List (List Token)) (w : ℕ) (e : End) (ts : List Token) → slice_get ends w ≡ Some e → place_of e < length lines →
    ((v : ℕ) (f : End) → slice_get ends v ≡ Some f → place_of f ≡ place_of e → v ≡ w) → ways_at ends (slice_set lines (place_of e) ts) ≡ slice_set (ways_at ends lines) w ts
way_changes [] lines w e ts here less one = absurd (cc)
way_changes (x ∷ xs) lines zero e ts here less one =
    let same : x ≡ e = cc in
    let first : get_or (slice_set lines (place_of e) ts) (place_of x) [] ≡ ts = ap (λ z. get_or (slice_set lines (place_of e) ts) (place_of z) []) same ∙ get_or-set_same lines (place_of e) ts [] less in
    let rest = others_stay xs lines (place_of e) ts (λ v f there at. absurd (let z = one (suc v) f there at in omega (arith, z))) in
    λ i. first i ∷ rest i
way_changes (x ∷ xs) lines (suc w) e ts here less one =
    let first = get_or-set_other lines (place_of e) (place_of x) ts [] (λ at. absurd (let z = one 0 x refl at in omega (arith, z))) in
    let rest = way_changes xs lines w e ts here less (λ v f there at. let z = one (suc v) f there at in omega (arith, z)) in
    λ i. first i ∷ rest i

-- what stands at a way
pub way_has : (ends : List End) (lines : List (List Token)) (w : ℕ) (e : End) → slice_get ends w ≡ Some e → slice_get (ways_at ends lines) w ≡ Some (get_or lines (place_of e) [])
way_has ends lines w e here = slice_get-map (λ x. get_or lines (place_of x) []) ends w ∙ ap (option_map (λ x. get_or lines (place_of x) [])) here

-- where no token is on any line none is on any way
pub none_at : (ends : List End) (lines : List (List Token)) → AllByRecursion (λ line. line ≡ []) lines → AllByRecursion (λ way. way ≡ []) (ways_at ends lines)
none_at [] lines empty = tt
none_at (e ∷ es) lines empty = (none_in lines (place_of e) empty, none_at es lines empty)
  where
    none_in : (ls : List (List Token)) (p : ℕ) → AllByRecursion (λ line. line ≡ []) ls → get_or ls p [] ≡ []
    none_in [] p all = refl
    none_in (l ∷ ls) zero all = all.0
    none_in (l ∷ ls) (suc p) all = none_in ls p all.1

-- ends by which ways come in have different places
pub are_apart : (out : List (Option ℕ)) (ends : List End) (places : ℕ) → AreEnds out ends → ((way : ℕ) (e : End) → slice_get ends way ≡ Some e → place_of e < places) → AreApart ends places
are_apart out ends places are within = record {
  within = within;
  one = λ v w e f here there at. (
      let a = (are e.actor e.link v).1 here in
      let b = (are f.actor f.link w).1 there in
      let same = same_from_place e.actor e.link f.actor f.link 32 (in_few out e.actor e.link v a) (in_few out f.actor f.link w b) at in
      let c : in_at out e.actor e.link ≡ Some w = ap (λ z. in_at out z e.link) same.0 ∙ ap (in_at out f.actor) same.1 ∙ b in
      let both : Some v ≡ Some w = sym a ∙ c in
      cc);
}

pub on_ok : {T E P Q : Type 0} (r : Result T E) → (P → Q) → OnOk r P → OnOk r Q
on_ok (Ok x) f h = f h
on_ok (Err e) f h = tt

pub on_err : {T E P Q : Type 0} (r : Result T E) → (P → Q) → OnErr r P → OnErr r Q
on_err (Ok x) f h = tt
on_err (Err e) f h = f h

-- The tokens at the place of an end are those on its way, and change with them.
module _ (ends : List End) (lines : List (List Token)) (apart : AreApart ends (length lines)) (x : ByEnd) (is : record { ends = ends; ways = ways_at ends lines } ≡ x) (w : ℕ) (e : End) (ts line : List Token)
    (leads : slice_get x.ends w ≡ Some e) (stand : slice_get x.ways w ≡ Some ts) where
  leads_in : slice_get ends w ≡ Some e
  leads_in = ap (λ (z : ByEnd). slice_get z.ends w) is ∙ leads

  pub place_there : place_of e < length lines
  place_there = apart.within w e leads_in

  pub same_line : slice_get lines (place_of e) ≡ Some line → ts ≡ line
  same_line read =
      let some_at : Some ts ≡ Some (get_or lines (place_of e) []) = sym stand ∙ sym (ap (λ (z : ByEnd). slice_get z.ways w) is) ∙ way_has ends lines w e leads_in in
      let tokens : ts ≡ get_or lines (place_of e) [] = cc in
      tokens ∙ get_or_from_slice_get lines (place_of e) line [] read

  pub with_tokens : (more : List Token) → record { ends = ends; ways = ways_at ends (slice_set lines (place_of e) more) } ≡ with_line x w more
  with_tokens more =
      (λ i. record { ends = ends; ways = way_changes ends lines w e more leads_in place_there (λ v f here at. apart.one v w f e here leads_in at) i })
      ∙ ap (λ z. with_line z w more) is

  pub unchanged : (more : List Token) → more ≡ line → slice_get lines (place_of e) ≡ Some line → record { ends = ends; ways = ways_at ends (slice_set lines (place_of e) more) } ≡ x
  unchanged more same read = (λ i. record { ends = ends; ways = ways_at ends (set_back lines (place_of e) line more read same i) }) ∙ is

pub same_way : (out : List (Option ℕ)) (ends : List End) (e : End) (v w : ℕ) → AreEnds out ends → slice_get ends v ≡ Some e → slice_get ends w ≡ Some e → v ≡ w
same_way out ends e v w are here there =
    let both : Some v ≡ Some w = sym ((are e.actor e.link v).1 here) ∙ (are e.actor e.link w).1 there in
    cc

-- A token comes to the end of a way, or goes from its front.
module _ (out : List (Option ℕ)) (x : ByEnd) (fronts : List ℕ) (are : AreLined out x.ways fronts) (ends : AreEnds out x.ends) (e : End) (w : ℕ) (leads : slice_get x.ends w ≡ Some e) where
  pub comes_in : in_at out e.actor e.link ≡ Some w
  comes_in = (ends e.actor e.link w).1 leads

  pub actor_kept : e.actor < length fronts
  actor_kept = are.long e.actor e.link w comes_in

  pub link_low : e.link < 32
  link_low = in_few out e.actor e.link w comes_in

  pub actor_low : e.actor < 64
  actor_low = are.few e.actor e.link w comes_in

  pub leads_there : LeadsTo out w e.actor
  leads_there j = ((λ same. (e.link, subst (λ z. in_at out z e.link ≡ Some w) same comes_in)), (λ r. (are.one j r.0 e.actor e.link w r.1 comes_in).0))

  are_new : (new : ByEnd) (marks : List ℕ) (ts : List Token) → new ≡ with_line x w ts → AreLined out (slice_set x.ways w ts) marks → AreLined out new.ways marks × AreEnds out new.ends
  are_new new marks ts is lined = subst (λ (z : ByEnd). AreLined out z.ways marks × AreEnds out z.ends) (sym is) (lined, ends)

  pub token_came : (new : ByEnd) (marks : List ℕ) (ts : List Token) (t : Token) (rest : List Token) → new ≡ with_line x w ts → ts ≡ t ∷ rest → Marked fronts e.actor e.link 1 marks → AreLined out new.ways marks × AreEnds out new.ends
  token_came new marks ts t rest is shape m = are_new new marks ts is (comes_now out x.ways fronts are w ts e.actor e.link comes_in (are.near e.actor e.link w comes_in) marks t rest shape m)

  pub last_went : (new : ByEnd) (marks : List ℕ) (ts : List Token) → new ≡ with_line x w ts → ts ≡ [] → Marked fronts e.actor e.link 0 marks → AreLined out new.ways marks × AreEnds out new.ends
  last_went new marks ts is none m = are_new new marks ts is (comes_no_more out x.ways fronts are w ts e.actor e.link comes_in (are.near e.actor e.link w comes_in) marks none m)

  pub one_went : (new : ByEnd) (ts : List Token) (t : Token) (rest : List Token) → new ≡ with_line x w ts → ts ≡ t ∷ rest → Comes out x.ways e.actor e.link → AreLined out new.ways fronts × AreEnds out new.ends
  one_went new ts t rest is shape before = are_new new fronts ts is (comes_yet out x.ways fronts are w ts e.actor e.link comes_in (are.near e.actor e.link w comes_in) t rest shape before)

-- the way that leads to a port is the one that comes in there
pub far_way : (out : List (Option ℕ)) (x : ByEnd) (e : End) → AreEnds out x.ends → (f : Leads x e) (w : ℕ) → in_at out e.actor e.link ≡ Some w → f.way ≡ w
far_way out x e ends f w into =
    let both : Some f.way ≡ Some w = sym ((ends e.actor e.link f.way).1 f.leads) ∙ into in
    cc

-- an end's place is in the table of the ways that go out
pub end_within : (out : List (Option ℕ)) (ends : List End) → AreEnds out ends → (w : ℕ) (e : End) → slice_get ends w ≡ Some e → place_of e < length out
end_within out ends are w e here = let v = in_out (out_at out e.actor e.link) w ((are e.actor e.link w).1 here) in out_within out e.actor e.link v.0 v.1

there_some : (o : Option (Option ℕ)) (w : ℕ) → there o ≡ Some w → o ≡ Some (Some w)
there_some None w e = absurd (cc)
there_some (Some None) w e = absurd (cc)
there_some (Some (Some v)) w e = ap Some e

out_there : (out : List (Option ℕ)) (k l w : ℕ) → out_at out k l ≡ Some w → slice_get out (k * 32 + l) ≡ Some (Some w)
out_there out k l w e = by_test (nat_lt l 32) refl e
  where
    by_test : (b : Bool) → nat_lt l 32 ≡ b → (if b then there (slice_get out (k * 32 + l)) else None) ≡ Some w → slice_get out (k * 32 + l) ≡ Some (Some w)
    by_test true t e = there_some (slice_get out (k * 32 + l)) w e
    by_test false t e = absurd (cc)

-- the port to which a way leads stands at the link by which it goes out
pub are_far : (p : Plan) → IsAccepted p → (out : List (Option ℕ)) (ends : List End) → AreWaysAt p out → AreEnds out ends → length ends ≡ 2 * length p.wires → AreFar out (map (far_end_of ends) out)
are_far p acc out ends tells are count k l w e =
    let o = (outgoing_is p acc k l w).0 (sym (tells k l) ∙ e) in
    let less = o.0 in
    let many = length-map p.wires wire_of in
    let end = some_at ends w (omega (arith, less, many, count)) in
    let far : End = record { actor = 0; link = 0 } in (
      end.0,
      slice_get-map (far_end_of ends) out (k * 32 + l) ∙ ap (option_map (far_end_of ends)) (out_there out k l w e) ∙ ap Some (get_or_from_slice_get ends w end.0 far end.1),
      (are end.0.actor end.0.link w).1 end.1,
    )
