-- A table of ways that is filled channel by channel.
use Rattle.std.proofs.Common.{◌≡◌, ℕ, zero, suc, ◌<◌, ◌≤◌, Bool, true, false, ◌&&◌, List, length, take, get_or, slice_get, slice_set, Some, None, refl, sym, ap, ◌∙◌, arith, inl, inr, if◌then◌else◌, eq-eqb}
use Rattle.std.proofs.lemmas.Bool.{cases_eq, ne_eqb}
use Rattle.std.proofs.lemmas.Bool.Decides.{nat_tests}
use Rattle.std.proofs.lemmas.Option.{slice_get-get_or}
use Rattle.std.proofs.Math.ListN.{length-set, replicate}
use mathlib.Core.Path.{fun_ext}
use Rattle.vc_plan.specs.declared.channel.Channel.{Channel}
use Rattle.vc_plan.specs.declared.channel.Home.{Home}
use Rattle.vc_plan.specs.declared.channel.Home.TheVariants.{Way, Inside}
use Rattle.vc_plan.specs.declared.plan.Plan.{Plan}
use Rattle.vc_plan.specs.Accepted.{IsAccepted}
use Rattle.vc_plan.specs.Check.{same_bool}
use Rattle.vc_plan.specs.Limits.{home_there}
use Rattle.vc_vcp.proofs.ListWrites.{place-set_same, place-set_other}
use Rattle.vc_accepted.specs.NodeEnds.{is_on, first_on, ends_among, ends_of_node}
use Rattle.vc_accepted.proofs.Tables.{channel_next}
use Rattle.vc_accepted.proofs.Limits.{home_fits, kept}
use Rattle.vc_actor.specs.Private.Begin.{on_way, on_link, AreWaysOf, carrying, carried, empty_ways}
use Rattle.vc_actor.specs.declared.plan_actors.Ways.{Ways}

one_way : (w : Ways) (c : ℕ) (g f : Bool) → on_way (Some (carrying w g c)) f ≡ (if same_bool g f then Some c else on_way (Some w) f)
one_way w c true true = refl
one_way w c true false = refl
one_way w c false true = refl
one_way w c false false = refl

-- no channel yet
pub none_carried : (n v : ℕ) (f : Bool) → on_link (replicate n empty_ways) v f ≡ None
none_carried zero v f = refl
none_carried (suc n) zero true = refl
none_carried (suc n) zero false = refl
none_carried (suc n) (suc v) f = none_carried n v f

-- a channel more
on_home : (p : Plan) (ws : List Ways) (c : ℕ) (h : Home) → length ws ≡ length p.vlinks → home_there p h ≡ true → (v : ℕ) (f : Bool) → on_link (carried ws h c) v f ≡ (if is_on v f h then Some c else on_link ws v f)
on_home p ws c (Inside n) long there v f = refl
on_home p ws c (Way u g) long there v f = elim (cases_eq v u) [
  | inl e ↦ ap (λ z. on_link (slice_set ws u (carrying w g c)) z f) e
      ∙ ap (λ z. on_way z f) (place-set_same ws u (carrying w g c) less)
      ∙ one_way w c g f
      ∙ ap (λ z. if same_bool g f then Some c else on_way z f) (sym (slice_get-get_or ws u empty_ways less))
      ∙ ap (λ z. if same_bool g f then Some c else on_link ws z f) (sym e)
      ∙ ap (λ b. if b && same_bool g f then Some c else on_link ws v f) (sym (eq-eqb u v (sym e)))
  | inr ne ↦ ap (λ z. on_way z f) (place-set_other ws u v (carrying w g c) ne)
      ∙ ap (λ b. if b && same_bool g f then Some c else on_link ws v f) (sym (ne_eqb u v (λ q. ne (sym q))))
]
  where
    w : Ways
    w = get_or ws u empty_ways

    less : u < length ws
    less = grind (arith, nat_tests)

as_long : (ws : List Ways) (h : Home) (c : ℕ) → length (carried ws h c) ≡ length ws
as_long ws (Way v f) c = length-set ws v (carrying (get_or ws v empty_ways) f c)
as_long ws (Inside n) c = refl

pub next_long : (p : Plan) (ws new : List Ways) (k : ℕ) (x : Channel) → new ≡ carried ws x.home k → length ws ≡ length p.vlinks → length new ≡ length p.vlinks
next_long p ws new k x is long = ap length is ∙ as_long ws x.home k ∙ long

pub next_tells : (p : Plan) → IsAccepted p → (ws new : List Ways) (k : ℕ) (x : Channel) → slice_get p.channels k ≡ Some x → new ≡ carried ws x.home k → length ws ≡ length p.vlinks →
    ((v : ℕ) (f : Bool) → on_link ws v f ≡ first_on 0 (take k p.channels) v f) → (v : ℕ) (f : Bool) → on_link new v f ≡ first_on 0 (take (suc k) p.channels) v f
next_tells p acc ws new k x there is long before v f =
    ap (λ z. on_link z v f) is ∙ on_home p ws k x.home long (home_fits p acc k x there) v f ∙ ap (λ z. if is_on v f x.home then Some k else z) (before v f)
    ∙ sym (channel_next p acc k v f x there)

pub few_channels : (p : Plan) → IsAccepted p → length p.channels ≤ 512
few_channels p acc = let h = (kept p acc).channels in grind (arith, nat_tests)

pub few_nodes : (p : Plan) → IsAccepted p → length p.nodes ≤ 32
few_nodes p acc = let h = (kept p acc).nodes in grind (arith, nat_tests)

-- a node's ends by such a table are those of the plan
pub ends_are : (p : Plan) (ws : List Ways) → AreWaysOf p ws → (n : ℕ) → ends_among (on_link ws) n 0 p.vlinks ≡ ends_of_node p n
ends_are p ws is n = ap (λ on. ends_among on n 0 p.vlinks) (fun_ext (λ v. fun_ext (λ f. is.tells v f)))
