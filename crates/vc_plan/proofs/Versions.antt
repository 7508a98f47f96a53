-- Nothing but one limit asks for a plan's version.
use mathlib.Core.Path.{fun_ext}
use Rattle.std.proofs.Common.{◌≡◌, ℕ, zero, suc, Bool, true, false, ◌&&◌, ◌||◌, ◌==◌, List, length, Option, None, refl, sym, ap, ap₂, subst, ◌∙◌, nat_le}
use Rattle.std.specs.List.{list_all}
use Rattle.vc_labels.specs.declared.action.Action.{Action}
use Rattle.vc_labels.specs.declared.action.Action.TheVariants.{Out, Portal}
use Rattle.vc_process.specs.declared.channel_use.ChannelUse.{ChannelUse}
use Rattle.vc_plan.specs.declared.channel.Channel.{Channel}
use Rattle.vc_plan.specs.declared.channel.Home.{Home}
use Rattle.vc_plan.specs.declared.channel.Home.TheVariants.{Way, Inside}
use Rattle.vc_plan.specs.declared.limit_word.LimitWord.{LimitWord}
use Rattle.vc_plan.specs.declared.limit_word.LimitWord.TheVariants as word
use Rattle.vc_plan.specs.declared.path_fault.Hop.{Hop}
use Rattle.vc_plan.specs.declared.plan.Plan.{Plan}
use Rattle.vc_plan.specs.declared.port.Port.{Port}
use Rattle.vc_plan.specs.declared.port.Spot.{Spot}
use Rattle.vc_plan.specs.declared.port.Spot.TheVariants.{Node, Switch}
use Rattle.vc_plan.specs.declared.port.Wire.{Wire}
use Rattle.vc_plan.specs.declared.vlink.End.{End}
use Rattle.vc_plan.specs.Accepted.{HasLawfulTables, IsAccepted, IsAtEnd, IsRightUse}
use Rattle.vc_plan.specs.Delivery.{Delivers, IsLabelled, IsWellAt}
use Rattle.vc_plan.specs.Hops.{IsHop}
use Rattle.vc_plan.specs.Limits.{depth_ok, ends_there, home_there, limit_broken, links_ok, message_ok, names_ok, number_broken, number_ok, part_broken, parts_ok, process_broken, process_names, random_ok, routes_ok, rows_ok, spot_there, unless_ok, vars_ok, version_ok}
use Rattle.vc_plan.proofs.KeptLimits.{limits_of, tests_are}
use Rattle.vc_plan.proofs.Limits.{keeps}
use Rattle.vc_plan.specs.Versions.{IsVersionOne, version_two, VersionsAgree}
use Rattle.vc_plan.specs.Wires.{IsWiredAction}

abbrev with_version : Plan → ℕ → Plan
with_version p v = record p { version = v }

module _ (p : Plan) (v : ℕ) where
  -- the numbers name the same parts
  spot_same : (s : Spot) → spot_there (with_version p v) s ≡ spot_there p s
  spot_same (Node n) = refl
  spot_same (Switch n) = refl

  home_same : (h : Home) → home_there (with_version p v) h ≡ home_there p h
  home_same (Way k from_a) = refl
  home_same (Inside n) = refl

  number_same : number_ok (with_version p v) ≡ number_ok p
  number_same =
      ap₂ (λ a c. a && (list_all (ends_there p) p.vlinks && (c && list_all (process_names p) p.nodes)))
      (ap (λ f. list_all f p.wires) (fun_ext (λ (w : Wire). ap₂ (λ x y. x && y) (spot_same w.one.spot) (spot_same w.two.spot))))
      (ap (λ f. list_all f p.channels) (fun_ext (λ (c : Channel). home_same c.home)))

  broken_same : number_broken (with_version p v) ≡ number_broken p
  broken_same = ap (λ b. unless_ok b word.Number (unless_ok (names_ok p) word.Name None)) number_same

  process_same : process_broken (with_version p v) ≡ process_broken p
  process_same = ap (λ z. unless_ok (list_all depth_ok p.nodes) word.Depth (unless_ok (list_all parts_ok p.nodes) word.Parts (unless_ok (list_all message_ok p.nodes) word.Message z))) broken_same

  part_same : part_broken (with_version p v) ≡ part_broken p
  part_same =
      ap (λ z. unless_ok (list_all vars_ok p.nodes) word.Vars (unless_ok (list_all rows_ok p.switches) word.Rows (unless_ok (list_all routes_ok p.vlinks) word.Route
      (unless_ok (links_ok p) word.Link (unless_ok (list_all random_ok p.switches) word.Random z))))) process_same

  -- whatever limits there are but that of the version
  other_broken : Option LimitWord → Option LimitWord
  other_broken z =
      unless_ok (nat_le (length p.nodes) 32) word.Nodes (unless_ok (nat_le (length p.switches) 32) word.Switches
      (unless_ok (nat_le (length p.wires) 256) word.Wires (unless_ok (nat_le (length p.vlinks) 256) word.Vlinks
      (unless_ok (nat_le (length p.channels) 512) word.Channels z))))

  unbroken : (old new : Bool) → unless_ok old word.Version (other_broken (part_broken p)) ≡ None → new ≡ true → unless_ok new word.Version (other_broken (part_broken p)) ≡ None
  unfolding other_broken
  unbroken true new e is = subst (λ b. unless_ok b word.Version (other_broken (part_broken p)) ≡ None) (sym is) e
  unbroken false new e is = cc

  limit_same : limit_broken p ≡ None → version_ok (with_version p v) ≡ true → limit_broken (with_version p v) ≡ None
  unfolding other_broken
  limit_same e is = ap (λ z. unless_ok (version_ok (with_version p v)) word.Version (other_broken z)) part_same ∙ unbroken (version_ok p) (version_ok (with_version p v)) e is

  -- processes use the same channels
  end_same : (h : Home) (is_output : Bool) (n : ℕ) → IsAtEnd p h is_output n → IsAtEnd (with_version p v) h is_output n
  end_same (Way k from_a) is_output n e = e
  end_same (Inside m) is_output n e = e

  use_same : (n : ℕ) (u : ChannelUse) → IsRightUse p n u → IsRightUse (with_version p v) n u
  use_same n u r = record { channel = r.channel; there = r.there; at_end = end_same r.channel.home u.is_output n r.at_end; kind = r.kind }

  -- tables lead by the same wires
  wired_same : (n : ℕ) (a : Action) → IsWiredAction p n a → IsWiredAction (with_version p v) n a
  wired_same n (Out first last) h = h
  wired_same n Portal h = h

  tables_same : HasLawfulTables p → HasLawfulTables (with_version p v)
  tables_same h n plan there = let l = h n plan there in record { table = l.table; wired = λ k row at. wired_same n row.action (l.wired k row at) }

  -- packets make the same hops
  hop_same : (from : Port) (s : List ℕ) (h : Hop) (to : Port) (t : List ℕ) → IsHop p from s h to t → IsHop (with_version p v) from s h to t
  hop_same from s h to t x =
      record { first = x.first; last = x.last; out = x.out; at = x.at; drawn = x.drawn; goes = x.goes; low = x.low; high = x.high; far = x.far; left = x.left }

hop_back : (p : Plan) (v : ℕ) (from : Port) (s : List ℕ) (h : Hop) (to : Port) (t : List ℕ) → IsHop (with_version p v) from s h to t → IsHop p from s h to t
hop_back p v from s h to t x = hop_same (with_version p v) p.version from s h to t x

module _ (p : Plan) (v : ℕ) (e : End) where
  -- what is well stays so where what follows does
  well_same : (Well Better : Port → List ℕ → Type 0) → ((q : Port) (t : List ℕ) → Well q t → Better q t) → (from : Port) (s : List ℕ) (spot : Spot) → IsWellAt p e Well from s spot → IsWellAt (with_version p v) e Better from s spot
  well_same Well Better on from s (Node n) h = h
  well_same Well Better on from s (Switch n) (each, all) = (
    λ x drawn. (let (h, q, t, value, hop) = each x drawn in (h, q, t, value, hop_same p v from s h q t hop)),
    λ h q t hop. on q t (all h q t (hop_back p v from s h q t hop)),
  )

  delivers_same : (n : ℕ) (from : Port) (s : List ℕ) → Delivers p e n from s → Delivers (with_version p v) e n from s
  unfolding Delivers
  delivers_same zero from s h = well_same (λ q t. ⊥) (λ q t. ⊥) (λ q t x. x) from s from.spot h
  delivers_same (suc n) from s h = well_same (λ q t. Delivers p e n q t) (λ q t. Delivers (with_version p v) e n q t) (λ q t x. delivers_same n q t x) from s from.spot h

module _ (p : Plan) (v : ℕ) where
  labelled_same : IsLabelled p p.vlinks → IsLabelled (with_version p v) p.vlinks
  labelled_same h k x at =
      let l = h k x at in
      record { there = λ q far. delivers_same p v x.b 32 q x.a.route (l.there q far); back = λ q far. delivers_same p v x.a 32 q x.b.route (l.back q far) }

  accepted_same : IsAccepted p → version_ok (with_version p v) ≡ true → IsAccepted (with_version p v)
  accepted_same h is = record {
    limits = tests_are (with_version p v) (keeps (with_version p v) (limit_same p v (limits_of p h) is));
    one_port = h.one_port;
    sends = h.sends;
    one_end = h.one_end;
    tables = tables_same p v h.tables;
    labelled = labelled_same h.labelled;
    apart = h.apart;
    one_channel = h.one_channel;
    uses = λ n k node u at used. use_same p v n u (h.uses n k node u at used);
    lawful_use = h.lawful_use;
  }

is_allowed : (p : Plan) → IsVersionOne p → version_ok p ≡ true
is_allowed p (one, none) = ap₂ (λ n b. (n == 2) || ((n == 1) && b)) one none

pub agree : VersionsAgree
agree = record {
  hops = λ p from s h to t. (hop_same p 2 from s h to t, hop_back p 2 from s h to t);
  delivery = λ p e n from s. (delivers_same p 2 e n from s, delivers_same (version_two p) p.version e n from s);
  accepted = λ p one. ((λ h. accepted_same p 2 h refl), (λ h. accepted_same (version_two p) p.version h (is_allowed p one)));
}
