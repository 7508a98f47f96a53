-- What a plan that breaks no limit keeps.
use Rattle.std.proofs.Common.{◌≡◌, ℕ, zero, suc, ◌≤◌, Bool, true, false, ◌&&◌, List, [], ◌∷◌, length, Option, Some, None, refl, arith, nat_le}
use Rattle.std.proofs.lemmas.Bool.Decides.{nat_tests}
use Rattle.std.specs.Prelude.{slice_get}
use Rattle.std.specs.List.{list_all}
use Rattle.vc_plan.specs.declared.plan.Plan.{Plan}
use Rattle.vc_plan.specs.declared.channel.Channel.{Channel}
use Rattle.vc_plan.specs.declared.switch_plan.RandomInput.{RandomInput}
use Rattle.vc_plan.specs.declared.limit_word.LimitWord.{LimitWord}
use Rattle.vc_plan.specs.declared.limit_word.LimitWord.TheVariants as word
use Rattle.vc_plan.specs.Limits.{unless_ok, limit_broken, part_broken, process_broken, number_broken, version_ok, vars_ok, rows_ok, routes_ok, links_ok, random_ok, range_ok, depth_ok, parts_ok, message_ok, number_ok, names_ok, wire_there, ends_there, home_there, process_names}
use Rattle.vc_plan.specs.Hops.{LimitsFit}

pub record Keeps (p : Plan) : Type 0 where
  pub version : version_ok p ≡ true
  pub nodes : nat_le (length p.nodes) 32 ≡ true
  pub switches : nat_le (length p.switches) 32 ≡ true
  pub wires : nat_le (length p.wires) 256 ≡ true
  pub vlinks : nat_le (length p.vlinks) 256 ≡ true
  pub channels : nat_le (length p.channels) 512 ≡ true
  pub vars : list_all vars_ok p.nodes ≡ true
  pub rows : list_all rows_ok p.switches ≡ true
  pub routes : list_all routes_ok p.vlinks ≡ true
  pub links : links_ok p ≡ true
  pub random : list_all random_ok p.switches ≡ true
  pub depth : list_all depth_ok p.nodes ≡ true
  pub parts : list_all parts_ok p.nodes ≡ true
  pub message : list_all message_ok p.nodes ≡ true
  pub number : number_ok p ≡ true
  pub names : names_ok p ≡ true

ok : (b : Bool) (w : LimitWord) (next : Option LimitWord) → unless_ok b w next ≡ None → (b ≡ true) × (next ≡ None)
ok true w next h = (refl, h)
ok false w next h = absurd cc

pub keeps : (p : Plan) → limit_broken p ≡ None → Keeps p
keeps p h =
    let a = ok (version_ok p) word.Version _ h in
    let b = ok (nat_le (length p.nodes) 32) word.Nodes _ a.1 in
    let c = ok (nat_le (length p.switches) 32) word.Switches _ b.1 in
    let d = ok (nat_le (length p.wires) 256) word.Wires _ c.1 in
    let e = ok (nat_le (length p.vlinks) 256) word.Vlinks _ d.1 in
    let f = ok (nat_le (length p.channels) 512) word.Channels (part_broken p) e.1 in
    let g = ok (list_all vars_ok p.nodes) word.Vars _ f.1 in
    let i = ok (list_all rows_ok p.switches) word.Rows _ g.1 in
    let j = ok (list_all routes_ok p.vlinks) word.Route _ i.1 in
    let k = ok (links_ok p) word.Link _ j.1 in
    let l = ok (list_all random_ok p.switches) word.Random (process_broken p) k.1 in
    let m = ok (list_all depth_ok p.nodes) word.Depth _ l.1 in
    let n = ok (list_all parts_ok p.nodes) word.Parts _ m.1 in
    let o = ok (list_all message_ok p.nodes) word.Message (number_broken p) n.1 in
    let q = ok (number_ok p) word.Number _ o.1 in
    let r = ok (names_ok p) word.Name None q.1 in
    record {
      version = a.0;
      nodes = b.0;
      switches = c.0;
      wires = d.0;
      vlinks = e.0;
      channels = f.0;
      vars = g.0;
      rows = i.0;
      routes = j.0;
      links = k.0;
      random = l.0;
      depth = m.0;
      parts = n.0;
      message = o.0;
      number = q.0;
      names = r.0;
    }

ok_then : (b : Bool) (w : LimitWord) (next : Option LimitWord) → b ≡ true → next ≡ None → unless_ok b w next ≡ None
ok_then true w next h g = g
ok_then false w next h g = absurd cc

pub unbroken : (p : Plan) → Keeps p → limit_broken p ≡ None
unbroken p k =
    ok_then _ _ _ k.version (ok_then _ _ _ k.nodes (ok_then _ _ _ k.switches (ok_then _ _ _ k.wires (ok_then _ _ _ k.vlinks (ok_then _ _ _ k.channels
    (ok_then _ _ _ k.vars (ok_then _ _ _ k.rows (ok_then _ _ _ k.routes (ok_then _ _ _ k.links (ok_then _ _ _ k.random
    (ok_then _ _ _ k.depth (ok_then _ _ _ k.parts (ok_then _ _ _ k.message (ok_then _ _ _ k.number (ok_then _ _ _ k.names refl)))))))))))))))

pub both : (a b : Bool) → (a && b) ≡ true → (a ≡ true) × (b ≡ true)
both true b h = (refl, h)
both false b h = absurd cc

-- each of a list passes
pub passes : {X : Type 0} (test : X → Bool) (xs : List X) (k : ℕ) (x : X) → list_all test xs ≡ true → slice_get xs k ≡ Some x → test x ≡ true
passes test [] k x h e = absurd cc
passes test (y ∷ ys) zero x h e =
    let same : y ≡ x = cc in
    let t : test y ≡ true = (both (test y) (list_all test ys) h).0 in
    cc
passes test (y ∷ ys) (suc k) x h e = passes test ys k x (both (test y) (list_all test ys) h).1 e

range-fits : (r : RandomInput) → range_ok r ≡ true → r.limit ≤ 65536
range-fits r h = grind (arith, nat_tests)

pub limits-fit : (p : Plan) → limit_broken p ≡ None → LimitsFit p
limits-fit p h = λ n k plan r at is.
    let t : random_ok plan ≡ true = passes random_ok p.switches n plan (keeps p h).random at in
    range-fits r (passes range_ok plan.random k r (both (list_all range_ok plan.random) _ t).0 is)

-- the names of each process fit
pub names-fit : (p : Plan) → Keeps p → list_all (process_names p) p.nodes ≡ true
names-fit p k =
    let ends = (both (list_all (wire_there p) p.wires) (list_all (ends_there p) p.vlinks && (list_all (λ (c : Channel). home_there p c.home) p.channels && list_all (process_names p) p.nodes)) k.number).1 in
    let homes = (both (list_all (ends_there p) p.vlinks) (list_all (λ (c : Channel). home_there p c.home) p.channels && list_all (process_names p) p.nodes) ends).1 in
    (both (list_all (λ (c : Channel). home_there p c.home) p.channels) (list_all (process_names p) p.nodes) homes).1
