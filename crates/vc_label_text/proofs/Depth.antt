-- How deep the parts of a value nest.
use Rattle.std.proofs.Common.{◌≡◌, ◌≤◌, ℕ, suc, max, List, Option, Some, None, Ordering, Less, Equal, Greater, subst, arith}
use Rattle.std.proofs.Math.Nat.{le-max_left, le-max_right}
use Rattle.std.specs.Ordering.{match_ordering, nat_cmp}
use Rattle.std.specs.Cmp.Lexicographic.{slice_cmp}
use Rattle.serde_json.specs.Data.{Data, null, boolean, number, string, array, object, Members, no_members, member, depth, members_depth}
use Rattle.serde_json.specs.Find.{get, get_member}

in_one : (o : Ordering) (rest : Option Data) (e d : Data) (m : ℕ) → (rest ≡ Some d → depth d ≤ m) → match_ordering o rest (Some e) rest ≡ Some d →
    depth d ≤ max (depth e) m
in_one Less rest e d m h p = omega (arith, h p, le-max_right (depth e) m)
in_one Equal rest e d m h p =
    let q : e ≡ d = cc in
    subst (λ x. depth x ≤ max (depth e) m) q (le-max_left (depth e) m)
in_one Greater rest e d m h p = omega (arith, h p, le-max_right (depth e) m)

-- a member is no deeper than all members
member_depth : (k : List ℕ) (ms : Members) (d : Data) → get_member k ms ≡ Some d → depth d ≤ members_depth ms
member_depth k no_members d p = cc
member_depth k (member l e ms) d p =
    in_one (slice_cmp nat_cmp k l) (get_member k ms) e d (members_depth ms) (member_depth k ms d) p

-- a field is no deeper than its object
pub get_depth : (k : List ℕ) (v d : Data) → get k v ≡ Some d → depth d ≤ depth v
get_depth k null d p = cc
get_depth k (boolean b) d p = cc
get_depth k (number n) d p = cc
get_depth k (string s) d p = cc
get_depth k (array ds) d p = cc
get_depth k (object ms) d p = omega (arith, member_depth k ms d p)
