-- The test of a use of a channel, and a use that is right.
use Rattle.std.proofs.Common.{◌≡◌, ℕ, Bool, true, false, ◌==◌, ◌&&◌, not, if◌then◌else◌, Option, Some, None, refl, sym, ap, ap₂, ◌∙◌, arith}
use Rattle.std.proofs.lemmas.Bool.{eqb-true}
use Rattle.std.proofs.lemmas.Bool.Decides.{nat_tests}
use Rattle.std.specs.Prelude.{slice_get}
use Rattle.vc_process.specs.declared.channel_use.ChannelUse.{ChannelUse}
use Rattle.vc_process.specs.declared.value_kind.ValueKind.{ValueKind}
use Rattle.vc_process.specs.declared.value_kind.ValueKind.TheVariants.{Int, Bytes}
use Rattle.vc_process.specs.Limits.{same_kind}
use Rattle.vc_plan.specs.declared.channel.Channel.{Channel}
use Rattle.vc_plan.specs.declared.channel.Home.{Home}
use Rattle.vc_plan.specs.declared.channel.Home.TheVariants.{Way, Inside}
use Rattle.vc_plan.specs.declared.plan.Plan.{Plan}
use Rattle.vc_plan.specs.declared.vlink.Vlink.{Vlink}
use Rattle.vc_plan.specs.Accepted.{IsAtEnd, IsOfKind, IsRightUse, end_of}
use Rattle.vc_plan.specs.Check.{channel_used, end_is_at, end_is_there, has_end, kind_fits, same_bool, use_ok}
use Rattle.vc_plan.proofs.Limits.{both}

itself : (n : ℕ) → (n == n) ≡ true
itself n = grind (arith, nat_tests)

is_at : (x : Vlink) (side : Bool) (n : ℕ) → end_is_at x side n ≡ true → (end_of x side).node ≡ n
is_at x true n h = eqb-true x.a.node n h
is_at x false n h = eqb-true x.b.node n h

at_is : (x : Vlink) (side : Bool) (n : ℕ) → (end_of x side).node ≡ n → end_is_at x side n ≡ true
at_is x true n e = ap (λ m. x.a.node == m) (sym e) ∙ itself x.a.node
at_is x false n e = ap (λ m. x.b.node == m) (sym e) ∙ itself x.b.node

-- the end at which a channel of this way is output on, or else input on
side_is : (from_a is_output : Bool) → same_bool from_a is_output ≡ (if is_output then from_a else not from_a)
side_is true true = refl
side_is true false = refl
side_is false true = refl
side_is false false = refl

module _ (p : Plan) (n : ℕ) where
  end_right : (h : Home) (is_output : Bool) → has_end p h is_output n ≡ true → IsAtEnd p h is_output n
  end_right (Inside m) is_output h = eqb-true m n h
  end_right (Way v f) is_output h = by (slice_get p.vlinks v) refl h
    where
      by : (o : Option Vlink) → slice_get p.vlinks v ≡ o → end_is_there o (same_bool f is_output) n ≡ true → IsAtEnd p (Way v f) is_output n
      by None e g = absurd cc
      by (Some x) e g = (x, e, ap (λ side. (end_of x side).node) (sym (side_is f is_output)) ∙ is_at x (same_bool f is_output) n g)

  right_end : (h : Home) (is_output : Bool) → IsAtEnd p h is_output n → has_end p h is_output n ≡ true
  right_end (Inside m) is_output e = ap (λ j. m == j) (sym e) ∙ itself m
  right_end (Way v f) is_output (x, e, at) =
      ap (λ o. end_is_there o (same_bool f is_output) n) e
      ∙ at_is x (same_bool f is_output) n (ap (λ side. (end_of x side).node) (side_is f is_output) ∙ at)

kind_right : (o : Option ValueKind) (k : ValueKind) → kind_fits o k ≡ true → IsOfKind o k
kind_right None k h = tt
kind_right (Some Int) Int h = refl
kind_right (Some Bytes) Bytes h = refl
kind_right (Some Int) Bytes h = absurd cc
kind_right (Some Bytes) Int h = absurd cc

same-kind-self : (k : ValueKind) → same_kind k k ≡ true
same-kind-self Int = refl
same-kind-self Bytes = refl

right_kind : (o : Option ValueKind) (k : ValueKind) → IsOfKind o k → kind_fits o k ≡ true
right_kind None k h = refl
right_kind (Some j) k h = ap (same_kind j) (sym h) ∙ same-kind-self j

pub use_right : (p : Plan) (n : ℕ) (u : ChannelUse) → use_ok p n u ≡ true → IsRightUse p n u
use_right p n u h = by (slice_get p.channels u.chan) refl h
  where
    by : (o : Option Channel) → slice_get p.channels u.chan ≡ o → channel_used p n u o ≡ true → IsRightUse p n u
    by None e g = absurd cc
    by (Some c) e g =
        let t = both (has_end p c.home u.is_output n) (kind_fits u.kind c.kind) g in
        record { channel = c; there = e; at_end = end_right p n c.home u.is_output t.0; kind = kind_right u.kind c.kind t.1 }

pub right_use : (p : Plan) (n : ℕ) (u : ChannelUse) → IsRightUse p n u → use_ok p n u ≡ true
right_use p n u r =
    ap (channel_used p n u) r.there
    ∙ ap₂ (λ a b. a && b) (right_end p n r.channel.home u.is_output r.at_end) (right_kind u.kind r.channel.kind r.kind)
