use Rattle.std.proofs.Common.{◌≡◌, ◌++◌, [], ◌∷◌, ◌≤◌, ℕ, List, None, length, refl, sym, ap, subst, ◌∙◌, arith}
use Rattle.vc_packets.specs.declared.packet.Packet.{Packet}
use Rattle.vc_tokens.specs.Tokens.{Token, Whole, bytes, spelling}
use Rattle.vc_tokens.specs.CodeTokens.{tokens}
use Rattle.vc_tokens.specs.Decoding.{Decoding, IsRead}
use Rattle.vc_uses.proofs.line.over_a_line.Goals as goal

nothing_behind : (ts : List Token) → ts ++ [] ≡ ts
nothing_behind [] = refl
nothing_behind (t ∷ ts) = ap (λ us. t ∷ us) (nothing_behind ts)

at_most : (n : ℕ) → n ≤ n
at_most n = omega arith

whole : (p : Packet) (ts : List Token) → ts ≡ spelling p → Whole (length p.body) ts (p ∷ []) []
whole p ts is = record {
  spells = is ∙ sym (nothing_behind (spelling p ++ []) ∙ nothing_behind (spelling p));
  bodies = (at_most (length p.body), _);
  rest_fits = omega arith;
}

fresh : (old new : Decoding) (limit : ℕ) (ts : List Token) (ps : List Packet) → old ≡ record { rest = []; limit = limit; broken = None } → IsRead old ts ps new → Whole limit ts ps new.rest
fresh old new limit ts ps is read = subst (λ d. Whole d.limit (bytes d.rest ++ ts) ps new.rest) is read.whole

pub returns-in-Ok : goal.returns-in-Ok
returns-in-Ok c =
    let p = c.args.packet.now in
    let ts = tokens c.as_slice.result.now in
    let spelled : ts ≡ spelling p = ap tokens c.as_slice.ensures.value ∙ c.in_ok-spelled.ensures in
    let read = fresh c.in_ok-decoder.decoder c.feed.new.self (length p.body) ts c.in-Ok.packets.items (subst (λ n. c.in_ok-decoder.decoder ≡ record { rest = []; limit = n; broken = None }) c.len.ensures c.in_ok-decoder.ensures) c.in-Ok.ensures.ok in
    (c.readings_are_one.ensures (length p.body) ts c.in-Ok.packets.items (p ∷ []) _ [] read (whole p ts spelled)).0
