use Rattle.std.proofs.Common.{◌≡◌, ◌↔◌, ◌<◌, ◌++◌, ◌∷◌, [], ℕ, List, IsTrue, None, take, sym, ◌∙◌, subst}
use Rattle.vc_machine.specs.Places.{IsOf, OnWire}
use Rattle.vc_network.specs.Plan.{net_of, ways}
use Rattle.vc_packets.specs.declared.packet.Packet.{Packet}
use Rattle.vc_accepted.specs.NetworkOf.{network_of}
use Rattle.vc_core.specs.Private.Targets.{Has, IsOwned}
use Rattle.vc_core.proofs.Membership.{read_already, last_read}
use Rattle.vc_core.proofs.reader.Reader.ended.Goals.{then-self, else-self}
use Rattle.vc_core.proofs.reader.Reader.ended.Goals as goal

pub returns : goal.returns
returns c = λ p c' w ps got is h. record {
  way = h.way;
  real = h.real;
  ends = h.ends;
  prefix = c.of.ensures;
  found = λ all.
      let net = net_of (network_of p) in
      let m = c.args.mark in
      let q : Packet = record { body = got; mark = m } in
      let Its : Packet → Type 0 = λ k. IsOf net w None k c' in
      elim c.if-self.branch [
        | then-self x ↦ subst (λ t. IsTrue t ↔ Has Its (ps ++ q ∷ [])) (sym (x.found-is ∙ x.if-self.true)) (read_already p c' w ps q c.args.self.found x.if-self.true h.found all)
        | else-self x ↦
            let bytes : x.bytes.result.now ≡ take 45 got = x.bytes.ensures ∙ h.prefix in
            let here = x.is_its-found.ensures p c' is (subst (λ v. v < ways (network_of p)) (sym h.way) h.real) h.ends in
            let told = subst (λ v. IsOwned (network_of p) (OnWire v, record { body = take 45 got; mark = m }) → IsTrue x.is_its-found.result ↔ IsOf net v None (record { body = take 45 got; mark = m }) c') h.way
            (subst (λ (b : List ℕ). IsOwned (network_of p) (OnWire c.args.self.way, record { body = b; mark = m }) → IsTrue x.is_its-found.result ↔ IsOf net c.args.self.way None (record { body = b; mark = m }) c') bytes here) in
            subst (λ t. IsTrue t ↔ Has Its (ps ++ q ∷ [])) (sym x.found-is) (last_read p c' w ps got m c.args.self.found x.is_its-found.result x.if-self.false h.found told all)
      ];
}
