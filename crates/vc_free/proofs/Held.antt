-- Where nothing can happen but moves of processes, every packet is held at its receiver, where no process inputs.
use Rattle.std.proofs.Common.{◌≡◌, ℕ, zero, suc, ◌<◌, ◌≤◌, Bool, true, false, inl, inr, List, [], ◌∷◌, ◌++◌, length, refl, sym, ap, subst, ◌∙◌, arith, le_refl, append-nil, length-append}
use Rattle.std.proofs.lemmas.Bool.{cases_lt}
use Rattle.std.proofs.lemmas.List.Elements.{All-from_recursion, All-contains}
use Rattle.std.specs.List.{Contains}
use Rattle.vc_accepted.proofs.AcceptedNetwork.{accepted}
use Rattle.vc_accepted.specs.NetworkOf.{network_of}
use Rattle.vc_accepted.specs.Process.{Process}
use Rattle.vc_core.specs.Still.{IsHeld, IsUnasked}
use Rattle.vc_free.specs.Delivery.{in_half, IsThrough}
use Rattle.vc_machine.specs.Links.{Tokens}
use Rattle.vc_machine.specs.Machine.{ChanState}
use Rattle.vc_machine.specs.Paths.{Port, AtNode, AtSwitch}
use Rattle.vc_machine.specs.Places as places
use Rattle.vc_machine.specs.Places.{Place, Queue, OnWire, Inside, BelongsTo, Number, at_place, of_input}
use Rattle.vc_machine.specs.PacketsOfTokens.{read, passed_on, input_of, seen}
use Rattle.vc_machine.specs.Still.{IsClear}
use Rattle.vc_network.proofs.Main.{same_ways, packets, faithful}
use Rattle.vc_network.proofs.TokenViews.{carriers}
use Rattle.vc_network.proofs.Steps.{Good}
use Rattle.vc_network.proofs.Wiring.{carried}
use Rattle.vc_network.specs.Actors.{Network}
use Rattle.vc_network.specs.Network.{Actor}
use Rattle.vc_network.specs.Plan as network
use Rattle.vc_network.specs.Plan.{Way, home, near, far, ways, net_of}
use Rattle.vc_network.specs.Views.{vcps, view, queue_at, in_halves, everywhere}
use Rattle.vc_packets.specs.declared.packet.Packet.{Packet}
use Rattle.vc_plan.specs.Accepted.{IsAccepted}
use Rattle.vc_plan.specs.declared.plan.Plan.{Plan}
use Rattle.vc_tokens.specs.Tokens.{Token}
use Rattle.vc_core.proofs.Still.{halves_held, held_one, unasked}

-- what is all of a list leaves nothing
none_left : (xs rest ys : List (List ℕ)) → xs ++ rest ≡ ys → length ys ≤ length xs → xs ≡ ys
none_left xs [] ys e h = sym (append-nil xs) ∙ e
none_left xs (r ∷ rest) ys e h = absurd (let a = length-append xs (r ∷ rest) in let b = ap length e in omega arith)

module _ (p : Plan) (acc : IsAccepted p) (s : Network (Actor Process) Token) (t : Tokens) (g : Good (network_of p) s t) (clear : (w : ℕ) → w < ways (network_of p) → IsClear (net_of (network_of p)) t w) where
  abbrev M : network.Plan
  M = network_of p

  no_queue : (w : ℕ) → w < ways M → IsClear (net_of M) t w → (q : Port) → near M w ≡ q → (t.nodes.ways w).queue ≡ []
  no_queue w real c (AtNode n l) at = c.queue n l at
  no_queue w real c (AtSwitch k l) at = g.shows.nodes.queue w real ∙ ap (queue_at (carriers (vcps s))) at

  nothing_in_ways : (n : ℕ) → n ≤ ways M → places.in_ways (seen (net_of M) t) n ≡ []
  nothing_in_ways zero h = refl
  nothing_in_ways (suc w) h =
      let c = clear w (omega arith) in
      let q = no_queue w (omega arith) c (near M w) refl in
      let rest = nothing_in_ways w (omega arith) in
      λ i. ((at_place (Queue w) (q i) ++ at_place (OnWire w) (read (passed_on (net_of M) (far M w) (c.got i) (c.mark i)) (c.buffer i ++ c.wire i))) ++ at_place (Inside w) (of_input (input_of (c.got i) (c.mark i) (c.bound i)))) ++ rest i

  halves_only : everywhere M s ≡ in_halves M s (length M.channels)
  halves_only = ap (λ xs. xs ++ in_halves M s (length M.channels)) (sym (same_ways M s t g (ways M) (le_refl (ways M))) ∙ nothing_in_ways (ways M) (le_refl (ways M)))

  pub all_held : (x : Place × Packet) → Contains (everywhere M s) x → IsHeld x.0
  all_held x here =
      All-contains (λ (x : Place × Packet). IsHeld x.0) (in_halves M s (length M.channels)) x
      (All-from_recursion (λ (x : Place × Packet). IsHeld x.0) (in_halves M s (length M.channels)) (halves_held M s (length M.channels)))
      (subst (λ xs. Contains xs x) halves_only here)

  pub ways_empty : (w : ℕ) → w < ways M → s.way w ≡ []
  ways_empty w real = sym (g.shows.wire w) ∙ (clear w real).wire

  pub held_unasked : (c v : ℕ) (ab : Bool) → home M c ≡ Way v ab → c < length M.channels → length (view M s c).offered ≡ suc (view M s c).finished → IsUnasked M s c
  held_unasked c v ab at less unfinished =
      let one = (packets M s t g (accepted p acc) c v ab less at).one_packet unfinished in
      let q = held_one M s c (length M.channels) (subst (λ xs. Number (BelongsTo (net_of M) c) xs 1) halves_only one) in
      let inv = g.sound.inv in
      let chan = g.shows.nodes.chan c in
      let fits = (inv.chans c (carried M c v ab at)).phase in
      record {
        packet = q.0;
        held = q.1;
        unasked = sym (ap (λ (x : ChanState). x.wants) chan) ∙ unasked ((net_of M).chan c) (inv.phases c) (t.nodes.chans c) _ q.0 fits (ap (λ (x : ChanState). x.held) chan ∙ q.1);
      }

  pub asked_through : (c v : ℕ) (ab : Bool) → home M c ≡ Way v ab → c < length M.channels → (in_half p s c).wants ≡ true → IsThrough p s c
  asked_through c v ab at less wants = elim (cases_lt (view M s c).finished (length (view M s c).offered)) [
    | inl more ↦ absurd (let f = faithful M s t g c less in
        let one = f.one_output in
        let u = held_unasked c v ab at less (omega arith) in
        let q : false ≡ true = sym u.unasked ∙ wants in
        cc)
    | inr all ↦ (let f = faithful M s t g c less in
        let few = f.finished in
        let rest = f.in_order in
        let len = ap length rest.1 in
        let app = length-append (view M s c).taken rest.0 in
        record { taken = none_left (view M s c).taken rest.0 (view M s c).offered rest.1 (omega arith); finished = omega arith })
  ]
