-- What a lawful process does leads to one state.
use Rattle.std.proofs.Common.{◌≡◌, ℕ, List, Option, sym, ◌∙◌}
use Rattle.vc_process.specs.ProcessStep.{ProcessStep, Offers, Meets, Finishes, Receives}
use Rattle.vc_occam.proofs.Determinate.{doing_one, offers_sent, meets_sent}
use Rattle.vc_occam.proofs.Preservation.{doing_keeps_use}
use Rattle.vc_occam.proofs.Sites.{doing_keeps}
use Rattle.vc_accepted.specs.Determinate.{IsLawful, proceeds, DeedsLeadToOneState, LawfulProcessesStaySo}
use Rattle.vc_accepted.specs.Process.{Process, Goes}

goes_one : (p q r : Process) (d : ProcessStep) → Goes p d q → Goes p d r → IsLawful p → q ≡ r
goes_one p q r d g h l =
    let same = doing_one p.state q.state r.state d g.comms h.comms g.does h.does l.uses l.sites in
    let inside = g.inside ∙ sym h.inside in
    λ i. record { inside = inside i; state = same i }

next_one : (p q r : Process) (d : ProcessStep) → proceeds p d q → proceeds p d r → q ≡ r
next_one p q r (Finishes c) (l, g) (l', h) = goes_one p q r (Finishes c) g h l
next_one p q r (Receives c m) (l, g) (l', h) = goes_one p q r (Receives c m) g h l
next_one p q r d (l, (at, g)) (l', (at', h)) = goes_one p q r d g h l

offer_one : (p q r : Process) (i c : ℕ) (m k : List ℕ) → proceeds p (Offers i c m) q → proceeds p (Offers i c k) r → m ≡ k
offer_one p q r i c m k (l, (at, g)) (l', (at', h)) = offers_sent p.state q.state r.state i c m k g.comms h.comms g.does h.does l.sites

meet_one : (p q r : Process) (i j : ℕ) (n : Option ℕ) (c : ℕ) (m k : List ℕ) → proceeds p (Meets i j n c m) q → proceeds p (Meets i j n c k) r → m ≡ k
meet_one p q r i j n c m k (l, (at, g)) (l', (at', h)) = meets_sent p.state q.state r.state i j n c m k g.comms h.comms g.does h.does l.sites

pub one_state : DeedsLeadToOneState
one_state = record { next = next_one; offer = offer_one; meet = meet_one }

goes_lawful : (p q : Process) (d : ProcessStep) → Goes p d q → IsLawful p → IsLawful q
goes_lawful p q d g l = record { uses = doing_keeps_use p.state q.state d g.comms g.does l.uses; sites = doing_keeps p.state q.state d g.comms g.does l.sites }

pub stay_lawful : LawfulProcessesStaySo
stay_lawful p q (Finishes c) (l, g) = goes_lawful p q (Finishes c) g l
stay_lawful p q (Receives c m) (l, g) = goes_lawful p q (Receives c m) g l
stay_lawful p q x (l, (at, g)) = goes_lawful p q x g l
