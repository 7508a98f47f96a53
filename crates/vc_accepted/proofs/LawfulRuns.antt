-- Lawful processes stay so in every run, so what the actors did by themselves can be replayed.
use Rattle.std.proofs.Common.{◌≡◌, ℕ, ◌<◌, true, false, sym, subst, List, [], ◌∷◌, Option, Some, inl, inr, nat_lt, arith, length, map}
use Rattle.std.proofs.lemmas.Bool.{cases_eq, cases_lt}
use Rattle.std.proofs.lemmas.Bool.Decides.{nat_tests}
use Rattle.vc_accepted.specs.NetworkOf.{network_of}
use Rattle.vc_accepted.proofs.AcceptedNetwork.{accepted}
use Rattle.vc_network.specs.Actors.{Network, ActBy, Label}
use Rattle.vc_network.specs.Actors.Label.{Own, Takes, Puts}
use Rattle.vc_network.specs.LocalRun.{Turn, LocalRun, plain}
use Rattle.vc_network.specs.EnabledEvents.{IsEnabled}
use Rattle.vc_network.specs.Network.{Act, Proc, Take, Put, Fct, Pass, Actor, IsNode, IsSwitch, Node, Moves, GoesOn, NodeStep, Local, first, begins, Happens, HappenAll}
use Rattle.vc_network.specs.Plan as network
use Rattle.vc_network.specs.Processes.{Move, Offer, Want, Choose, Stopch, Inner, Quiet}
use Rattle.vc_process.specs.ProcessStep.{Offers, Wants, Chooses, Stops, Meets, Rests, Finishes, Receives}
use Rattle.vc_network.specs.Threads.{AreThreads, made_by}
use Rattle.vc_network.proofs.OneStep.{replays_reach}
use Rattle.vc_occam.proofs.Preorder.{at_first}
use Rattle.vc_plan.specs.declared.plan.Plan.{Plan}
use Rattle.vc_plan.specs.Accepted.{IsAccepted}
use Rattle.vc_switch.specs.Waiting.{Waiting}
use Rattle.vc_tokens.specs.Tokens.{Token}
use Rattle.vc_vcp.specs.Steps as node
use Rattle.vc_accepted.specs.Begin.{begin_of, node_plan}
use Rattle.vc_accepted.specs.Determinate.{IsLawful, proceeds}
use Rattle.vc_accepted.specs.Process.{Process, does}
use Rattle.vc_accepted.specs.Threads.{ActsCanBeReplayed}
use Rattle.vc_accepted.proofs.Determinate.{one_state, stay_lawful}
use Rattle.vc_accepted.proofs.Processes.{begins_good}

-- an actor whose process, if it has one, is lawful
abbrev pub LawfulActor : Actor Process → Type 0
LawfulActor (IsNode n) = IsLawful n.process
LawfulActor (IsSwitch s) = Unit {0}

abbrev pub AllLawful : Network (Actor Process) Token → Type 0
AllLawful s = (k : ℕ) → LawfulActor (s.state k)

module _ (plan : network.Plan) (waiting : Waiting) where
  moves_on : (n : ℕ) (old : Node Process) (m : Move) (new : Node Process) → Moves plan does n old m new → IsLawful old.process → Moves plan proceeds n old m new × IsLawful new.process
  moves_on n old (Offer site c) new (m, d, o, by) l = ((m, (l, d), o, by), stay_lawful old.process new.process (Offers site c m) (l, d))
  moves_on n old (Want site c) new (a, end, d, end_open, w, by) l = ((a, end, (l, d), end_open, w, by), stay_lawful old.process new.process (Wants site c a) (l, d))
  moves_on n old (Choose site g c) new (a, end, d, end_open, w, by) l = ((a, end, (l, d), end_open, w, by), stay_lawful old.process new.process (Chooses site g c a) (l, d))
  moves_on n old (Stopch site c) new (d, rest) l = (((l, d), rest), stay_lawful old.process new.process (Stops site c) (l, d))
  moves_on n old (Inner i j g c) new (m, d, within, st, vcp, inner) l = ((m, (l, d), within, st, vcp, inner), stay_lawful old.process new.process (Meets i j g c m) (l, d))
  moves_on n old (Quiet site) new (d, vcp, inner) l = (((l, d), vcp, inner), stay_lawful old.process new.process (Rests site) (l, d))

  goes_on : (old : Process) (t : Option node.Taken) (new : Process) → GoesOn does old t new → IsLawful old → GoesOn proceeds old t new × IsLawful new
  goes_on old (Some (node.Complete c m)) new d l = ((l, d), stay_lawful old new (Receives c m) (l, d))
  goes_on old (Some (node.Finished c)) new d l = ((l, d), stay_lawful old new (Finishes c) (l, d))
  goes_on old o new e l = (e, subst IsLawful (sym e) l)

  node_on : (n : ℕ) (old : Node Process) (label : Label Act Token) (new : Node Process) → NodeStep plan does n old label new → IsLawful old.process → NodeStep plan proceeds n old label new × IsLawful new.process
  node_on n old (Own (Proc m)) new h l = moves_on n old m new h l
  node_on n old (Own (Pass k)) new (t, passes, goes, inner) l = let g = goes_on old.process t new.process goes l in ((t, passes, g.0, inner), g.1)
  node_on n old (Takes (Take k word) way t) new (into, comes, by) l = ((into, comes, by), subst IsLawful (sym by.process) l)
  node_on n old (Puts (Put k) way t) new (out, sends, by) l = ((out, sends, by), subst IsLawful (sym by.process) l)
  node_on n old (Puts (Fct k) way t) new (out, is, sends, by) l = ((out, is, sends, by), subst IsLawful (sym by.process) l)
  node_on n old label new h l = absurd h

  local_on : (k : ℕ) (old : Actor Process) (label : Label Act Token) (new : Actor Process) → Local plan waiting does k old label new → LawfulActor old → Local plan waiting proceeds k old label new × LawfulActor new
  local_on k (IsNode old) label (IsNode new) (less, h) l = let n = node_on k old label new h l in ((less, n.0), n.1)
  local_on k (IsSwitch old) label (IsSwitch new) h l = (h, tt)
  local_on k old label new h l = absurd h

  run_on : (k clock : ℕ) (old : Actor Process) (ts : List (Turn Act Token)) (new : Actor Process) → LocalRun (Local plan waiting does) k clock old ts new → LawfulActor old → LocalRun (Local plan waiting proceeds) k clock old ts new
  run_on k clock old [] new h l = h
  run_on k clock old (t ∷ ts) new (mid, step, at, stamp, rest) l =
      let n = local_on k old (plain t.it) mid step l in
      (mid, n.0, at, stamp, run_on k t.at mid ts new rest n.1)

  pub happens_on : (old : Network (Actor Process) Token) (e : ActBy Act) (new : Network (Actor Process) Token) → Happens plan waiting does old e new → AllLawful old → Happens plan waiting proceeds old e new × AllLawful new
  happens_on old e new (label, is, step) l =
      let n = local_on e.actor (old.state e.actor) label (new.state e.actor) step.local (l e.actor) in (
        (label, is, record { local = n.0; others = step.others; ways = step.ways }),
        λ k. elim (cases_eq k e.actor) [ inl same ↦ subst (λ z. LawfulActor (new.state z)) (sym same) n.1 | inr not ↦ subst LawfulActor (sym (step.others k not)) (l k) ],
      )

  all_on : (old : Network (Actor Process) Token) (es : List (ActBy Act)) (new : Network (Actor Process) Token) → HappenAll plan waiting does old es new → AllLawful old → HappenAll plan waiting proceeds old es new
  all_on old [] new h l = h
  all_on old (e ∷ es) new (mid, step, rest) l = let n = happens_on old e mid step l in (mid, n.0, all_on mid es new rest n.1)

  -- what lawful processes do is what processes do
  moves_off : (n : ℕ) (old : Node Process) (m : Move) (new : Node Process) → Moves plan proceeds n old m new → Moves plan does n old m new
  moves_off n old (Offer site c) new (m, d, o, by) = (m, d.1, o, by)
  moves_off n old (Want site c) new (a, end, d, end_open, w, by) = (a, end, d.1, end_open, w, by)
  moves_off n old (Choose site g c) new (a, end, d, end_open, w, by) = (a, end, d.1, end_open, w, by)
  moves_off n old (Stopch site c) new (d, rest) = (d.1, rest)
  moves_off n old (Inner i j g c) new (m, d, within, st, vcp, inner) = (m, d.1, within, st, vcp, inner)
  moves_off n old (Quiet site) new (d, vcp, inner) = (d.1, vcp, inner)

  goes_off : (old : Process) (t : Option node.Taken) (new : Process) → GoesOn proceeds old t new → GoesOn does old t new
  goes_off old (Some (node.Complete c m)) new d = d.1
  goes_off old (Some (node.Finished c)) new d = d.1
  goes_off old o new e = e

  node_off : (n : ℕ) (old : Node Process) (label : Label Act Token) (new : Node Process) → NodeStep plan proceeds n old label new → NodeStep plan does n old label new
  node_off n old (Own (Proc m)) new h = moves_off n old m new h
  node_off n old (Own (Pass k)) new (t, passes, goes, inner) = (t, passes, goes_off old.process t new.process goes, inner)
  node_off n old (Takes (Take k word) way t) new h = h
  node_off n old (Puts (Put k) way t) new h = h
  node_off n old (Puts (Fct k) way t) new h = h
  node_off n old label new h = absurd h

  local_off : (k : ℕ) (old : Actor Process) (label : Label Act Token) (new : Actor Process) → Local plan waiting proceeds k old label new → Local plan waiting does k old label new
  local_off k (IsNode old) label (IsNode new) (less, h) = (less, node_off k old label new h)
  local_off k (IsSwitch old) label (IsSwitch new) h = h
  local_off k old label new h = absurd h

  enabled_off : (s : Network (Actor Process) Token) (e : ActBy Act) → IsEnabled plan waiting proceeds s e → IsEnabled plan waiting does s e
  enabled_off s e (new, h) = (new, by_label h)
    where
      by_label : Happens plan waiting proceeds s e new → Happens plan waiting does s e new
      by_label (label, is, step) = (label, is, record { local = local_off e.actor (s.state e.actor) label (new.state e.actor) step.local; others = step.others; ways = step.ways })

-- each actor of an accepted plan begins so
begins_lawful : (p : Plan) → IsAccepted p → (n : ℕ) → n < length p.nodes → IsLawful (begin_of p n)
begins_lawful p acc n less = record { uses = (begins_good p acc n less).lawful; sites = at_first (node_plan p n).process }

pub first_lawful : (p : Plan) → IsAccepted p → (k : ℕ) → LawfulActor (first (network_of p) (begin_of p) k)
first_lawful p acc k = elim (cases_lt k (length p.nodes)) [
  | inl less ↦ (let is : nat_lt k (length p.nodes) ≡ true = grind (arith, nat_tests) in rw is (begins_lawful p acc k less))
  | inr past ↦ (let not : nat_lt k (length p.nodes) ≡ false = grind (arith, nat_tests) in rw not tt)
]

pub replayed : ActsCanBeReplayed
replayed p waiting last runs left acts acc threads =
    let plan = network_of p in
    let own : AreThreads plan waiting proceeds (begin_of p) runs last left acts = record {
      fit = record { local = λ k. run_on plan waiting k 0 (first plan (begin_of p) k) (runs k) (last k) (threads.fit.local k) (first_lawful p acc k); ways = threads.fit.ways };
      merged = threads.merged;
    } in
    let law = replays_reach plan waiting proceeds (begin_of p) last runs left acts (accepted p acc) one_state own in (
      λ done rest e mid is happen. enabled_off plan waiting mid e (law.0 done rest e mid is (all_on plan waiting (begins plan (begin_of p)) done mid happen (first_lawful p acc))),
      λ end happen. law.1 end (all_on plan waiting (begins plan (begin_of p)) (map made_by acts) end happen (first_lawful p acc)),
    )
