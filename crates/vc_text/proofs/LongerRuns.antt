-- A run that goes on.
use Rattle.std.proofs.Common.{◌≡◌, ◌+◌, ◌-◌, ◌^◌, ◌<◌, ◌≤◌, ℕ, List, [], ◌∷◌, ◌++◌, append-nil, append_assoc, arith, length, length-append, inr, refl, subst, sym, ap, ◌∙◌}
use Rattle.std.specs.Int.{bit_at}
use Rattle.vc_accepted.specs.Process.{Process}
use Rattle.vc_actor.specs.StepsInARow.{RestsOn, still, on}
use Rattle.vc_actor.specs.declared.act.Act.TheVariants.{Proc}
use Rattle.vc_network.specs.Network as net
use Rattle.vc_network.specs.Plan as network
use Rattle.vc_occam.specs.declared.moves.Move.TheVariants.{Quiet}
use Rattle.vc_core.specs.Awake.{StaysAwake}
use Rattle.vc_core.specs.StepsInARow.{MakesSteps}
use Rattle.vc_core.proofs.Awake.{rests_same}
use Rattle.vc_text.specs.declared.generators.Generators.{Generators}
use Rattle.vc_text.proofs.GeneratorDraws.{given_still, given_words}
use Rattle.vc_text.proofs.StepsInARow.{as_many, events_by, reached_on}
use Rattle.std.proofs.lemmas.Nat.Bits.{bit_at_ones}
use Rattle.vc_core.specs.State.{State, shown, state_of, IsNetworkOf, MakesEvent}
use Rattle.vc_core.specs.declared.event.Event.{Event}
use Rattle.vc_core.proofs.ReplayRuns.{reached_next, replays}
use Rattle.vc_plan.specs.declared.plan.Plan.{Plan}
use Rattle.vc_text.specs.Private.Generators.{HaveGiven}
use Rattle.vc_text.specs.Private.Quiet.{AreQuiet}
use Rattle.vc_text.specs.Private.Simulation.{HasRun, HasRunSoFar, HasTaken, LeadsOnSoFar, all_awake}
use Rattle.vc_text.specs.RunText.{HasStopped, IsRunSoFar}
use Rattle.vc_text.specs.declared.schedule.Schedule.{Schedule}
use Rattle.vc_text.specs.declared.schedule.Schedule.TheVariants.{InTurn}
use Rattle.vc_text.specs.declared.simulation.Progress.{Progress}
use Rattle.vc_text.specs.declared.simulation.Simulation.{Simulation}
use Rattle.vc_text.proofs.QuietActors.{none_quiet}

-- where a run is told of that goes on
pub so_far : (p : Plan) (es : List Event) (run : Simulation) (far : Progress) (limit : ℕ) → far.made ≤ limit → HasRunSoFar p es run far → IsRunSoFar p InTurn limit es (shown (state_of run.network))
so_far p es run far limit less has = record {
  few = (let many = has.many in omega (arith, less, many));
  runs = (replays p es (state_of run.network) has.reached).runs;
  order = tt;
  words = given_words p es run.generators has.words;
}

-- a run stops at an event that could not be taken
pub stops_there : {K : Type 0} (holds : K → Plan → List Event → State → Type 0) (left : K → Plan → List Event → Type 0) (taken : K) (p : Plan) (es : List Event) (e : Event) (old : Simulation) (far : Progress) (t : State) (after : Generators) →
    MakesEvent p (state_of old.network) e t → HaveGiven p (es ++ e ∷ []) after → HasRunSoFar p es old far → left taken p (es ++ e ∷ []) → HasStopped holds left taken p InTurn (far.made + 1)
stops_there holds left taken p es e old far t after makes words run told = (
  es ++ e ∷ [],
  t,
  record {
    few = (let many = run.many in let more = length-append es (e ∷ []) in omega (arith, many, more));
    runs = (replays p (es ++ e ∷ []) t (reached_next p es e (state_of old.network) t run.reached makes)).runs;
    order = tt;
    words = given_words p (es ++ e ∷ []) after words;
  },
  inr told,
)

-- of no more events than may be
pub stops_within : {K : Type 0} (holds : K → Plan → List Event → State → Type 0) (left : K → Plan → List Event → Type 0) (taken : K) (p : Plan) (schedule : Schedule) (m n : ℕ) → m ≤ n →
    HasStopped holds left taken p schedule m → HasStopped holds left taken p schedule n
stops_within holds left taken p schedule m n less (es, s, ran, told) = (
  es,
  s,
  record {
    few = (let few = ran.few in omega (arith, few, less));
    runs = ran.runs;
    order = ran.order;
    words = ran.words;
  },
  told,
)

-- one event more
pub one_more : {K : Type 0} (holds : K → Plan → List Event → State → Type 0) (p : Plan) (es : List Event) (e : Event) (old new : Simulation) (far far' : Progress) (taken : K) →
    HasTaken holds taken p (es ++ e ∷ []) new → far'.made ≡ far.made + 1 → MakesEvent p (state_of old.network) e (state_of new.network) → HaveGiven p (es ++ e ∷ []) new.generators →
    AreQuiet p (state_of new.network) far'.awake → HasRunSoFar p es old far → (es' : List Event) × HasTaken holds taken p es' new × HasRunSoFar p es' new far'
one_more holds p es e old new far far' taken kept made makes words quiet run = (
  es ++ e ∷ [],
  kept,
  record {
    reached = reached_next p es e (state_of old.network) (state_of new.network) run.reached makes;
    many = length-append es (e ∷ []) ∙ ap (λ n. n + 1) run.many ∙ sym made;
    words = words;
    quiet = quiet;
  },
)

-- what is done in two parts
pub then_on : {K : Type 0} (holds : K → K → Plan → List Event → State → Type 0) (a b c : Simulation) (x y z : K) (l m n : Progress) →
    LeadsOnSoFar holds a x l b y m → LeadsOnSoFar holds b y m c z n → LeadsOnSoFar holds a x l c z n
then_on holds a b c x y z l m n first second = λ from p es kept run. let mid = first from p es kept run in second from p mid.0 mid.1 mid.2

pub stays_on : {K : Type 0} (holds : K → K → Plan → List Event → State → Type 0) (a : Simulation) (x : K) (m : Progress) → LeadsOnSoFar holds a x m a x m
stays_on holds a x m = λ from p es kept run. (es, kept, run)

-- at first all may have an event
pub goes_on : (p : Plan) (es : List Event) (run : Simulation) → HasRun p es run → HasRunSoFar p es run (all_awake run.made)
goes_on p es run has = record {
  reached = has.reached;
  many = has.many;
  words = has.words;
  quiet = none_quiet p (state_of run.network) (2 ^ 64 - 1) (λ k low. bit_at_ones 64 k low);
}

-- where the run has counted them
pub counts : (p : Plan) (es : List Event) (run : Simulation) (far : Progress) → HasRunSoFar p es run far → HasRun p es (record run { made = far.made })
counts p es run far has = record { reached = has.reached; many = has.many; words = has.words }

-- steps of one actor, which is awake
given_on : (p : Plan) (g : Generators) {plan : network.Plan} (k : ℕ) (es : List Event) {m : ℕ} {a b : net.Actor Process} (steps : RestsOn plan k m a b) → HaveGiven p es g → HaveGiven p (es ++ events_by steps) g
unfolding events_by
given_on p g k es still given = subst (λ xs. HaveGiven p xs g) (sym (append-nil es)) given
given_on p g k es (on i step more) given =
    let e : Event = record { actor = k; act = Proc (Quiet i) } in
    subst (λ xs. HaveGiven p xs g) (append_assoc es (e ∷ []) (events_by more)) (given_on p g k (es ++ e ∷ []) more (given_still p es e g g tt refl given))

pub more_steps : (p : Plan) (es : List Event) (actor m : ℕ) (old new : Simulation) (far far' : Progress) → new.generators ≡ old.generators → actor < 64 → bit_at far.awake actor ≡ 1 → far'.awake ≡ far.awake → far'.made ≡ far.made + m →
    ((mask : ℕ) → StaysAwake (state_of old.network) mask (state_of new.network) mask) → ((q : Plan) → IsNetworkOf q (state_of old.network) → MakesSteps q actor m (state_of old.network) (state_of new.network)) →
    HasRunSoFar p es old far → (es' : List Event) × HasRunSoFar p es' new far'
more_steps p es actor m old new far far' generators low awake same made stays makes run =
    let s = state_of old.network in
    let t = state_of new.network in
    let steps = makes p run.reached.is in
    let more = events_by steps.steps in (
      es ++ more,
      record {
        reached = reached_on p es actor m s t run.reached steps;
        many = length-append es more ∙ ap (λ n. length es + n) (as_many steps.steps) ∙ ap (λ n. n + m) run.many ∙ sym made;
        words = subst (HaveGiven p (es ++ more)) (sym generators) (given_on p old.generators actor es steps.steps run.words);
        quiet = subst (AreQuiet p t) (sym same) (λ k fits none. rests_same p s t far.awake far.awake k run.reached.is steps.kept
            (steps.others k (λ is. (let one = subst (λ n. bit_at far.awake n ≡ 1) (sym is) awake in absurd (omega (arith, one, none))))) (stays far.awake) fits none (run.quiet k fits none));
      },
    )
