-- The headline over tokens.
use Rattle.std.proofs.Common.{ℕ, List, [], ◌∷◌, ◌++◌, refl, sym, ap, subst, ◌∙◌}
use Rattle.vc_machine.specs.Paths.{Net}
use Rattle.vc_machine.specs.Machine.{State, ChanState, Event, Run, start}
use Rattle.vc_machine.specs.Headline.{Headline}
use Rattle.vc_machine.proofs.Main.{headline}
use Rattle.vc_machine.proofs.Functional.{seen_is}
use Rattle.vc_machine.specs.Links.{Tokens, no_tokens}
use Rattle.vc_switch.specs.Waiting.{Waiting}
use Rattle.vc_machine.specs.TokenMachine.{TokenEvent, TokenRun}
use Rattle.vc_machine.specs.View.{TokenView, Bindings}
use Rattle.vc_machine.specs.Laws.{Ranges}
use Rattle.vc_machine.specs.TokenHeadline.{TokensKeepHeadline}
use Rattle.vc_machine.proofs.StepRefinement.{as_run, run_joined}
use Rattle.vc_machine.proofs.Refinement.{step_view, no_view}
use Rattle.vc_machine.proofs.Bindings.{step_bindings, no_bindings}

-- a run of the packet machine from s to what u stands for
record Went (net : Net) (s : State) (u : Tokens) : Type 0 where
  pub events : List Event
  pub after : State
  pub run : Run net s events after
  pub view : TokenView net u after
  pub bindings : Bindings net u

went : (net : Net) (back : ℕ → ℕ) (waiting : Waiting) → Ranges net → (es : List TokenEvent) (t u : Tokens) (s : State) → Bindings net t → TokenView net t s → TokenRun net back waiting t es u → Went net s u
went net back waiting ranges [] t u s b view h =
    record { events = []; after = s; run = refl; view = subst (λ k. TokenView net k s) (sym h) view; bindings = subst (Bindings net) (sym h) b }
went net back waiting ranges (e ∷ es) t u s b view h =
    let a = as_run net s h.0 (step_view net back waiting ranges t s e h.0 b view h.1) in
    let w = went net back waiting ranges es h.0 u a.after (step_bindings net back waiting t e h.0 b h.1) a.view h.2 in
    record { events = a.events ++ w.events; after = w.after; run = run_joined net s a.after w.after a.events w.events a.run w.run; view = w.view; bindings = w.bindings }

pub tokens_keep_headline : (net : Net) (back : ℕ → ℕ) (waiting : Waiting) → TokensKeepHeadline net back waiting
tokens_keep_headline net back waiting es u accepted run =
    let w = went net back waiting (accepted).ranges es no_tokens u start (no_bindings net) (no_view net) run in
    let h = headline net w.events w.after accepted w.run in
    let is_seen = seen_is net u w.after w.view in
    record {
      view = subst (TokenView net u) is_seen w.view;
      events = w.events;
      headline = subst (Headline net w.events) is_seen h;
      stopped = λ fs x c real more is.
          let m = went net back waiting (accepted).ranges fs u x w.after w.bindings w.view more in
          ap (λ (f : ℕ → ChanState). (f c).taken) (sym m.view.chans)
          ∙ h.stopped m.events m.after c real m.run (ap (λ (f : ℕ → ChanState). (f c).stopped) w.view.chans ∙ is)
          ∙ ap (λ (f : ℕ → ChanState). (f c).taken) w.view.chans;
      no_strays = sym w.view.strays ∙ h.no_strays;
      none_lost = sym w.view.lost ∙ h.none_lost;
    }
