use Rattle.std.proofs.Common.{◌≡◌, ◌<◌, ◌∙◌, ap, List, length, map, refl, subst, sym, true}
use Rattle.vc_occam.specs.declared.frame.Construct.{Construct}
use Rattle.vc_occam.specs.declared.frame.Construct.TheVariants as run
use Rattle.vc_occam.specs.declared.frame.Frame.{Frame}
use Rattle.vc_occam.specs.declared.frame.Frame.TheViews.{out-Frame}
use Rattle.vc_occam.specs.declared.frame.Guard.{Guard}
use Rattle.vc_occam.specs.Frames.{guards_of, is_at_itself}
use Rattle.vc_occam.specs.Private.Frames.{is_open_alt, seen_guard, shape}
use Rattle.vc_occam.specs.Remains.{Fresh}
use Rattle.vc_process.specs.Syntax.{ALT}
use Rattle.vc_occam.proofs.AtItself.{closed_alt, few_guards, not_open, open_rest, shown_rest, stopped_rest}
use Rattle.vc_occam.proofs.frame.Frame.open_guards.Goals as goal

pub returns-then-self : goal.returns-then-self
returns-then-self c = ap is_open_alt (stopped_rest c.args.self.now c.if-self.true)

pub returns-in-Open : goal.returns-in-Open
returns-in-Open c =
    let f = c.args.self.now in
    let alt = c.in-Alt.alt in
    let i = (out-Frame f).site in
    let same = sym c.as_slice.ensures.value in
    record {
      few = subst (λ (gs : List (Guard Frame)). length gs < 65536) same (few_guards f alt c.requires.sound c.in-Alt.is);
      rest =
          shown_rest f (run.Alt alt) c.if-self.false c.in-Alt.is ∙ open_rest i (map seen_guard alt.guards.items) alt.choice c.in-Open.is
          ∙ ap (λ (gs : List (Guard Frame)). Fresh (ALT i (guards_of (map seen_guard gs)))) same;
    }

pub returns-in_default-choice : goal.returns-in_default-choice
returns-in_default-choice c =
    let f = c.args.self.now in
    let alt = c.in-Alt.alt in
    let itself = subst (λ (d : Construct Frame). is_at_itself (shape d) ≡ true) c.in-Alt.is c.requires.alone in
    ap is_open_alt (shown_rest f (run.Alt alt) c.if-self.false c.in-Alt.is) ∙ closed_alt (out-Frame f).site (map seen_guard alt.guards.items) alt.choice itself c.in_default-choice.not-Open

pub returns-in_default : goal.returns-in_default
returns-in_default c =
    let f = c.args.self.now in
    let o = out-Frame f in
    ap is_open_alt (shown_rest f o.construct c.if-self.false refl) ∙ not_open o.site o.construct c.requires.alone c.in_default.not-Alt
