-- What the words ask for, from what `clap` says of its matches and of its errors.
use Rattle.std.proofs.Common.{◌≡◌, ◌∙◌, true, false, refl, sym, ap, inl, inr, Option, Some, None, IfSome, is_some, option_map, true≢false}
use Rattle.clap.specs.Words.{App, app_of, subcommand_rows_of}
use Rattle.clap.specs.Built.{IsParsedFrom}
use Rattle.clap.specs.Simple.{is_simple}
use Rattle.clap.specs.Faults.{is_simple_and_free}
use Rattle.clap.specs.Kinds.{HasKind, Kinds}
use Rattle.clap.specs.Values.{kind_of}
use Rattle.clap.specs.declared.error.Error.{Error}
use Rattle.clap.specs.declared.builder.command.Command.{Command}
use Rattle.clap.specs.declared.builder.command.Command.TheViews.{out-Command}
use Rattle.clap.specs.declared.parser.matches.ArgMatches.{ArgMatches}
use Rattle.clap.proofs.OnLiterals.{clap_on_literals}
use Rattle.vc_words.specs.CommandLine.{vcnet, IsFaultOf, IsToldAs}
use Rattle.vc_words.specs.declared.line_fault.LineFault.{LineFault}
use Rattle.vc_words.specs.declared.line_fault.LineFault.TheVariants.{Bad, Memory}

-- `clap` tells the matches of such a program, and why it finds none
pub simple : is_simple vcnet ≡ true
unfolding clap_on_literals
simple = refl

pub simple_and_free : is_simple_and_free vcnet ≡ true
unfolding clap_on_literals
simple_and_free = refl

some_of_map : {X Y : Type 0} (f : X → Y) (o : Option X) → is_some o ≡ true → is_some (option_map f o) ≡ true
some_of_map f None h = absurd (true≢false (sym h))
some_of_map f (Some x) h = refl

-- one subcommand is there, since one is wanted
pub wanted : (c : Command) (m : ArgMatches) → app_of c ≡ vcnet → (out-Command c).has_globals ≡ false → IsParsedFrom c m → is_some (subcommand_rows_of m) ≡ true
wanted c m app local parsed =
    let level = parsed.parsed (parsed.from.globals ∙ local) in
    some_of_map _ _ (level.checked.subcommand (parsed.from.needs_subcommand ∙ ap (λ (a : App). a.top.subcommand_required) app))

pub asked : {X Y : Type 0} (f : X → Y) (o : Option X) (line : Y) → is_some o ≡ true → IfSome o (λ x. line ≡ f x) → option_map f o ≡ Some line
asked f None line there is = absurd (true≢false (sym there))
asked f (Some x) line there is = ap Some (sym is)

pub told : (kinds : Kinds) (e : Error) (fault : LineFault) → HasKind kinds e → IsToldAs (kind_of e) fault → IsFaultOf kinds fault
told kinds e Memory h t = tt
told kinds e (Bad text status) (inl out) t = absurd (t.0 out)
told kinds e (Bad text status) (inr among) t = (kind_of e, among, t.1)
