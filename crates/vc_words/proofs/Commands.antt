-- What is known of a command that parts were added to.
use Rattle.std.proofs.Common.{Bool, false, ◌≡◌, ◌||◌, ap, ◌∙◌}
use Rattle.clap.specs.declared.builder.command.Command.{Command}
use Rattle.clap.specs.declared.builder.command.Command.TheOpen.{Command-F}

abbrev pub globals : Command-F Command → Bool
globals f = f.has_globals

-- none of both has an argument that is global
pub neither : (a b x : Bool) → x ≡ (a || b) → a ≡ false → b ≡ false → x ≡ false
neither a b x e p q = e ∙ ap (λ z. z || b) p ∙ q
