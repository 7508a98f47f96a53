use Rattle.std.proofs.Common.{subst, sym}
use Rattle.std.specs.Str.{IsUtf8}
use Rattle.vc_core.proofs.Names.{name_is_text}
use Rattle.vc_core.proofs.channels.info_of.Goals as goal

pub text_of-requires : goal.text_of-requires
text_of-requires c = subst IsUtf8 (sym c.as_slice.ensures) (name_is_text c.args.channel.now.name c.requires)
