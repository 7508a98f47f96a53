-- The token that a token of the code is.
use Rattle.std.specs.Prelude.{List, map}
use Rattle.vc_packets.specs.declared.mark.Mark.TheVariants.{Eop as OfPacket, Eom as OfMessage}
use Rattle.vc_tokens.specs.declared.token.Token.{Token as CodeToken}
use Rattle.vc_tokens.specs.declared.token.Token.TheVariants as code
use Rattle.vc_tokens.specs.Tokens.{Token, Byte, Fct, EndMark}

abbrev pub token : CodeToken → Token
token (code.Byte b) = Byte b
token code.Fct = Fct
token code.Eop = EndMark OfPacket
token code.Eom = EndMark OfMessage

abbrev pub tokens : List CodeToken → List Token
tokens ts = map token ts
