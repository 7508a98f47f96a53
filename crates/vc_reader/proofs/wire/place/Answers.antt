use Rattle.vc_reader.proofs.wire.place.Goals as goal

pub returns : goal.returns
returns c = rw (c.place_named.ensures, c.as_bytes.ensures.value) at c.known.ensures
