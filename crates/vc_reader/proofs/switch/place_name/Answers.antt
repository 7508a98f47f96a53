use Rattle.vc_reader.proofs.switch.place_name.Goals as goal

pub returns : goal.returns
returns c = rw (c.is_place.ensures, c.as_bytes-text.ensures.value) at c.own_name.ensures
