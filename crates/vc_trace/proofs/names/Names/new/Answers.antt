use Rattle.vc_trace.proofs.names.Names.new.Goals as goal

pub returns : goal.returns
returns c = λ named. record { named = named; actors = c.in_ok-actors_of.ensures named; channels = c.in_ok-channels_of.ensures named }
