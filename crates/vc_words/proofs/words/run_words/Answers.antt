use Rattle.std.proofs.Common.{rules, option_map, refl, subst}
use Rattle.clap.specs.Walk.{texts}
use Rattle.vc_words.specs.CommandLine.{IsFaultOf, NamesNetwork, faults}
use Rattle.vc_words.specs.Program.{opens, reads, tells}
use Rattle.vc_words.proofs.words.run_words.Goals as goal

pub returns-in-Err : goal.returns-in-Err
returns-in-Err g c =
    let faulty : IsFaultOf (faults (texts c.args.words.now)) c.in-Err.fault = search rules in
    tells refl (c.tell_line_fault.ensures (texts c.args.words.now) faulty)

pub returns-in-Ok-Some : goal.returns-in-Ok-Some
returns-in-Ok-Some g c =
    let named = subst (λ o. NamesNetwork (texts c.args.words.now) (option_map (λ n. n.now) o)) c.in-Ok-Some.field-0-is c.in-Ok-Some.ensures.file in
    opens c.in-Ok.line c.in-Ok-Some.name.now c.in-Ok.ensures.asks c.in-Ok.ensures.range named refl c.do_file.ensures

pub returns-in-Ok-None : goal.returns-in-Ok-None
returns-in-Ok-None g c =
    let unnamed = subst (λ o. NamesNetwork (texts c.args.words.now) (option_map (λ n. n.now) o)) c.in-Ok-None.field-0-is c.in-Ok-None.ensures.file in
    reads c.in-Ok.line c.in-Ok.ensures.asks c.in-Ok.ensures.range unnamed c.do_line.ensures

pub returns-in-Err-network_of : goal.returns-in-Err-network_of
returns-in-Err-network_of g c =
    let faulty : IsFaultOf (faults (texts c.args.words.now)) c.in-Err-network_of.fault = search rules in
    tells refl (c.tell_line_fault-in-Err-network_of.ensures (texts c.args.words.now) faulty)
