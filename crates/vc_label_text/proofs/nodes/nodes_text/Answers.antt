use Rattle.std.proofs.Common.{◌≡◌, Some, sym, arith}
use Rattle.serde_json.specs.Find.{get}
use Rattle.serde_json.specs.View.{view}
use Rattle.vc_reader.specs.declared.word.Word.TheVariants.{Nodes}
use Rattle.vc_reader.specs.Words.{word_text}
use Rattle.vc_label_text.proofs.Depth.{get_depth}
use Rattle.vc_label_text.proofs.nodes.nodes_text.Goals as goal

pub returns-in_ok-to_string-in-Some : goal.returns-in_ok-to_string-in-Some
returns-in_ok-to_string-in-Some c =
    let there : get (word_text Nodes) (view c.args.file.now) ≡ Some (view c.in-Some.nodes.now) = sym c.in-Some.ensures in
    record {
      nodes = view c.in-Some.nodes.now;
      there = there;
      reads = c.in_ok-to_string-in-Some.ensures.reads_back (omega (arith, get_depth (word_text Nodes) (view c.args.file.now) (view c.in-Some.nodes.now) there, c.requires));
    }
