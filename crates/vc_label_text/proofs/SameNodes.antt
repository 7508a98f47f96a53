-- Nodes that are the same.
use Rattle.std.proofs.Common.{◌≡◌, ◌∙◌, ◌≤◌, ℕ, List, Option, Some, None, IfSome, sym, ap, subst, arith}
use Rattle.std.specs.Prelude.{String, string_bytes}
use Rattle.std.specs.declared.alloc.Global.{Global}
use Rattle.serde_json.specs.Data.{Data}
use Rattle.serde_json.specs.Find.{get}
use Rattle.serde_json.specs.Read.{read}
use Rattle.vc_reader.specs.declared.word.Word.TheVariants.{Nodes}
use Rattle.vc_reader.specs.Words.{word_text}
use Rattle.vc_label_text.specs.Labelled.{HasSameNodes}
use Rattle.vc_label_text.specs.Private.Nodes.{AreSame, HasNodes, IsNodesText}

-- a text is read in one way
one_value : (a b : Option Data) (x y : Data) → a ≡ b → a ≡ Some x → b ≡ Some y → x ≡ y
one_value a b x y e p q = cc

pub same_nodes : (input made : List ℕ) (before after : Option (String Global)) → IfSome before (λ s. HasNodes input (string_bytes s)) →
    IfSome after (λ s. HasNodes made (string_bytes s)) → AreSame before after → HasSameNodes input made
same_nodes input made (Some s) (Some t) b a e =
    let one : a.nodes.nodes ≡ b.nodes.nodes = one_value (read (string_bytes t)) (read (string_bytes s)) _ _ (ap read (sym e)) a.nodes.reads b.nodes.reads in
    record {
      before = b.file;
      after = a.file;
      nodes = b.nodes.nodes;
      reads_before = b.reads;
      reads_after = a.reads;
      nodes_before = b.nodes.there;
      nodes_after = subst (λ n. get (word_text Nodes) a.file ≡ Some n) one a.nodes.there;
    }
same_nodes input made (Some s) None b a e = absurd e
same_nodes input made None (Some t) b a e = absurd e
same_nodes input made None None b a e = absurd e
