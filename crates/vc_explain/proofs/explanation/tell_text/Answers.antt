use Rattle.vc_explain.proofs.Told.{told_text}
use Rattle.vc_explain.proofs.explanation.tell_text.Goals as goal

pub returns : goal.returns
returns c =
    told_text _ _ _ _ _ _ _ _ _ c.requires.fault c.requires.known c.in_ok-n.ensures c.in_ok-value.ensures c.in_ok-out.ensures c.in_ok-push_text_sentence.ensures c.in_ok-push.ensures.items
    c.in_ok-push_text_place.ensures
