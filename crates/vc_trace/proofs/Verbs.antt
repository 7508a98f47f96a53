-- The first word of what an event does, and the words behind it.
use Rattle.std.proofs.Common.{◌≡◌, ℕ, List, [], ◌∷◌, Option, Some, refl, decimal}
use Rattle.vc_actor.specs.declared.act.Act.{Act}
use Rattle.vc_actor.specs.declared.act.Act.TheVariants as act
use Rattle.vc_occam.specs.declared.moves.Move.{Move}
use Rattle.vc_occam.specs.declared.moves.Move.TheVariants as move
use Rattle.vc_plan.specs.declared.plan.Plan.{Plan}
use Rattle.vc_plan.specs.Names.{channel_name}
use Rattle.vc_trace.specs.EventOf.{IsActOf, IsByte, IsChannel, IsGuard, IsHalf, IsLong, IsMoveOf}
use Rattle.vc_trace.specs.EventText.{act_words, guard_word, move_words, spaced}
use Rattle.vc_trace.specs.Private.Verbs.{move_word, verb_word}
use Rattle.vc_trace.specs.Private.Words.{IsWord}
use Rattle.vc_trace.specs.declared.move_verb.MoveVerb.{MoveVerb}
use Rattle.vc_trace.specs.declared.move_verb.MoveVerb.TheVariants.{Offer, Want, Choose, Stopch, Inner, Quiet}
use Rattle.vc_trace.specs.declared.verb.Verb.{Verb}
use Rattle.vc_trace.specs.declared.verb.Verb.TheVariants.{Proc, Take, Put, Route, Fct, Pass}

-- ---- moves

abbrev pub verb_of_move : Move → MoveVerb
verb_of_move (move.Offer site chan) = Offer
verb_of_move (move.Want site chan) = Want
verb_of_move (move.Choose site guard chan) = Choose
verb_of_move (move.Stopch site chan) = Stopch
verb_of_move (move.Inner sender receiver guard chan) = Inner
verb_of_move (move.Quiet site) = Quiet

abbrev pub words_of_move : Plan → Move → List (List ℕ)
words_of_move p (move.Offer site chan) = decimal site ∷ channel_name p chan ∷ []
words_of_move p (move.Want site chan) = decimal site ∷ channel_name p chan ∷ []
words_of_move p (move.Choose site guard chan) = decimal site ∷ decimal guard ∷ channel_name p chan ∷ []
words_of_move p (move.Stopch site chan) = decimal site ∷ channel_name p chan ∷ []
words_of_move p (move.Inner sender receiver guard chan) = decimal sender ∷ decimal receiver ∷ guard_word guard ∷ channel_name p chan ∷ []
words_of_move p (move.Quiet site) = decimal site ∷ []

pub move_begins : (p : Plan) (made : Move) → move_words p made ≡ move_word (verb_of_move made) ∷ words_of_move p made
move_begins p (move.Offer site chan) = refl
move_begins p m = refl

pub word_of_move : (verb : MoveVerb) → IsWord (move_word verb)
word_of_move Offer = refl
word_of_move x = refl

-- ---- acts

abbrev pub verb_of : Act → Verb
verb_of (act.Proc made) = Proc
verb_of (act.Take link word) = Take
verb_of (act.Put link) = Put
verb_of (act.Route input output) = Route
verb_of (act.Fct link) = Fct
verb_of (act.Pass link) = Pass

abbrev pub words_of : Plan → Act → List (List ℕ)
words_of p (act.Proc made) = move_words p made
words_of p (act.Take link word) = decimal link ∷ decimal word ∷ []
words_of p (act.Put link) = decimal link ∷ []
words_of p (act.Route input output) = decimal input ∷ decimal output ∷ []
words_of p (act.Fct link) = decimal link ∷ []
words_of p (act.Pass link) = decimal link ∷ []

pub act_begins : (p : Plan) (done : Act) → act_words p done ≡ verb_word (verb_of done) ∷ words_of p done
act_begins p (act.Proc made) = refl
act_begins p a = refl

pub word_of : (verb : Verb) → IsWord (verb_word verb)
word_of Proc = refl
word_of x = refl

-- what is found behind each verb
pub proc_only : (p : Plan) (done : Act) (found : Option Act) (rest : List ℕ) → verb_of done ≡ Proc → IsActOf p done → rest ≡ spaced (words_of p done) →
    ((made : Move) → IsMoveOf p made → rest ≡ spaced (move_words p made) → found ≡ Some (act.Proc made)) → found ≡ Some done
proc_only p (act.Proc made) found rest same is here make = make made is here
proc_only p done found rest same is here make = absurd (cc)

pub take_only : (p : Plan) (done : Act) (found : Option Act) (rest : List ℕ) → verb_of done ≡ Take → IsActOf p done → rest ≡ spaced (words_of p done) →
    ((link word : ℕ) → IsByte link → IsLong word → rest ≡ spaced (decimal link ∷ decimal word ∷ []) → found ≡ Some (act.Take link word)) → found ≡ Some done
take_only p (act.Take link word) found rest same is here make = make link word is.0 is.1 here
take_only p done found rest same is here make = absurd (cc)

pub put_only : (p : Plan) (done : Act) (found : Option Act) (rest : List ℕ) → verb_of done ≡ Put → IsActOf p done → rest ≡ spaced (words_of p done) →
    ((link : ℕ) → IsByte link → rest ≡ spaced (decimal link ∷ []) → found ≡ Some (act.Put link)) → found ≡ Some done
put_only p (act.Put link) found rest same is here make = make link is here
put_only p done found rest same is here make = absurd (cc)

pub route_only : (p : Plan) (done : Act) (found : Option Act) (rest : List ℕ) → verb_of done ≡ Route → IsActOf p done → rest ≡ spaced (words_of p done) →
    ((input output : ℕ) → IsByte input → IsByte output → rest ≡ spaced (decimal input ∷ decimal output ∷ []) → found ≡ Some (act.Route input output)) → found ≡ Some done
route_only p (act.Route input output) found rest same is here make = make input output is.0 is.1 here
route_only p done found rest same is here make = absurd (cc)

pub fct_only : (p : Plan) (done : Act) (found : Option Act) (rest : List ℕ) → verb_of done ≡ Fct → IsActOf p done → rest ≡ spaced (words_of p done) →
    ((link : ℕ) → IsByte link → rest ≡ spaced (decimal link ∷ []) → found ≡ Some (act.Fct link)) → found ≡ Some done
fct_only p (act.Fct link) found rest same is here make = make link is here
fct_only p done found rest same is here make = absurd (cc)

pub pass_only : (p : Plan) (done : Act) (found : Option Act) (rest : List ℕ) → verb_of done ≡ Pass → IsActOf p done → rest ≡ spaced (words_of p done) →
    ((link : ℕ) → IsByte link → rest ≡ spaced (decimal link ∷ []) → found ≡ Some (act.Pass link)) → found ≡ Some done
pass_only p (act.Pass link) found rest same is here make = make link is here
pass_only p done found rest same is here make = absurd (cc)

pub offer_only : (p : Plan) (made : Move) (found : Option Move) (rest : List ℕ) → verb_of_move made ≡ Offer → IsMoveOf p made → rest ≡ spaced (words_of_move p made) →
    ((site chan : ℕ) → IsHalf site → IsChannel p chan → rest ≡ spaced (decimal site ∷ channel_name p chan ∷ []) → found ≡ Some (move.Offer site chan)) → found ≡ Some made
offer_only p (move.Offer site chan) found rest same is here make = make site chan is.0 is.1 here
offer_only p made found rest same is here make = absurd (cc)

pub want_only : (p : Plan) (made : Move) (found : Option Move) (rest : List ℕ) → verb_of_move made ≡ Want → IsMoveOf p made → rest ≡ spaced (words_of_move p made) →
    ((site chan : ℕ) → IsHalf site → IsChannel p chan → rest ≡ spaced (decimal site ∷ channel_name p chan ∷ []) → found ≡ Some (move.Want site chan)) → found ≡ Some made
want_only p (move.Want site chan) found rest same is here make = make site chan is.0 is.1 here
want_only p made found rest same is here make = absurd (cc)

pub stopch_only : (p : Plan) (made : Move) (found : Option Move) (rest : List ℕ) → verb_of_move made ≡ Stopch → IsMoveOf p made → rest ≡ spaced (words_of_move p made) →
    ((site chan : ℕ) → IsHalf site → IsChannel p chan → rest ≡ spaced (decimal site ∷ channel_name p chan ∷ []) → found ≡ Some (move.Stopch site chan)) → found ≡ Some made
stopch_only p (move.Stopch site chan) found rest same is here make = make site chan is.0 is.1 here
stopch_only p made found rest same is here make = absurd (cc)

pub choose_only : (p : Plan) (made : Move) (found : Option Move) (rest : List ℕ) → verb_of_move made ≡ Choose → IsMoveOf p made → rest ≡ spaced (words_of_move p made) →
    ((site guard chan : ℕ) → IsHalf site → IsHalf guard → IsChannel p chan → rest ≡ spaced (decimal site ∷ decimal guard ∷ channel_name p chan ∷ []) → found ≡ Some (move.Choose site guard chan)) → found ≡ Some made
choose_only p (move.Choose site guard chan) found rest same is here make = make site guard chan is.0 is.1 is.2 here
choose_only p made found rest same is here make = absurd (cc)

pub inner_only : (p : Plan) (made : Move) (found : Option Move) (rest : List ℕ) → verb_of_move made ≡ Inner → IsMoveOf p made → rest ≡ spaced (words_of_move p made) →
    ((sender receiver chan : ℕ) (guard : Option ℕ) → IsHalf sender → IsHalf receiver → IsGuard guard → IsChannel p chan → rest ≡ spaced (decimal sender ∷ decimal receiver ∷ guard_word guard ∷ channel_name p chan ∷ []) → found ≡ Some (move.Inner sender receiver guard chan)) → found ≡ Some made
inner_only p (move.Inner sender receiver guard chan) found rest same is here make = make sender receiver chan guard is.0 is.1 is.2 is.3 here
inner_only p made found rest same is here make = absurd (cc)

pub quiet_only : (p : Plan) (made : Move) (found : Option Move) (rest : List ℕ) → verb_of_move made ≡ Quiet → IsMoveOf p made → rest ≡ spaced (words_of_move p made) →
    ((site : ℕ) → IsHalf site → rest ≡ spaced (decimal site ∷ []) → found ≡ Some (move.Quiet site)) → found ≡ Some made
quiet_only p (move.Quiet site) found rest same is here make = make site is here
quiet_only p made found rest same is here make = absurd (cc)
