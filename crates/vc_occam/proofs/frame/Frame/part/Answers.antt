use Rattle.std.proofs.Common.{◌≡◌, ◌∙◌, ◌<◌, ap, sym, arith, length, map, rules, vec_len, true, Some, Bool}
use Rattle.std.proofs.lemmas.List.{length-map}
use Rattle.vc_occam.specs.declared.frame.Frame.TheViews.{the_lemmas}
use Rattle.vc_occam.specs.Frames.{branching, guarding, looping, view}
use Rattle.vc_process.specs.Terms.{as_test, exp}
use Rattle.vc_occam.specs.Private.Frames.{seen_branch, seen_guard, shape}
use Rattle.vc_occam.proofs.Parts.{count_goes_on, guard_there, is_part, place_there, seen_there, seen_within, sound_shape}
use Rattle.vc_occam.proofs.frame.Frame.part.Goals as goal

pub index-requires : goal.index-requires
index-requires c =
    let s = c.in-Seq.seq in
    let e : vec_len s.parts ≡ length s.parts.items = s.parts.ok.0 in
    let is = sound_shape c.args.self.now _ (ap shape c.in-Seq.is) c.requires.sound in
    let l : s.at < length s.parts.items = simp length-map at (place_there s.at _ _ is) in
    omega arith

pub index-requires-in-Some : goal.index-requires-in-Some
index-requires-in-Some c =
    let b = c.in-If.branching in
    let e : vec_len b.branches ≡ length b.branches.items = b.branches.ok.0 in
    let is = sound_shape c.args.self.now _ (ap shape c.in-If.is ∙ ap (branching (map seen_branch b.branches.items)) c.in-Some.is) c.requires.sound in
    let l : c.in-Some.at < length b.branches.items = simp length-map at (place_there c.in-Some.at _ _ is) in
    omega arith

pub index-requires-in-Within : goal.index-requires-in-Within
index-requires-in-Within c =
    let a = c.in-Alt.alt in
    let e : vec_len a.guards ≡ length a.guards.items = a.guards.ok.0 in
    let is = sound_shape c.args.self.now _ (ap shape c.in-Alt.is ∙ ap (guarding (map seen_guard a.guards.items)) c.in-Within.is) c.requires.sound in
    let l : c.in-Within.at < length a.guards.items = simp length-map at (guard_there c.in-Within.at (map seen_guard a.guards.items) is) in
    omega arith

pub returns-in-Seq : goal.returns-in-Seq
returns-in-Seq c =
    let s = c.in-Seq.seq in
    let f = c.args.self.now in
    let is = ap shape c.in-Seq.is in
    let l : s.at < length s.parts.items = simp length-map at (place_there s.at _ _ (sound_shape f _ is c.requires.sound)) in
    is_part f c.index.result.now _ (search (rules, the_lemmas)) is (seen_there view s.parts.items s.at c.index.result.now l c.index.ensures) c.requires.sound

pub returns-in-Some : goal.returns-in-Some
returns-in-Some c =
    let b = c.in-If.branching in
    let f = c.args.self.now in
    let x = c.index-in-Some.result.now in
    let is = ap shape c.in-If.is ∙ ap (branching (map seen_branch b.branches.items)) c.in-Some.is in
    let l : c.in-Some.at < length b.branches.items = simp length-map at (place_there c.in-Some.at _ _ (sound_shape f _ is c.requires.sound)) in
    is_part f x.body _ (search (rules, the_lemmas)) is (seen_within (λ y. y.body) seen_branch b.branches.items c.in-Some.at x l c.index-in-Some.ensures) c.requires.sound

pub returns-in-While : goal.returns-in-While
returns-in-While c =
    let w = c.in-While.looping in
    let turns : Bool → _ = looping (as_test w.cond) (view w.body.value) in
    is_part c.args.self.now c.deref.result.now (turns true) (search (rules, the_lemmas)) (ap shape c.in-While.is ∙ ap turns c.if-looping.true) (ap (λ g. Some (view g)) (sym c.deref.ensures)) c.requires.sound

pub returns-in-Count : goal.returns-in-Count
returns-in-Count c =
    let n = c.in-Count.counting in
    let v = view n.body.value in
    is_part c.args.self.now c.deref-in-Count.result.now _ (search (rules, the_lemmas)) (ap shape c.in-Count.is) (count_goes_on n.var (exp n.base) (exp n.count) v n.turn c.if-is_some.ensures ∙ ap (λ g. Some (view g)) (sym c.deref-in-Count.ensures)) c.requires.sound

pub returns-in-Within : goal.returns-in-Within
returns-in-Within c =
    let a = c.in-Alt.alt in
    let f = c.args.self.now in
    let x = c.index-in-Within.result.now in
    let is = ap shape c.in-Alt.is ∙ ap (guarding (map seen_guard a.guards.items)) c.in-Within.is in
    let l : c.in-Within.at < length a.guards.items = simp length-map at (guard_there c.in-Within.at (map seen_guard a.guards.items) (sound_shape f _ is c.requires.sound)) in
    is_part f x.body _ (search (rules, the_lemmas)) is (seen_within (λ y. y.body) seen_guard a.guards.items c.in-Within.at x l c.index-in-Within.ensures) c.requires.sound
