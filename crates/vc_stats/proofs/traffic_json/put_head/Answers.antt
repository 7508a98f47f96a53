use Rattle.std.proofs.Common.{◌≡◌, ◌∙◌, ◌++◌, [], ℕ, List, codes, decimal, ap, append_assoc, arith, rules, subst}
use Rattle.std.proofs.lemmas.Result.{on_err_weaker, on_ok_weaker}
use Rattle.vc_waits.specs.Waits.{newline}
use Rattle.vc_stats.specs.Json.{comma, kind_word, named}
use Rattle.vc_stats.specs.Private.Json.{head_json}
use Rattle.vc_text.specs.Pieces.{Passes}
use Rattle.vc_text.specs.Streams.{AppendsFront}
use Rattle.vc_text.specs.Traffic.{ChannelTraffic}
use Rattle.vc_text.specs.Views.{shown}
use Rattle.vc_stats.proofs.traffic_json.put_head.Goals as goal

front : (b w a name q k rest : List ℕ) → b ++ ((w ++ a) ++ (name ++ ((q ++ k) ++ rest))) ≡ ((((b ++ w) ++ a) ++ name) ++ q) ++ (k ++ rest)
front b w a name q k rest = grind (arith, append_assoc)

back : (k kind q f offered t : List ℕ) → k ++ (kind ++ ((q ++ f) ++ (offered ++ t))) ≡ (((k ++ kind) ++ q) ++ (f ++ offered)) ++ t
back k kind q f offered t = grind (arith, append_assoc)

joined : (n x y t : List ℕ) → n ++ ((x ++ y) ++ t) ≡ ((n ++ x) ++ y) ++ t
joined n x y t = grind (arith, append_assoc)

parts : (b w a name q k kind f offered t : List ℕ) → b ++ ((w ++ a) ++ (name ++ ((q ++ k) ++ (kind ++ ((q ++ f) ++ (offered ++ t)))))) ≡ ((((((b ++ w) ++ a) ++ name) ++ q) ++ ((k ++ kind) ++ q)) ++ (f ++ offered)) ++ t
parts b w a name q k kind f offered t =
    let named = (((b ++ w) ++ a) ++ name) ++ q in
    front b w a name q k (kind ++ ((q ++ f) ++ (offered ++ t))) ∙ ap (λ r. named ++ r) (back k kind q f offered t) ∙ joined named ((k ++ kind) ++ q) (f ++ offered) t

-- the parts, as they are put
head_is : (before name kind offered : List ℕ) (n : ℕ) (x : ChannelTraffic) → before ≡ comma n → name ≡ x.name → kind ≡ kind_word x.kind → offered ≡ decimal x.offered →
    before ++ (codes "\n{\"name\":\"" ++ (name ++ (codes "\",\"kind\":\"" ++ (kind ++ (codes "\",\"offered\":" ++ (offered ++ (codes ",\"taken\":[" ++ []))))))) ≡ head_json n x
unfolding head_json named
head_is before name kind offered n x a b c d =
    rw (a, b, c, d)
    (parts (comma n) newline (codes "{\"name\":\"") x.name (codes "\"") (codes ",\"kind\":\"") (kind_word x.kind) ((codes ",\"" ++ codes "offered") ++ codes "\":") (decimal x.offered) (codes ",\"taken\":["))

pub returns-clause-ok : goal.returns-clause-ok
returns-clause-ok g c =
    let x = shown c.args.view.now in
    let before : c.if-n-eq0.texts.now ≡ comma c.args.n = search rules in
    let kind : c.match-view.texts.now ≡ kind_word x.kind = search rules in
    let is = head_is c.if-n-eq0.texts.now c.as_bytes.result.now c.match-view.texts.now c.as_bytes-2.result.now c.args.n x before c.as_bytes.ensures.value kind (c.as_bytes-2.ensures.value ∙ c.format.ensures.text) in
    on_ok_weaker c.put_texts.result (subst (Passes (g.W.Write.contents c.args.writer.now) c.args.piece.now.items (g.W.Write.contents c.put_texts.new.writer) c.put_texts.new.piece.items) is) c.put_texts.ensures.ok

pub returns-clause-err : goal.returns-clause-err
returns-clause-err g c =
    let x = shown c.args.view.now in
    let before : c.if-n-eq0.texts.now ≡ comma c.args.n = search rules in
    let kind : c.match-view.texts.now ≡ kind_word x.kind = search rules in
    let is = head_is c.if-n-eq0.texts.now c.as_bytes.result.now c.match-view.texts.now c.as_bytes-2.result.now c.args.n x before c.as_bytes.ensures.value kind (c.as_bytes-2.ensures.value ∙ c.format.ensures.text) in
    on_err_weaker c.put_texts.result (subst (λ t. AppendsFront (g.W.Write.contents c.args.writer.now) (g.W.Write.contents c.put_texts.new.writer) (c.args.piece.now.items ++ t)) is) c.put_texts.ensures.err
