use Rattle.std.proofs.Common.{◌≡◌, ◌∙◌, None, suc, ap, sym, refl, map}
use Rattle.std.specs.Prelude.{ℕ}
use Rattle.vc_process.specs.declared.process.Process.{Process}
use Rattle.vc_process.specs.InOrder.{number}
use Rattle.vc_process.specs.Numbering.{Numbered, parts_from}
use Rattle.vc_process.specs.Syntax.{PAR}
use Rattle.vc_process.proofs.Numbers.{number_count, number_par}
use Rattle.vc_explain.specs.Offences.{index_change, own_offence}
use Rattle.vc_explain.proofs.Sought.{if_ok}
use Rattle.vc_explain.proofs.Words.{by_word}
use Rattle.vc_explain.proofs.offence.own_offence.Goals as goal

pub returns-in-Par : goal.returns-in-Par
returns-in-Par c =
    let n = c.args.named in
    let at = c.args.at.now in
    if_ok c.par_offence.result (λ found. (i site : ℕ) → found ≡ own_offence n (PAR i (parts_from site (map number c.in-Par.parts)), at)) (λ found. (site : ℕ) → found ≡ own_offence n ((number c.args.process.now).tree site, at))
    (λ found h site. h site (suc site) ∙ ap (λ (m : Numbered). own_offence n (m.tree site, at)) (sym (number_par c.args.process.now c.in-Par.parts c.in-Par.is))) c.par_offence.ensures

pub returns-in-Count : goal.returns-in-Count
returns-in-Count c =
    let n = c.args.named in
    let at = c.args.at.now in
    let v = c.in-Count.var in
    if_ok c.index_change.result (λ found. (site : ℕ) → found ≡ index_change n.var at v ((number c.get.result.now).tree site)) (λ found. (site : ℕ) → found ≡ own_offence n ((number c.args.process.now).tree site, at))
    (λ found h site. h (suc site) ∙ ap (λ (q : Process). index_change n.var at v ((number q).tree (suc site))) c.get.ensures ∙ ap (λ (m : Numbered). own_offence n (m.tree site, at)) (sym (number_count c.args.process.now v c.in-Count.base c.in-Count.count c.in-Count.body c.in-Count.is)))
    c.index_change.ensures

pub returns-in_default : goal.returns-in_default
returns-in_default c =
    let d = c.in_default in
    by_word (λ (m : Numbered). (site : ℕ) → None ≡ own_offence c.args.named (m.tree site, c.args.at.now)) c.args.process.now record {
      skip = λ h site. refl;
      stop = λ h site. refl;
      assign = λ v a h site. refl;
      output = λ o a h site. refl;
      input = λ i v h site. refl;
      stops = λ i h site. refl;
      seq = λ ps h site. refl;
      par = λ ps h. absurd (d.not-Par ps h);
      choice = λ bs h site. refl;
      loop = λ t q h site. refl;
      count = λ v a k q h. absurd (d.not-Count v a k q h);
      alt = λ gs h site. refl;
    }
