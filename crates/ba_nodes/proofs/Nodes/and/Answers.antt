use Rattle.std.proofs.Common.{Ok, refl, sym, ap, ◌∙◌, is_some}
use Rattle.ba_nodes.proofs.Truths.{Grows_refl}
use Rattle.ba_nodes.proofs.Folding.{folded_value}
use Rattle.ba_nodes.proofs.Adding.{made_folded, made_before, made_settled, all_made}
use Rattle.ba_nodes.proofs.Nodes.and.Goals as goal

pub returns-in-Some-clause-makes : goal.returns-in-Some-clause-makes
returns-in-Some-clause-makes c =
    record {
      value = folded_value c.args.self.now c.args.a c.args.b c.requires.first c.requires.second c.in-Some.bit (sym c.folded.ensures ∙ c.in-Some.is);
      grows = Grows_refl c.args.self.now 1;
    }

pub returns-in-Some-clause-again : goal.returns-in-Some-clause-again
returns-in-Some-clause-again c bit made =
    (ap Ok (sym (made_settled c.args.self.now c.args.a c.args.b bit c.in-Some.bit (sym c.folded.ensures ∙ c.in-Some.is) made)), refl)

pub returns-in-Some-clause-made : goal.returns-in-Some-clause-made
returns-in-Some-clause-made c = made_folded c.args.self.now c.args.a c.args.b c.in-Some.bit (sym c.folded.ensures ∙ c.in-Some.is)

pub returns-in-None-clause-again : goal.returns-in-None-clause-again
returns-in-None-clause-again c bit made =
    let before = made_before c.args.self.now c.args.a c.args.b bit (ap is_some (sym c.folded.ensures ∙ c.in-None.is)) made in
    let found = c.gate.ensures.again before.0 before.2 in
    (found.0 ∙ ap Ok (sym before.1), found.1)

pub returns-in-None-clause-made : goal.returns-in-None-clause-made
returns-in-None-clause-made c =
    all_made c.gate.new.self c.args.a c.args.b c.gate.result (ap is_some (sym c.folded.ensures ∙ c.in-None.is)) c.gate.ensures.made
