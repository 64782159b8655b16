use Rattle.std.proofs.Common.{sym, ap, ◌∙◌}
use Rattle.std.specs.Str.{bytes_eq}
use Rattle.ba_lex.specs.Lines.{body_of}
use Rattle.ba_lex.proofs.TableLemmas.{lookup-table_of}
use Rattle.ba_lex.proofs.macros.Macros.body.Goals as goal

pub returns : goal.returns
returns c =
    c.get.ensures.value ∙ sym (lookup-table_of (bytes_eq c.args.name.now) c.self.inside.bodies.entries) ∙ ap (λ t. body_of t c.args.name.now) c.self.view_is
