use Rattle.std.proofs.Common.{Bool, ◌&&◌, is_some, sym, ◌∙◌, ap}
use Rattle.std.specs.List.{list_any}
use Rattle.ba_types.specs.Filing.{same_named}
use Rattle.ba_typing.specs.declared.meanings.Signature.{Signature}
use Rattle.ba_types.proofs.SignatureSteps.{some-borrowed, some-definition}
use Rattle.ba_types.proofs.signatures.is_second_definition.Goals as goal

pub returns-then-signature : goal.returns-then-signature
returns-then-signature c = let s = c.args.signature.now in let ss = c.args.earlier.now in
    c.is_some.ensures ∙ some-borrowed c.definition.result ∙ ap is_some c.definition.ensures
    ∙ some-definition ss s.name
    ∙ ap (λ (b : Bool). b && list_any (λ (s : Signature). s.is_definition) (same_named s.name ss))
    (sym c.if-signature.true)
