use Rattle.std.proofs.Common.{◌++◌, ◌∷◌, [], pos, List, ◌∙◌, ap}
use Rattle.ba_guards.proofs.Beginning.{started}
use Rattle.ba_guards.specs.declared.exits.Exit.{Exit}
use Rattle.ba_wordlist.specs.declared.words.WordOp.TheVariants.{Const}
use Rattle.ba_guards.proofs.starting.start.Goals as goal

pub returns : goal.returns
returns c = λ fit. started c.args.vars c.args.arrays.now c.push-2.new.self c.zero_arrays.new.words
    c.in_ok-versions.versions
    c.new-2.result c.new-3.result c.in_ok-zeros-3.zeros c.new-4.result c.in_ok-zeros.field-0
    c.in_ok-zeros-2.field-0 c.new.result c.push-3.new.self
    (c.in_ok-push-2.ensures.words
    ∙ ap (λ ws. ws ++ Const (pos 1) ∷ []) (c.in_ok-push.ensures.words ∙ ap (λ ws. ws ++ Const (pos 0) ∷ [])
    c.new-words.ensures))
    c.new-2.ensures c.new-3.ensures c.in_ok-zeros-3.ensures c.new-4.ensures c.in_ok-zeros.ensures
    c.in_ok-zeros-2.ensures c.new.ensures
    (c.in_ok-push-3.ensures ∙ ap (λ (es : List Exit). es ++ (record {
      label = 0;
      since = 0;
      base = c.in_ok-zeros.field-0;
      live = 0;
      vars = c.in_ok-zeros-2.field-0;
      written = c.new.result;
    }) ∷ [])
    c.new-exits.ensures) fit c.in_ok-versions.ensures
