use Rattle.std.proofs.Common.{◌∙◌, ap, [], ◌∷◌, ◌++◌}
use Rattle.ba_guards.proofs.Sharing.{numbered-put, stands-last}
use Rattle.ba_guards.specs.Sharing.{entry}
use Rattle.ba_guards.proofs.words.Words.made.Goals as goal

pub invariant_of-self-2 : goal.invariant_of-self-2
invariant_of-self-2 c =
    numbered-put c.self-2.inside.items.items c.self-2.inside.numbers c.insert.new.self c.args.expression
    c.in_ok-word.word
    (stands-last c.args.self.now c.self-2.inside.items.items (entry c.args.expression) c.in_ok-word.word
    c.in_ok-word.ensures.name (c.self-2.view_is ∙ c.in_ok-word.ensures.words
    ∙ ap (λ op. c.args.self.now ++ op ∷ []) c.entry.ensures))
    c.in_ok-insert.ensures.updates c.self-2.invariant
