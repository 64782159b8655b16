use Rattle.std.proofs.Common.{◌≡◌, map, drop}
use Rattle.ba_trees.specs.declared.tree.declarations.ListedDeclarator.{ListedDeclarator}
use Rattle.ba_statements.specs.Adding.{behind_part, state}
use Rattle.ba_typing.specs.Declarations.{add_declarator, add_declarators, in_order}
use Rattle.ba_statements.proofs.declarations.add_declarators.Given as goal

abbrev pub invariant-loop-listed : goal.invariant-loop-listed
invariant-loop-listed l = behind_part (in_order (map (λ (x : ListedDeclarator). add_declarator l.functions
    l.t x.declarator)
    (drop l.listed-index l.listed-items))) (state l.scope l.work l.stmts)
    ≡ behind_part (add_declarators l.functions l.t l.declarators) (state l.fn.scope l.fn.work l.fn.stmts)
