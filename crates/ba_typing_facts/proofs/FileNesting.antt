-- A file whose bodies nest within the limit gives a typed tree that does.
use Rattle.std.proofs.Common.{◌≡◌, ℕ, ◌+◌, Bool, true, Option, None, Some, List, [], ◌∷◌, ◌++◌, refl, sym, ◌∙◌, ap, arith, nat_le, option_map}
use Rattle.std.specs.List.{list_all}
use Rattle.std.proofs.lemmas.Bool.{and_from, and_parts, le-leb, leb-true}
use Rattle.std.proofs.lemmas.List.Folds.{list_all-append}
use Rattle.std.proofs.lemmas.Option.{none-some, same_Some}
use Rattle.ba_numbers.specs.declared.ids.FnId.{FnId}
use Rattle.ba_numbers.specs.declared.numbers.CType.{CType}
use Rattle.ba_trees.specs.declared.tree.statements.External.{External}
use Rattle.ba_trees.specs.declared.tree.statements.ExternalForm.{ExternalForm}
use Rattle.ba_trees.specs.declared.tree.statements.ExternalForm.TheVariants as form
use Rattle.ba_trees.specs.declared.tree.statements.FunctionEnd.{FunctionEnd}
use Rattle.ba_trees.specs.declared.tree.statements.FunctionEnd.TheVariants as end
use Rattle.ba_tree.specs.Facts.{no_function}
use Rattle.ba_tree.specs.declared.tree.Function.{Function}
use Rattle.ba_tree.specs.declared.tree.Parts as program
use Rattle.ba_typing.specs.Declarations.{Before, behind, in_order, add_specifiers}
use Rattle.ba_typing.specs.Names.{Scope, knowing, type_specified, name_of, is_main_name}
use Rattle.ba_typing.specs.Statements.{parts_of_block}
use Rattle.ba_typing.specs.Files.{params_of, signature_of_form, signature_of, definitions_of, with_signature, function_scope, add_params, add_external_form, add_external, add_externals, file_scope, no_parts, file_of, program_of, main_of, typed_of}
use Rattle.ba_tree.specs.Trees.{FunctionTree, ProgramTree, stmts_of}
use Rattle.ba_typing.specs.declared.meanings.Signature.{Signature}
use Rattle.ba_typing_facts.proofs.DepthFacts.{deepest, is_shallow}
use Rattle.ba_typing_facts.proofs.NestingFacts.{deep, block_nesting}
use Rattle.ba_typing_facts.proofs.NestingForms.{body_nested}

-- FILES

abbrev pub end_nesting : FunctionEnd → ℕ
end_nesting (end.Body b) = block_nesting b
end_nesting (end.Prototype semicolon) = 0

abbrev pub form_of_nesting : ExternalForm → ℕ
form_of_nesting (form.Variables declarators semicolon) = 0
form_of_nesting (form.Function name opener params closer e) = end_nesting e

-- statements nest at most 100 deep in each body of a file
abbrev pub nests_within : List External → Bool
nests_within = list_all (λ (x : External). nat_le (form_of_nesting x.form) 100)

abbrev are_shallow : List FunctionTree → Bool
are_shallow = list_all (λ (f : FunctionTree). nat_le (deepest (stmts_of f.body)) 100)

module _ (p : program.Parts) (f : Function) where
  form_shallow : (d : ℕ) (t : Option CType) (x : ExternalForm) (file : Scope) (earlier : List Signature)
      (n : Before)
      → nat_le (form_of_nesting x) 100 ≡ true
      → are_shallow (add_external_form t x (signature_of_form d t x) file earlier n).functions ≡ true
  form_shallow d t (form.Variables declarators semicolon) file earlier n h = refl
  form_shallow d t (form.Function name opener params closer (end.Prototype semicolon)) file earlier n h = refl
  form_shallow d t (form.Function name opener params closer (end.Body b)) file earlier n h =
      let scope = function_scope t file in
      let a = add_params (is_main_name (name_of name)) true name.at 1 (params_of params) scope n in
      let body = in_order (parts_of_block b) (knowing a.entries scope) (behind n a) in
      let few = leb-true (block_nesting b) 100 h in
      let nested = body_nested p f b (knowing a.entries scope) (behind n a) in
      and_from _ _ (le-leb (deep body.stmts) 100 (omega (arith, few, nested))) refl

  externals_shallow : (d : ℕ) (xs : List External) (file : Scope) (earlier : List Signature) (n : Before)
      → nests_within xs ≡ true → are_shallow (add_externals d xs file earlier n).functions ≡ true
  externals_shallow d [] file earlier n h = refl
  externals_shallow d (x ∷ xs) file earlier n h =
      let s = signature_of d x in
      let w = add_specifiers earlier x.specifiers file n in
      let a = add_external x s file earlier n in
      let b = add_externals (d + definitions_of s) xs (knowing a.added.entries file)
      (earlier ++ with_signature s []) (behind n a.added) in
      let both = and_parts (nat_le (form_of_nesting x.form) 100) (nests_within xs) h in
      list_all-append (λ (f : FunctionTree). nat_le (deepest (stmts_of f.body)) 100) a.functions b.functions
      ∙ and_from _ _ (form_shallow d (type_specified x.specifiers) x.form (knowing w.entries file) earlier
      (behind n w) both.0)
      (externals_shallow (d + definitions_of s) xs (knowing a.added.entries file)
      (earlier ++ with_signature s []) (behind n a.added) both.1)

-- so the statements of the typed tree nest within the limit
pub typed_shallow : (p : program.Parts) (xs : List External) (tree : ProgramTree) → typed_of xs ≡ Some tree
    → nests_within xs ≡ true → is_shallow tree ≡ true
unfolding typed_of
typed_shallow p xs tree typed h = from (main_of xs) typed where
  from : (o : Option FnId) → option_map (program_of (file_of xs)) o ≡ Some tree → is_shallow tree ≡ true
  from None typed = absurd (none-some tree typed)
  from (Some m) typed = ap is_shallow (sym (same_Some (program_of (file_of xs) m) tree typed))
      ∙ externals_shallow p no_function 0 xs (file_scope xs) [] no_parts h
