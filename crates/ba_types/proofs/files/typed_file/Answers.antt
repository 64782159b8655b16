use Rattle.std.proofs.Common.{List, option_map, refl, ◌∙◌, ap}
use Rattle.ba_typing.specs.Names.{fresh_scope}
use Rattle.ba_typing.specs.Names.{definition_in, main_name}
use Rattle.ba_typing.specs.declared.meanings.Signature.{Signature}
use Rattle.ba_types.proofs.FileSteps.{typed-is}
use Rattle.ba_types.proofs.files.typed_file.Goals as goal

pub returns : goal.returns
returns c =
    typed-is c.args.externals.now c.of_file-scope.result c.add_externals.new.scope c.new-work.result
    c.add_externals.new.work c.new-inits.result c.add_externals.new.inits c.new-functions.result
    c.add_externals.new.functions (record {
      main = c.main_of-main.result;
      globals = c.in_ok-globals.globals;
      inits = c.from_vec.result;
      functions = c.from_vec-2.result;
      work = c.add_externals.new.work;
    })
    (c.of_file-scope.ensures ∙ ap fresh_scope c.in_ok-declared.ensures) c.new-work.ensures
    c.new-inits.ensures.items c.new-functions.ensures.items c.in_ok-add_externals.ensures
    (c.main_of-main.ensures ∙ ap (λ (ss : List Signature). option_map (λ (s : Signature). s.function)
    (definition_in ss main_name)) c.in_ok-declared.ensures)
    c.in_ok-globals.ensures c.from_vec.ensures c.from_vec-2.ensures refl
