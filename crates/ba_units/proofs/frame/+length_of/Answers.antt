use Rattle.std.proofs.Common.{sym, ◌∙◌, ap, option_map, Bor, arith}
use Rattle.ba_tree.specs.Units.{length_at}
use Rattle.ba_tree.specs.declared.tree.Arg.{Arg}
use Rattle.ba_units.proofs.ArrayLengths.{called-given, called-own, called-past, elements-Array, elements-Value, lengths-Main}
use Rattle.ba_units.specs.Lengths.{lengths_of}
use Rattle.ba_units.proofs.frame.+length_of.Goals as goal

pub returns-in-Main : goal.returns-in-Main
returns-in-Main t c = c.own_length.ensures
    ∙ ap (λ lengths. length_at lengths c.args.var)
    (sym (lengths-Main c.args.program.now c.args.frame.now c.in-Main.is))

pub returns-then-len-var : goal.returns-then-len-var
returns-then-len-var t c = called-past c.args.program.now c.args.frame.now c.in-Called.params c.in-Called.args
    c.in-Called.caller c.args.var c.in-Called.is (omega arith)

pub returns-in-None : goal.returns-in-None
returns-in-None t c = called-own c.args.program.now c.args.frame.now c.in-Called.params c.in-Called.args
    c.in-Called.caller c.args.var c.in-Called.is c.own_length-in-None.result (omega arith)
    (ap (option_map (λ (arg : Bor Arg). arg.now)) (sym c.in-None.is) ∙ c.argument_for.ensures)
    c.own_length-in-None.ensures

pub returns-in-Value : goal.returns-in-Value
returns-in-Value t c = called-given c.args.program.now c.args.frame.now c.in-Called.params c.in-Called.args
    c.in-Called.caller c.args.var c.in-Called.is 0 c.in-Some.arg.now (omega arith)
    (ap (option_map (λ (arg : Bor Arg). arg.now)) (sym c.in-Some.is) ∙ c.argument_for.ensures)
    (sym (elements-Value (lengths_of c.args.program.now c.in-Called.caller.now) c.in-Some.arg.now _
    c.in-Value.is))

pub returns-in-Array : goal.returns-in-Array
returns-in-Array t c = called-given c.args.program.now c.args.frame.now c.in-Called.params c.in-Called.args
    c.in-Called.caller c.args.var c.in-Called.is c.length_of.result c.in-Some.arg.now (omega arith)
    (ap (option_map (λ (arg : Bor Arg). arg.now)) (sym c.in-Some.is) ∙ c.argument_for.ensures)
    (c.length_of.ensures
    ∙ sym (elements-Array (lengths_of c.args.program.now c.in-Called.caller.now) c.in-Some.arg.now
    c.in-Array.array
    c.in-Array.is))
