use Rattle.std.proofs.Common.{◌≡◌, List, ℕ, ◌-◌, [], length, take, drop, sym, ap, ◌∙◌}
use Rattle.std.proofs.lemmas.List.{take_rest}
use Rattle.std.specs.List.{list_all}
use Rattle.ba_commands.specs.declared.modes.Mode.{Mode}
use Rattle.ba_commands.specs.Modes.{usage_of}
use Rattle.ba_commands.specs.Parsing.{is_readable}
use Rattle.std.specs.Borrow.{Bor}
use Rattle.ba_commands.proofs.Calling.{found_command, first_command, none_command, read_found, refused_command, unread_command}
use Rattle.ba_commands.proofs.words.read_words.Goals as goal

abbrev no_word : Bor (List ℕ)
no_word = record { ref_ptr = (0, 0); now = [] }

-- the words behind the first, as the pattern gives them
others : (words : List (Bor (List ℕ))) (mode : Mode)
    → list_all (λ (word : Bor (List ℕ)). is_readable (usage_of mode) word.now) (drop 1 words)
    ≡ list_all (λ (word : Bor (List ℕ)). is_readable (usage_of mode) word.now)
    (take (length words - 1) (drop 1 words))
others words mode =
    ap (list_all (λ (word : Bor (List ℕ)). is_readable (usage_of mode) word.now)) (sym (take_rest words 1))

pub returns-in_default : goal.returns-in_default
returns-in_default c = none_command c.args.words.now c.in_default.len_below

pub returns-in_default-mode_of : goal.returns-in_default-mode_of
returns-in_default-mode_of c =
    first_command c.args.words.now no_word c.in-len1-up.len_at_least _ (sym c.mode_of.ensures
    ∙ c.in_default-mode_of.is)

pub returns-then-not-are_readable : goal.returns-then-not-are_readable
returns-then-not-are_readable c =
    unread_command c.args.words.now no_word c.in-Some.mode c.in-len1-up.len_at_least c.in-Some.ensures
    (others c.args.words.now c.in-Some.mode ∙ sym c.are_readable.ensures ∙ c.if-not-are_readable.true)

pub returns-in-Err : goal.returns-in-Err
returns-in-Err c =
    refused_command c.args.words.now no_word c.in-Some.mode c.in-Err.error c.in-len1-up.len_at_least
    c.in-Some.ensures
    (others c.args.words.now c.in-Some.mode ∙ sym c.are_readable.ensures ∙ c.if-not-are_readable.false)
    c.in-Err.ensures

pub returns-in-Ok : goal.returns-in-Ok
returns-in-Ok c =
    read_found _ c.command_in.result c.ok_or.result c.ok_or.ensures.value
    (found_command c.args.words.now no_word c.in-Some.mode c.in-Ok.matches c.get_flag-runs.result
    c.get_flag-places.result c.get_flag-all.result c.in-len1-up.len_at_least c.in-Some.ensures
    (others c.args.words.now c.in-Some.mode ∙ sym c.are_readable.ensures ∙ c.if-not-are_readable.false)
    c.in-Ok.ensures
    (record {
      runs_read = record { on = c.get_flag-runs.ensures.value; off = c.get_flag-runs.ensures.other };
      places_read = record { on = c.get_flag-places.ensures.value; off = c.get_flag-places.ensures.other };
      all_read = record { on = c.get_flag-all.ensures.value; off = c.get_flag-all.ensures.other };
    })
    ∙ sym c.command_in.ensures)
