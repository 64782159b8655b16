-- The arguments of each mode: facts that are computed over the table.
use Rattle.std.proofs.Common.{◌≡◌, true, false, None, Some, List, [], ◌∷◌, ◌++◌, map, refl}
use Rattle.std.specs.Str.{bytes_eq}
use Rattle.clap.specs.Faults.{is_simple_and_free}
use Rattle.clap.specs.Lexer.{long_of}
use Rattle.clap.specs.Simple.{filled, filled_from}
use Rattle.clap.specs.Walk.{Rule, arg_by_id, arg_by_long}
use Rattle.ba_commands.specs.Modes.{Usage, Word, usage_of}
use Rattle.ba_commands.specs.Words.{option_word}
use Rattle.ba_commands.specs.Parsing.{app_for, rule_for}
use Rattle.ba_commands.specs.declared.modes.Mode.{Mode}
use Rattle.ba_commands.specs.declared.modes.Mode.TheVariants.{Localise, Check, Run, Rank, Repair, Sample}
use Rattle.ba_commands.specs.declared.parsing.Role.TheVariants.{Valued, Plain, File}
use Rattle.ba_commands.proofs.Finishing.{defaults_pass}
use Rattle.ba_commands.proofs.Turns.{ReadsOption, ReadsSwitch}
use Rattle.ba_commands.proofs.Walking.{Fits}

-- the arguments as they are built
abbrev pub rules_in : Usage → List Rule
rules_in u = filled_from 1
    ((map (rule_for Valued) u.valued ++ map (rule_for Plain) u.plain) ++ map (rule_for File) u.files)

pub simple : (mode : Mode) → is_simple_and_free (app_for (usage_of mode)) ≡ true
simple Localise = refl
simple Check = refl
simple Run = refl
simple Rank = refl
simple Repair = refl
simple Sample = refl

option_facts : {rules : List Rule} {name : Word} → bytes_eq (option_word name) (option_word []) ≡ false
    → long_of (option_word name) ≡ Some (name, None)
    → ((text : Word) → bytes_eq (option_word name ++ 61 ∷ text) (option_word []) ≡ false)
    → ((text : Word) → long_of (option_word name ++ 61 ∷ text) ≡ Some (name, Some text))
    → arg_by_long rules name ≡ Some (filled (rule_for Valued name))
    → arg_by_id rules name ≡ Some (filled (rule_for Valued name))
    → ReadsOption rules name
option_facts end long cut_end cut_long by_long by_id = record {
  alone = record { no_end = end; long = long };
  attached = λ text. record { no_end = cut_end text; long = cut_long text };
  by_long = by_long;
  by_id = by_id;
}

switch_facts : {rules : List Rule} {name : Word} → bytes_eq (option_word name) (option_word []) ≡ false
    → long_of (option_word name) ≡ Some (name, None)
    → arg_by_long rules name ≡ Some (filled (rule_for Plain name)) → ReadsSwitch rules name
switch_facts end long by_long = record { alone = record { no_end = end; long = long }; by_long = by_long }

pub fits_mode : (mode : Mode) → Fits (usage_of mode) (rules_in (usage_of mode))
fits_mode Localise = record {
  valued = (
    option_facts refl refl (λ text. refl) (λ text. refl) refl refl,
    (
      option_facts refl refl (λ text. refl) (λ text. refl) refl refl,
      (
        option_facts refl refl (λ text. refl) (λ text. refl) refl refl,
        (
          option_facts refl refl (λ text. refl) (λ text. refl) refl refl,
          (
            option_facts refl refl (λ text. refl) (λ text. refl) refl refl,
            (
              option_facts refl refl (λ text. refl) (λ text. refl) refl refl,
              (option_facts refl refl (λ text. refl) (λ text. refl) refl refl, tt),
            ),
          ),
        ),
      ),
    ),
  );
  plain = (switch_facts refl refl refl, (switch_facts refl refl refl, (switch_facts refl refl refl, tt)));
  places = (refl, refl, refl, (refl, refl, refl, refl));
  no_default = defaults_pass (rules_in (usage_of Localise))
      (refl, (refl, (refl, (refl, (refl, (refl, (refl, (refl, (refl, (refl, (refl, (refl, tt))))))))))));
  no_check = λ rows. refl;
}
fits_mode Check = record {
  valued = (
    option_facts refl refl (λ text. refl) (λ text. refl) refl refl,
    (
      option_facts refl refl (λ text. refl) (λ text. refl) refl refl,
      (
        option_facts refl refl (λ text. refl) (λ text. refl) refl refl,
        (
          option_facts refl refl (λ text. refl) (λ text. refl) refl refl,
          (option_facts refl refl (λ text. refl) (λ text. refl) refl refl, tt),
        ),
      ),
    ),
  );
  plain = (switch_facts refl refl refl, tt);
  places = (refl, refl, refl, (refl, refl, refl, (refl, refl, refl, refl)));
  no_default = defaults_pass (rules_in (usage_of Check))
      (refl, (refl, (refl, (refl, (refl, (refl, (refl, (refl, (refl, tt)))))))));
  no_check = λ rows. refl;
}
fits_mode Run = record {
  valued = (
    option_facts refl refl (λ text. refl) (λ text. refl) refl refl,
    (option_facts refl refl (λ text. refl) (λ text. refl) refl refl, tt),
  );
  plain = tt;
  places = (refl, refl, refl, (refl, refl, refl, refl));
  no_default = defaults_pass (rules_in (usage_of Run)) (refl, (refl, (refl, (refl, tt))));
  no_check = λ rows. refl;
}
fits_mode Rank = record {
  valued = (
    option_facts refl refl (λ text. refl) (λ text. refl) refl refl,
    (
      option_facts refl refl (λ text. refl) (λ text. refl) refl refl,
      (
        option_facts refl refl (λ text. refl) (λ text. refl) refl refl,
        (
          option_facts refl refl (λ text. refl) (λ text. refl) refl refl,
          (
            option_facts refl refl (λ text. refl) (λ text. refl) refl refl,
            (option_facts refl refl (λ text. refl) (λ text. refl) refl refl, tt),
          ),
        ),
      ),
    ),
  );
  plain = tt;
  places = (refl, refl, refl, (refl, refl, refl, refl));
  no_default = defaults_pass (rules_in (usage_of Rank))
      (refl, (refl, (refl, (refl, (refl, (refl, (refl, (refl, tt))))))));
  no_check = λ rows. refl;
}
fits_mode Repair = record {
  valued = (
    option_facts refl refl (λ text. refl) (λ text. refl) refl refl,
    (
      option_facts refl refl (λ text. refl) (λ text. refl) refl refl,
      (
        option_facts refl refl (λ text. refl) (λ text. refl) refl refl,
        (
          option_facts refl refl (λ text. refl) (λ text. refl) refl refl,
          (
            option_facts refl refl (λ text. refl) (λ text. refl) refl refl,
            (option_facts refl refl (λ text. refl) (λ text. refl) refl refl, tt),
          ),
        ),
      ),
    ),
  );
  plain = tt;
  places = (refl, refl, refl, (refl, refl, refl, (refl, refl, refl, refl)));
  no_default = defaults_pass (rules_in (usage_of Repair))
      (refl, (refl, (refl, (refl, (refl, (refl, (refl, (refl, (refl, tt)))))))));
  no_check = λ rows. refl;
}
fits_mode Sample = record {
  valued = tt;
  plain = tt;
  places = (refl, refl, refl, refl);
  no_default = defaults_pass (rules_in (usage_of Sample)) (refl, tt);
  no_check = λ rows. refl;
}
