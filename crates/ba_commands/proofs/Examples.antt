-- Words and the commands that they are, computed.
use Rattle.std.proofs.Common.{◌≡◌, true, false, None, Some, [], ◌∷◌, codes, refl}
use Rattle.ba_commands.specs.Commands.{command_of}
use Rattle.ba_commands.specs.declared.commands.Command.TheVariants as command

no_words : command_of [] ≡ None
unfolding command_of
no_words = refl

bound_missing : command_of (codes "localise" ∷ codes "p.c" ∷ codes "in.txt" ∷ []) ≡ None
unfolding command_of
bound_missing = refl

bound_with_equals : command_of (codes "localise" ∷ codes "p.c" ∷ codes "in.txt" ∷ codes "--bound=3" ∷ [])
    ≡ Some (command.Localise (codes "p.c") (codes "in.txt") (record { turns = 3; frames = 16 }) None 200000
    1000 None false false false false)
unfolding command_of
bound_with_equals = refl

options_in_any_order : command_of (codes "localise" ∷ codes "--runs" ∷ codes "p.c" ∷ codes "--weights"
    ∷ codes "a=b" ∷ codes "--restart=steady"
    ∷ codes "in.txt" ∷ codes "--bound" ∷ codes "128" ∷ codes "--depth" ∷ codes "01" ∷ [])
    ≡ Some (command.Localise (codes "p.c") (codes "in.txt") (record { turns = 128; frames = 1 })
    (Some (codes "a=b")) 200000 1000 None true false false true)
unfolding command_of
options_in_any_order = refl

places_of_a_run : command_of (codes "localise" ∷ codes "--places" ∷ codes "p.c" ∷ codes "in.txt"
    ∷ codes "--bound=3" ∷ [])
    ≡ Some (command.Localise (codes "p.c") (codes "in.txt") (record { turns = 3; frames = 16 }) None 200000
    1000 None false true false false)
unfolding command_of
places_of_a_run = refl

places_with_a_certificate : command_of (codes "localise" ∷ codes "p.c" ∷ codes "in.txt" ∷ codes "--bound=3"
    ∷ codes "--cert=c" ∷ codes "--places" ∷ []) ≡ None
unfolding command_of
places_with_a_certificate = refl

places_with_a_value : command_of (codes "localise" ∷ codes "p.c" ∷ codes "in.txt" ∷ codes "--bound=3"
    ∷ codes "--places=1" ∷ []) ≡ None
unfolding command_of
places_with_a_value = refl

all_runs : command_of (codes "localise" ∷ codes "--all" ∷ codes "p.c" ∷ codes "in.txt"
    ∷ codes "--bound=3" ∷ codes "--cert=c" ∷ [])
    ≡ Some (command.Localise (codes "p.c") (codes "in.txt") (record { turns = 3; frames = 16 }) None 200000
    1000 (Some (codes "c")) false false true false)
unfolding command_of
all_runs = refl

check_of_all_runs : command_of (codes "check" ∷ codes "p.c" ∷ codes "in.txt" ∷ codes "c" ∷ codes "--all"
    ∷ codes "--bound=3" ∷ [])
    ≡ Some (command.Check (codes "p.c") (codes "in.txt") (codes "c") (record { turns = 3; frames = 16 }) None
    200000 1000 true)
unfolding command_of
check_of_all_runs = refl

places_of_all_runs : command_of (codes "localise" ∷ codes "p.c" ∷ codes "in.txt" ∷ codes "--bound=3"
    ∷ codes "--all" ∷ codes "--places" ∷ []) ≡ None
unfolding command_of
places_of_all_runs = refl

ranking_of_all_runs : command_of (codes "rank" ∷ codes "p.c" ∷ codes "in.txt" ∷ codes "--bound=3"
    ∷ codes "--all" ∷ []) ≡ None
unfolding command_of
ranking_of_all_runs = refl

files_of_a_repair : command_of (codes "repair" ∷ codes "p.c" ∷ codes "f" ∷ codes "p" ∷ codes "--bound=3" ∷ [])
    ≡ Some (command.Repair (codes "p.c") (codes "f") (codes "p") (record { turns = 3; frames = 16 }) None
    200000
    1000 false)
unfolding command_of
files_of_a_repair = refl

repair_without_passing_inputs : command_of
    (codes "repair" ∷ codes "p.c" ∷ codes "f" ∷ codes "--bound=3" ∷ []) ≡ None
unfolding command_of
repair_without_passing_inputs = refl

bound_of_zero : command_of (codes "run" ∷ codes "p.c" ∷ codes "in.txt" ∷ codes "--bound" ∷ codes "0" ∷ [])
    ≡ None
unfolding command_of
bound_of_zero = refl

bound_twice : command_of (codes "run" ∷ codes "p.c" ∷ codes "in.txt" ∷ codes "--bound" ∷ codes "3"
    ∷ codes "--bound=3" ∷ []) ≡ None
unfolding command_of
bound_twice = refl

option_as_value : command_of
    (codes "localise" ∷ codes "p.c" ∷ codes "in.txt" ∷ codes "--bound" ∷ codes "--runs" ∷ []) ≡ None
unfolding command_of
option_as_value = refl

additions : command_of (codes "sample" ∷ codes "200" ∷ []) ≡ Some (command.Sample 200)
unfolding command_of
additions = refl

too_many_additions : command_of (codes "sample" ∷ codes "501" ∷ []) ≡ None
unfolding command_of
too_many_additions = refl
