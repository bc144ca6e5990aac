-- Rows of the definitions, computed: command lines, and what they ask for.
use Rattle.std.proofs.Common.{◌≡◌, [], ◌∷◌, codes, Option, Some, None, refl}
use Rattle.std.specs.Prelude.{◌==◌, map}
use Rattle.std.specs.List.{slice_split}
use Rattle.clap.specs.Words.{Text}
use Rattle.clap.proofs.OnLiterals.{clap_on_literals}
use Rattle.decimal_number.specs.Decimal.{number_of}
use Rattle.ats_words.specs.Options.{number, number_between, budget}
use Rattle.ats_words.specs.Words.{leaf, order_of, words}
use Rattle.ats_words.specs.declared.orders.Order.{Order}
use Rattle.ats_words.specs.declared.orders.Order.TheVariants as order

-- the words of a line, which single spaces part
abbrev asked : Text → Option Order
asked line = words (slice_split (λ b. b == 32) line)

in_range : number_between 1 1000000 (codes "1000000") ≡ Some 1000000
unfolding number_of
in_range = refl

out_of_range : number_between 1 1000000 (codes "0") ≡ None
unfolding number_of
out_of_range = refl

not_given : number budget [] ≡ Some 1000000
not_given = refl

order_of_check : order_of (codes "check", []) ≡ Some order.Check
order_of_check = refl

order_of_unknown : order_of (codes "checks", []) ≡ None
order_of_unknown = refl

-- Each subcommand alone has its defaults.
defaults : map asked (codes "run" ∷ codes "resume" ∷ codes "check" ∷ codes "verify" ∷ codes "migrate" ∷ codes "make" ∷ []) ≡ Some (order.Run 0 1000 1) ∷ Some (order.Resume 0 1000 1) ∷ Some order.Check ∷ Some order.Verify ∷ Some order.Migrate ∷ Some (order.Make 1000000) ∷ []
unfolding clap_on_literals leaf words number_of
defaults = refl

run_rounds : asked (codes "run --rounds 5") ≡ Some (order.Run 0 5 1)
unfolding clap_on_literals leaf words number_of
run_rounds = refl

run_rounds_with_sign : asked (codes "run --rounds=3") ≡ Some (order.Run 0 3 1)
unfolding clap_on_literals leaf words number_of
run_rounds_with_sign = refl

any_order : asked (codes "resume --rounds=7 --workers 0") ≡ Some (order.Resume 0 7 1)
unfolding clap_on_literals leaf words number_of
any_order = refl

-- Two dashes at the end ask for nothing more.
dashes_last : asked (codes "run --") ≡ Some (order.Run 0 1000 1)
unfolding clap_on_literals leaf words number_of
dashes_last = refl

dashes_before : map asked (codes "run -- extra" ∷ codes "-- run" ∷ codes "--" ∷ codes "run --rounds --" ∷ []) ≡ None ∷ None ∷ None ∷ None ∷ []
unfolding clap_on_literals leaf words number_of
dashes_before = refl

nothing : words [] ≡ None
unfolding clap_on_literals leaf words number_of
nothing = refl

help_words : map asked (codes "help" ∷ codes "--help" ∷ codes "-h" ∷ codes "run --help" ∷ codes "run -h" ∷ codes "--version" ∷ codes "-V" ∷ []) ≡ None ∷ None ∷ None ∷ None ∷ None ∷ None ∷ None ∷ []
unfolding clap_on_literals leaf words number_of
help_words = refl

not_decimal : map asked (codes "run --rounds +3" ∷ codes "run --rounds 03" ∷ codes "run --rounds -3" ∷ codes "run --rounds=-0" ∷ codes "run --rounds=" ∷ codes "run --rounds " ∷ codes "run --rounds 3x" ∷ []) ≡ None ∷ None ∷ None ∷ None ∷ None ∷ None ∷ None ∷ []
unfolding clap_on_literals leaf words number_of
not_decimal = refl

out_of_ranges : map asked (codes "run --workers 17" ∷ codes "run --rounds 1000001" ∷ codes "resume --workers 17" ∷ codes "make --budget 0" ∷ codes "make --budget 1000001" ∷ codes "make --budget 4294967297" ∷ []) ≡ None ∷ None ∷ None ∷ None ∷ None ∷ None ∷ []
unfolding clap_on_literals leaf words number_of
out_of_ranges = refl

twice : map asked (codes "run --rounds 3 --rounds 3" ∷ codes "run --rounds=3 --rounds 3" ∷ codes "run run" ∷ codes "run check" ∷ []) ≡ None ∷ None ∷ None ∷ None ∷ []
unfolding clap_on_literals leaf words number_of
twice = refl

not_its_own : map asked (codes "check --rounds 3" ∷ codes "make --rounds 3" ∷ codes "resume --budget 2" ∷ codes "--rounds 3 run" ∷ []) ≡ None ∷ None ∷ None ∷ None ∷ []
unfolding clap_on_literals leaf words number_of
not_its_own = refl

other_words : map asked (codes "run --round 3" ∷ codes "ru" ∷ codes "RUN" ∷ codes "run extra" ∷ codes "run --rounds" ∷ codes "run -" ∷ codes "run --=3" ∷ codes "" ∷ codes "weaves" ∷ []) ≡ None ∷ None ∷ None ∷ None ∷ None ∷ None ∷ None ∷ None ∷ None ∷ []
unfolding clap_on_literals leaf words number_of
other_words = refl

-- So have those that make sections, and the trials.
more_defaults : map asked (codes "derive" ∷ codes "repair" ∷ codes "sim" ∷ codes "gen" ∷ codes "drill" ∷ []) ≡ Some (order.Derive 2 1000000) ∷ Some (order.Repair 1000000 1000) ∷ Some order.Simulate ∷ Some (order.Generate 0 2) ∷ Some (order.Drill 0 2 0) ∷ []
unfolding clap_on_literals leaf words number_of
more_defaults = refl

drill_of_seven : asked (codes "drill --trains 32 --seed=7") ≡ Some (order.Drill 7 32 0)
unfolding clap_on_literals leaf words number_of
drill_of_seven = refl

-- Each of their options has an end to its range.
more_out_of_ranges : map asked (codes "derive --most 1" ∷ codes "derive --most 9" ∷ codes "repair --rounds 10001" ∷ codes "gen --seed 4294967296" ∷ codes "gen --trains 33" ∷ codes "drill --workers 17" ∷ []) ≡ None ∷ None ∷ None ∷ None ∷ None ∷ None ∷ []
unfolding clap_on_literals leaf words number_of
more_out_of_ranges = refl

more_not_its_own : map asked (codes "derive --rounds 3" ∷ codes "repair --most 2" ∷ codes "sim --seed 1" ∷ codes "gen --workers 0" ∷ codes "drill --rounds 3" ∷ []) ≡ None ∷ None ∷ None ∷ None ∷ None ∷ []
unfolding clap_on_literals leaf words number_of
more_not_its_own = refl

-- Workers, and the steps that they ask for at once.
by_workers : map asked (codes "run --workers 16 --block 4" ∷ codes "resume --block=2 --workers 3" ∷ codes "drill --workers 8" ∷ []) ≡ Some (order.Run 16 1000 4) ∷ Some (order.Resume 3 1000 2) ∷ Some (order.Drill 0 2 8) ∷ []
unfolding clap_on_literals leaf words number_of
by_workers = refl

no_blocks : map asked (codes "run --block 0" ∷ codes "run --block 5" ∷ codes "resume --block 5" ∷ codes "drill --block 1" ∷ []) ≡ None ∷ None ∷ None ∷ None ∷ []
unfolding clap_on_literals leaf words number_of
no_blocks = refl

-- A weave has a seed and a number of turns, which has an end to its range.
weaves : map asked (codes "weave" ∷ codes "weave --seed 7 --steps 1000" ∷ []) ≡ Some (order.Weave 0 0) ∷ Some (order.Weave 7 1000) ∷ []
unfolding clap_on_literals leaf words number_of
weaves = refl

no_weaves : map asked (codes "weave --steps 1000001" ∷ codes "weave --workers 0" ∷ codes "gen --steps 1" ∷ []) ≡ None ∷ None ∷ None ∷ []
unfolding clap_on_literals leaf words number_of
no_weaves = refl
