-- The options of the command line: each takes one whole number, and has a default where it isn't given.
use Rattle.std.specs.Prelude.{ℕ, ◌≤◌, ◌&&◌, List, codes, nat_le, Option, Some, None, option_and_then, if◌then◌else◌}
use Rattle.std.specs.Option.{option_map_or}
use Rattle.clap.specs.Words.{Row, Rule, Text, first_of}
use Rattle.decimal_number.specs.Decimal.{number_of}
use Rattle.ats_words.specs.Built.{long_option}
use Rattle.ats_words.specs.declared.options.NumberOption.{NumberOption as InCode}

-- an option: its name, the numbers from `least` to `greatest` that it takes, and its default
pub record NumberOption : Type 0 where
  pub name : Text
  pub least : ℕ
  pub greatest : ℕ
  pub default : ℕ

-- the option of this name, least and greatest number, and default
abbrev pub option : Text → ℕ → ℕ → ℕ → NumberOption
option name least greatest default = record { name = name; least = least; greatest = greatest; default = default }

-- an option of the code
abbrev pub of : InCode → NumberOption
of o = option o.name.now o.least o.greatest o.default

-- what clap takes it for
abbrev pub rule_for : InCode → Rule
rule_for o = long_option o.name.now

-- how many workers run the trains at once: 0, which is one thread alone
abbrev pub workers : NumberOption
workers = option (codes "workers") 0 16 0

-- how many rounds each worker makes at most
abbrev pub rounds : NumberOption
rounds = option (codes "rounds") 0 1000000 1000

-- how many steps a worker asks for at once
abbrev pub block : NumberOption
block = option (codes "block") 1 4 1

-- how many turns a weave makes
abbrev pub steps : NumberOption
steps = option (codes "steps") 0 1000000 0

-- how many nodes a certificate has at most
abbrev pub budget : NumberOption
budget = option (codes "budget") 1 1000000 1000000

-- how many trains a ring has at most
abbrev pub most : NumberOption
most = option (codes "most") 2 8 2

-- how many rounds a repair makes at most
abbrev pub repair_rounds : NumberOption
repair_rounds = option (codes "rounds") 0 10000 1000

-- what the draws of a made document or of a weave begin with
abbrev pub seed : NumberOption
seed = option (codes "seed") 0 4294967295 0

-- how many trains a made document has
abbrev pub trains : NumberOption
trains = option (codes "trains") 0 32 2

-- The option takes this number.
abbrev pub TakesNumber : NumberOption → ℕ → Type 0
TakesNumber o n = (o.least ≤ n) × (n ≤ o.greatest)

-- the number that a text is, if it is in range
abbrev pub number_between : ℕ → ℕ → Text → Option ℕ
number_between least greatest text =
    option_and_then (λ n. if nat_le least n && nat_le n greatest then Some n else None) (number_of text)

-- the number of an option: the one that it was given, else its default
abbrev pub number : NumberOption → List Row → Option ℕ
number o given = option_map_or (number_between o.least o.greatest) (first_of o.name given) (Some o.default)
