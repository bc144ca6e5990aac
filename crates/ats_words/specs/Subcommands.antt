-- The subcommands: the options of each, and what it asks for.
use Rattle.std.specs.Prelude.{ℕ, List, [], ◌∷◌, codes, Option, Some, option_and_then}
use Rattle.clap.specs.Words.{Row, Text}
use Rattle.ats_words.specs.Options.{NumberOption, TakesNumber, number, workers, rounds, block, budget, most, repair_rounds, seed, steps, trains}
use Rattle.ats_words.specs.declared.orders.Order.{Order}
use Rattle.ats_words.specs.declared.orders.Order.TheVariants as order

-- the next step, where there is a value
infixl 10 ◌>>=◌
abbrev pub ◌>>=◌ : {A B : Type 0} → Option A → (A → Option B) → Option B
o >>= f = option_and_then f o

-- a subcommand: its name, its options, and what it asks for where its options were given so
pub record Subcommand : Type 0 where
  pub name : Text
  pub options : List NumberOption
  pub order : List Row → Option Order

-- a subcommand with no option
abbrev pub with_none : Text → Order → Subcommand
with_none called asked = record { name = called; options = []; order = λ given. Some asked }

-- a subcommand with one option, whose number the order has
abbrev pub with_one : Text → NumberOption → (ℕ → Order) → Subcommand
with_one called first asked = record {
  name = called;
  options = first ∷ [];
  order = λ given. do
    a ← number first given
    Some (asked a);
}

-- a subcommand with two options, whose numbers the order has
abbrev pub with_two : Text → NumberOption → NumberOption → (ℕ → ℕ → Order) → Subcommand
with_two called first second asked = record {
  name = called;
  options = first ∷ second ∷ [];
  order = λ given. do
    a ← number first given
    b ← number second given
    Some (asked a b);
}

-- a subcommand with three options, whose numbers the order has
abbrev pub with_three : Text → NumberOption → NumberOption → NumberOption → (ℕ → ℕ → ℕ → Order) → Subcommand
with_three called first second third asked = record {
  name = called;
  options = first ∷ second ∷ third ∷ [];
  order = λ given. do
    a ← number first given
    b ← number second given
    c ← number third given
    Some (asked a b c);
}

-- runs the trains of a document
abbrev pub run : Subcommand
run = with_three (codes "run") workers rounds block order.Run

-- runs the trains of a document on from the beginning of a journal
abbrev pub resume : Subcommand
resume = with_three (codes "resume") workers rounds block order.Resume

-- checks the certificates of a document
abbrev pub check : Subcommand
check = with_none (codes "check") order.Check

-- checks a journal of a document
abbrev pub verify : Subcommand
verify = with_none (codes "verify") order.Verify

-- brings a document of version 1 to version 2
abbrev pub migrate : Subcommand
migrate = with_none (codes "migrate") order.Migrate

-- makes the certificates of a document
abbrev pub make : Subcommand
make = with_one (codes "make") budget order.Make

-- makes the sections of a document from rings of trains, and its certificates
abbrev pub derive : Subcommand
derive = with_two (codes "derive") most budget order.Derive

-- makes the sections of a document from states that are stuck, and its certificates
abbrev pub repair : Subcommand
repair = with_two (codes "repair") budget repair_rounds order.Repair

-- runs the trains of a document by the times that they take
abbrev pub simulate : Subcommand
simulate = with_none (codes "sim") order.Simulate

-- makes a document from a seed
abbrev pub generate : Subcommand
generate = with_two (codes "gen") seed trains order.Generate

-- makes a document from a seed, and runs its trains
abbrev pub drill : Subcommand
drill = with_three (codes "drill") seed trains workers order.Drill

-- makes turns of a document's trains and control, each by the one that is drawn, and finishes the run
abbrev pub weave : Subcommand
weave = with_two (codes "weave") seed steps order.Weave

-- Each number of the order is one that its option takes.
abbrev pub HasItsNumbers : Order → Type 0
HasItsNumbers (order.Run w r b) = TakesNumber workers w × TakesNumber rounds r × TakesNumber block b
HasItsNumbers (order.Resume w r b) = TakesNumber workers w × TakesNumber rounds r × TakesNumber block b
HasItsNumbers (order.Make b) = TakesNumber budget b
HasItsNumbers (order.Derive m b) = TakesNumber most m × TakesNumber budget b
HasItsNumbers (order.Repair b r) = TakesNumber budget b × TakesNumber repair_rounds r
HasItsNumbers (order.Generate s n) = TakesNumber seed s × TakesNumber trains n
HasItsNumbers (order.Drill s n w) = TakesNumber seed s × TakesNumber trains n × TakesNumber workers w
HasItsNumbers (order.Weave s k) = TakesNumber seed s × TakesNumber steps k
HasItsNumbers _ = Unit {0}
