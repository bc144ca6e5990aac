-- What the words of a command line ask for: they are read by clap's definition of a command with one required
-- subcommand and long options alone, which has no help words.
use Rattle.std.specs.Prelude.{List, [], ◌∷◌, ◌++◌, codes, map, true, Option, None, find, option_and_then}
use Rattle.std.specs.Str.{bytes_eq}
use Rattle.clap.specs.Words.{App, Shape, Row, Text, Kinds, new_app, fault_of, subcommand_of}
use Rattle.ats_words.specs.Built.{long_option, with_all}
unfoldable pub use Rattle.ats_words.specs.Built.{leaf}
use Rattle.ats_words.specs.Subcommands as sub
use Rattle.ats_words.specs.Subcommands.{Subcommand}
use Rattle.ats_words.specs.declared.orders.Order.{Order}

-- what runs the trains, or checks a document or a journal
abbrev pub runs : List Subcommand
runs = sub.run ∷ sub.resume ∷ sub.check ∷ sub.verify ∷ []

-- what makes a document of another, or certificates, or sections
abbrev pub makers : List Subcommand
makers = sub.migrate ∷ sub.make ∷ sub.derive ∷ sub.repair ∷ []

-- what tries a run, on a document or on a made one
abbrev pub trials : List Subcommand
trials = sub.simulate ∷ sub.generate ∷ sub.drill ∷ sub.weave ∷ []

-- all of them
abbrev pub subcommands : List Subcommand
subcommands = runs ++ makers ++ trials

-- a subcommand as clap takes it
abbrev pub shape_of : Subcommand → Shape
shape_of s = leaf s.name (map (λ o. long_option o.name) s.options)

-- the command before any subcommand: one is required, and there are no help words
abbrev pub start : App
start =
    let app = new_app (codes "ats") in
    record app { top = record app.top { no_binary_name = true; subcommand_required = true; disable_help_flag = true; disable_help_subcommand = true } }

-- the whole command
abbrev pub ats : App
ats = with_all (map shape_of subcommands) start

-- what a subcommand of this name asks for
abbrev pub order_of : Text × List Row → Option Order
order_of called = option_and_then (λ s. s.order called.1) (find (λ s. bytes_eq called.0 s.name) subcommands)

-- what was found where clap finds no fault
abbrev pub unless_faulty : {A : Type 0} → Kinds → Option A → Option A
unless_faulty [] found = found
unless_faulty (fault ∷ faults) found = None

-- what the words ask for, or None where they are refused
unfoldable pub words : List Text → Option Order
words ws = unless_faulty (fault_of ats ws) (option_and_then order_of (subcommand_of ats ws))
