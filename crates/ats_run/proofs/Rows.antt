-- Worked rows: orders, what they read, and the line of a drill.
use Rattle.std.proofs.Common.{◌≡◌, ◌++◌, [], ◌∷◌, codes, decimal, Option, Some, None, refl}
use Rattle.std.specs.Prelude.{◌==◌, map}
use Rattle.std.specs.Fmt.{digits}
use Rattle.std.specs.List.{slice_split}
use Rattle.clap.specs.Words.{Text}
use Rattle.clap.proofs.OnLiterals.{clap_on_literals}
use Rattle.decimal_number.specs.Decimal.{number_of}
use Rattle.ats_words.specs.Words.{leaf, words}
use Rattle.ats_words.specs.declared.orders.Order.{Order}
use Rattle.ats_words.specs.declared.orders.Order.TheVariants as order
use Rattle.ats_answers.specs.declared.failure.Failure.TheVariants as failure
use Rattle.ats_run.specs.Causes.{most_bytes}
use Rattle.ats_run.specs.Drilling.{drill_text}
use Rattle.shared_run.specs.Crews.{crew_of}
use Rattle.ats_run.specs.Orders.{order_of, Reads, OnInput, HoldsInput, MakesCertificates, crew_in, IsAlone}
use Rattle.ats_answers.specs.Report.{words_of}

-- what a line of words asks for, which single spaces part
abbrev asked : Text → Option Order
asked typed = order_of (slice_split (λ b. b == 32) typed)

orders : map asked (codes "run" ∷ codes "make --budget 8" ∷ codes "gen --seed 2 --trains 3" ∷ codes "gen --trains 3 --seed 2" ∷ codes "derive --most 3 --budget 8" ∷ codes "repair --budget 8 --rounds 5" ∷ [])
    ≡ Some (order.Run 0 1000 1) ∷ Some (order.Make 8) ∷ Some (order.Generate 2 3) ∷ Some (order.Generate 2 3) ∷ Some (order.Derive 3 8) ∷ Some (order.Repair 8 5) ∷ []
unfolding clap_on_literals leaf words number_of
orders = refl

refused_words : map asked (codes "" ∷ codes "go" ∷ codes "run check" ∷ codes "make --budget 0" ∷ codes "gen --seed" ∷ []) ≡ None ∷ None ∷ None ∷ None ∷ None ∷ []
unfolding clap_on_literals leaf words number_of
refused_words = refl

-- `gen` has the empty input, whatever the source held
input_of_gen : OnInput (order.Generate 2 3) (Some (codes "{}")) (λ input. input ≡ [])
input_of_gen = refl

gen_holds_nothing : HoldsInput (order.Generate 2 3) (Some (codes "{}")) []
gen_holds_nothing = refl

gen_holds_no_bytes : HoldsInput (order.Generate 2 3) (Some (codes "{}")) (codes "{}") → ⊥
gen_holds_no_bytes held = cc

-- the input of `run` is what the source held
input_of_run : OnInput (order.Run 0 5 1) (Some (codes "{}")) (λ input. input ≡ codes "{}")
input_of_run = refl

run_holds_the_bytes : HoldsInput (order.Run 0 5 1) (Some (codes "{}")) (codes "{}")
run_holds_the_bytes = refl

run_holds_no_others : HoldsInput (order.Run 0 5 1) (Some (codes "{}")) [] → ⊥
run_holds_no_others held = cc

crews : (crew_in (order.Run 2 5 1) ≡ crew_of 2 5 1) × (crew_in (order.Resume 3 7 4) ≡ crew_of 3 7 4) × (crew_in (order.Drill 2 3 8) ≡ crew_of 8 1000 1)
    × (crew_in order.Check ≡ crew_of 0 0 1)
crews = (refl, refl, refl, refl)

alone : IsAlone (order.Run 0 5 1) × IsAlone order.Check × (IsAlone (order.Drill 2 3 1) → ⊥)
alone = (refl, refl, λ none. cc none)

reading : Reads order.Check × (Reads (order.Drill 2 3 0) → ⊥)
reading = (tt, λ reads. reads)

making : MakesCertificates (order.Derive 3 8) × MakesCertificates (order.Generate 2 3) × (MakesCertificates order.Migrate → ⊥)
making = (tt, tt, λ makes. makes)

told_limit : words_of failure.TooLong ≡ codes "104 TooLong limit=" ++ decimal most_bytes
unfolding digits
told_limit = refl

drilled : drill_text 4 36 1 57 ≡ codes "trains=4 moves=36 tables=1 nodes=57\n"
unfolding digits
drilled = refl
