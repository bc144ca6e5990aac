-- What the words after a verb mean.
use Rattle.std.specs.Prelude.{ℕ, ◌-◌, ◌^◌, ◌==◌, ◌&&◌, not, List, [], ◌∷◌, length, slice_index, Bool, Option, Some, None, Result, Ok, Err, if◌then◌else◌}
use Rattle.std.specs.Char.{is_ascii_digit}
use Rattle.std.specs.List.{list_all}
use Rattle.decimal_number.specs.Decimal.{number_of}
use Rattle.move_journal.specs.Words.{called}
use Rattle.rail_model.specs.Names.{Names}
use Rattle.live_lines.specs.declared.calls.Fault.{Fault}
use Rattle.live_lines.specs.declared.calls.Fault.TheVariants.{Train, Words}
use Rattle.live_lines.specs.declared.words.Named.{Named}

-- what follows a result that isn't an error
infixl 10 ◌>>=◌
abbrev pub ◌>>=◌ : {A B : Type 0} → Result A Fault → (A → Result B Fault) → Result B Fault
(Ok a) >>= f = f a
(Err fault) >>= f = Err fault

-- the value, or else this error
abbrev pub or_fault : {A : Type 0} → Fault → Option A → Result A Fault
or_fault fault (Some a) = Ok a
or_fault fault None = Err fault

-- the train that is called so
abbrev pub train_word : Names → List ℕ → Result ℕ Fault
train_word N word = or_fault Train (called N.trains word)

-- whether a word is ten digits, of which the first isn't 0
abbrev pub has_ten_digits : List ℕ → Bool
has_ten_digits word = (length word == 10) && not (slice_index word 0 == 48) && list_all is_ascii_digit word

-- a whole number, as a word writes it; ten digits that are above 2 ^ 32 - 1 are read as that
unfoldable pub number_word : List ℕ → Result ℕ Fault
number_word word = elim (number_of word) [
  | Some n ↦ Ok n
  | None ↦ (if has_ten_digits word then Ok (2 ^ 32 - 1) else Err Words)
]

-- one word, a train
abbrev pub only_train : Names → List (List ℕ) → Result ℕ Fault
only_train N (train ∷ []) = train_word N train
only_train N _ = Err Words

-- one word, a number
abbrev pub only_number : List (List ℕ) → Result ℕ Fault
only_number (number ∷ []) = number_word number
only_number _ = Err Words

-- a train, and maybe a place: too many words come first, then the train, then the number
abbrev pub train_and_place : Names → List (List ℕ) → Result Named Fault
train_and_place N (train ∷ []) = train_word N train >>= λ i. Ok (record { train = i; place = None })
train_and_place N (train ∷ place ∷ []) =
    train_word N train >>= λ i. number_word place >>= λ k. Ok (record { train = i; place = Some k })
train_and_place N _ = Err Words
