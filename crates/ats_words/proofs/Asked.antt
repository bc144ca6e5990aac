-- What a subcommand asks for, of the numbers of its options.
use Rattle.std.proofs.Common.{◌≡◌, ◌∙◌, ℕ, List, Some, Option, ap, sym}
use Rattle.std.specs.Prelude.{option_and_then}
use Rattle.clap.specs.Words.{Row, Text}
use Rattle.ats_words.specs.Options.{NumberOption, number}
use Rattle.ats_words.specs.Subcommands.{with_one, with_two, with_three}
use Rattle.ats_words.specs.Words.{order_of}
use Rattle.ats_words.specs.declared.orders.Order.{Order}

module _ (given : List Row) (called : Text) (first : NumberOption) (a : ℕ) (is : Some a ≡ number first given) where
  pub asks_one : (asked : ℕ → Order) → Some (asked a) ≡ (with_one called first asked).order given
  asks_one asked = ap (λ o. option_and_then (λ n. Some (asked n)) o) is

  module _ (second : NumberOption) (b : ℕ) (is_too : Some b ≡ number second given) where
    pub asks_two : (asked : ℕ → ℕ → Order) → Some (asked a b) ≡ (with_two called first second asked).order given
    asks_two asked = λ i. option_and_then (λ n. option_and_then (λ m. Some (asked n m)) (is_too i)) (is i)

    pub asks_three : (third : NumberOption) (c : ℕ) → Some c ≡ number third given → (asked : ℕ → ℕ → ℕ → Order)
        → Some (asked a b c) ≡ (with_three called first second third asked).order given
    asks_three third c is_last asked = λ i. option_and_then (λ n. option_and_then (λ m. option_and_then (λ k. Some (asked n m k)) (is_last i)) (is_too i)) (is i)

-- what the subcommand of a name asks for is what a name that is the same asks for
pub asks_by_name : (given : List Row) (name known : Text) (asked : Option Order) → name ≡ known → asked ≡ order_of (known, given) → asked ≡ order_of (name, given)
asks_by_name given name known asked same is = is ∙ ap (λ name. order_of (name, given)) (sym same)
