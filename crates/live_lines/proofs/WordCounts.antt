-- What the words of a line ask for, by how many they are.
use Rattle.std.proofs.Common.{◌≡◌, List, [], ◌∷◌, ℕ, Bool, Ok, Err, refl}
use Rattle.move_journal.specs.Words.{word_list}
use Rattle.move_journal.proofs.Splitting.{word_list_some}
use Rattle.rail_model.specs.Names.{Names}
use Rattle.live_lines.specs.declared.calls.Fault.TheVariants.{Verb as NoVerb}
use Rattle.live_lines.specs.declared.verbs.Verb.{Verb}
use Rattle.live_lines.specs.Verbs.{call_of, followed, verb_of, with_words}

pub no_call : (N : Names) (reports : Bool) → call_of N reports [] ≡ Err NoVerb
unfolding call_of
no_call N reports = refl

some_words : (N : Names) (reports : Bool) (verb : Verb) (words : List (List ℕ)) (word : List ℕ) (later : List (List ℕ))
    → words ≡ word ∷ later → with_words N reports words verb ≡ followed N reports verb words
some_words N reports verb words word later is = rw is refl

pub call_followed : (N : Names) (reports : Bool) (bytes word later : List ℕ) (verb : Verb)
    → word_list bytes ≡ word ∷ word_list later → verb_of word ≡ Ok verb
    → call_of N reports (word_list bytes) ≡ followed N reports verb (word_list later)
unfolding call_of
call_followed N reports bytes word later verb is known =
    let p = word_list_some later in
    rw (is, known) (some_words N reports verb (word_list later) p.0 p.1 p.2)
