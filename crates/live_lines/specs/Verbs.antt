-- What each verb asks for.
use Rattle.std.specs.Prelude.{ℕ, List, [], ◌∷◌, codes, Bool, true, false, Option, Some, None, Result, Ok, Err, if◌then◌else◌}
use Rattle.std.specs.Str.{bytes_eq}
use Rattle.live_yard.specs.declared.requests.Request.TheVariants.{Ask as AskFor, Want as WantFor, Drop as DropOf, At as AtPlace, Table as TryTable}
use Rattle.rail_model.specs.Names.{Names}
use Rattle.live_lines.specs.declared.calls.Call.{Call}
use Rattle.live_lines.specs.declared.calls.Call.TheVariants.{Serve, Can as CanCall, Why as WhyCall, State as StateCall, Fits as FitsCall, Since as SinceCall, Ping as PingCall, Hello as HelloCall, Help as HelpCall, Quit as QuitCall}
use Rattle.live_lines.specs.declared.calls.Fault.{Fault}
use Rattle.live_lines.specs.declared.calls.Fault.TheVariants.{Verb as NoVerb, Words as BadWords, Reports}
use Rattle.live_lines.specs.declared.verbs.Verb.{Verb}
use Rattle.live_lines.specs.declared.verbs.Verb.TheVariants.{Ask, Want, Drop, Can, At, Why, State, Table, Fits, Since, Ping, Hello, Help, Quit}
use Rattle.live_lines.specs.Words.{◌>>=◌, or_fault, number_word, only_number, only_train, train_and_place, train_word}

-- each verb by its word
abbrev pub verbs : List (List ℕ × Verb)
verbs =
    (codes "ask", Ask) ∷ (codes "want", Want) ∷ (codes "drop", Drop) ∷ (codes "can", Can) ∷ (codes "at", At)
    ∷ (codes "why", Why) ∷ (codes "state", State) ∷ (codes "table", Table) ∷ (codes "fits", Fits)
    ∷ (codes "since", Since) ∷ (codes "ping", Ping) ∷ (codes "hello", Hello) ∷ (codes "help", Help)
    ∷ (codes "quit", Quit) ∷ []

-- the verb of the first row with this word
unfoldable pub verb_in : List (List ℕ × Verb) → List ℕ → Option Verb
verb_in [] word = None
verb_in (row ∷ rows) word = if bytes_eq row.0 word then Some row.1 else verb_in rows word

-- the verb that a word is
abbrev pub verb_of : List ℕ → Result Verb Fault
verb_of word = or_fault NoVerb (verb_in verbs word)

-- a verb without words after it
abbrev pub alone : Verb → Result Call Fault
alone State = Ok StateCall
alone Table = Ok (Serve (TryTable None))
alone Fits = Ok FitsCall
alone Ping = Ok PingCall
alone Hello = Ok HelloCall
alone Help = Ok HelpCall
alone Quit = Ok QuitCall
alone _ = Err BadWords

-- the train after `can`, or `*` for each
unfoldable pub can_of : Names → List (List ℕ) → Result Call Fault
can_of N (word ∷ []) =
    if bytes_eq word (codes "*") then Ok (CanCall None) else (train_word N word >>= λ i. Ok (CanCall (Some i)))
can_of N _ = Err BadWords

-- a train and a place after `at`; where trains don't report, two words are refused whatever they are
unfoldable pub at_of : Names → Bool → List (List ℕ) → Result Call Fault
at_of N true (train ∷ place ∷ []) = train_word N train >>= λ i. number_word place >>= λ k. Ok (Serve (AtPlace i k))
at_of N false (train ∷ place ∷ []) = Err Reports
at_of N reports _ = Err BadWords

-- the train and the place after `ask`
abbrev pub ask_of : Names → List (List ℕ) → Result Call Fault
ask_of N words = train_and_place N words >>= λ named. Ok (Serve (AskFor (named.train) (named.place)))

-- the train and the place after `want`
abbrev pub want_of : Names → List (List ℕ) → Result Call Fault
want_of N words = train_and_place N words >>= λ named. Ok (Serve (WantFor (named.train) (named.place)))

-- the table after `table`
abbrev pub table_of : List (List ℕ) → Result Call Fault
table_of words = only_number words >>= λ t. Ok (Serve (TryTable (Some t)))

-- a verb with words after it
abbrev pub followed : Names → Bool → Verb → List (List ℕ) → Result Call Fault
followed N reports Ask words = ask_of N words
followed N reports Want words = want_of N words
followed N reports Drop words = only_train N words >>= λ i. Ok (Serve (DropOf i))
followed N reports Can words = can_of N words
followed N reports At words = at_of N reports words
followed N reports Why words = only_train N words >>= λ i. Ok (WhyCall i)
followed N reports Table words = table_of words
followed N reports Since words = only_number words >>= λ n. Ok (SinceCall n)
followed N reports _ words = Err BadWords

-- a verb and the words after it
abbrev pub with_words : Names → Bool → List (List ℕ) → Verb → Result Call Fault
with_words N reports [] verb = alone verb
with_words N reports (word ∷ later) verb = followed N reports verb (word ∷ later)

-- what the words of a line ask for, after its tag
unfoldable pub call_of : Names → Bool → List (List ℕ) → Result Call Fault
call_of N reports [] = Err NoVerb
call_of N reports (verb ∷ words) = verb_of verb >>= with_words N reports words
