-- The tag of a line begins with #.
use Rattle.std.proofs.Common.{◌≡◌, ℕ, zero, suc, List, [], ◌∷◌, Bool, true, false, cond, Result, Ok, Err, Some, None, length, take, refl, ◌∙◌}
use Rattle.std.specs.Prelude.{◌==◌, ◌&&◌, Option, nat_lt, if◌then◌else◌}
use Rattle.std.specs.List.{onto_first, position, slice_split}
use Rattle.std.proofs.lemmas.Bool.{eqb-true}
use Rattle.move_journal.specs.Words.{is_space, word_list}
use Rattle.rail_model.specs.Names.{Names}
use Rattle.live_lines.specs.declared.calls.Call.{Call}
use Rattle.live_lines.specs.declared.calls.Fault.{Fault}
use Rattle.live_lines.specs.declared.calls.Fault.TheVariants.{Byte, Long, Tag}
use Rattle.live_lines.specs.declared.calls.Heard.{Heard}
use Rattle.live_lines.specs.declared.calls.Heard.TheVariants.{Empty, Refused}
use Rattle.live_lines.specs.Hearing.{heard, heard_words, is_foreign, is_marked, is_tag, most_bytes, under}
use Rattle.live_lines.specs.Kinds.{IsTag, tag_length}
use Rattle.live_lines.specs.Verbs.{call_of}

-- The first bytes of a line, as many as its tag has, are a tag.
abbrev HasTag : List ℕ → Heard → Type 0
HasTag line h = IsTag (take (tag_length h) line)

no_bytes : (line : List ℕ) → IsTag (take 0 line)
no_bytes [] = tt
no_bytes (b ∷ line) = tt

-- the first word of a line begins as the line does
begins_by : (ends : Bool) (b x : ℕ) (word : List ℕ) (others later : List (List ℕ))
    → cond ends ([] ∷ others) (onto_first x others) ≡ (b ∷ word) ∷ later → x ≡ b
begins_by true b x word others later is = absurd (cc is)
begins_by false b x word [] later is = cc is
begins_by false b x word (part ∷ parts) later is = cc is

first_byte : (line : List ℕ) (b : ℕ) (word : List ℕ) (later : List (List ℕ)) → word_list line ≡ (b ∷ word) ∷ later
    → IsTag (b ∷ []) → (n : ℕ) → IsTag (take n line)
unfolding word_list
first_byte line b word later is tag zero = no_bytes line
first_byte [] b word later is tag (suc n) = tt
first_byte (x ∷ xs) b word later is tag (suc n) =
    begins_by (is_space x) b x word (slice_split is_space xs) later is ∙ tag

-- a word that is a tag begins with #
left_true : (p q : Bool) → (p && q) ≡ true → p ≡ true
left_true true q is = refl
left_true false q is = absurd (cc is)

right_true : (p q : Bool) → (p && q) ≡ true → q ≡ true
right_true true q is = is
right_true false q is = absurd (cc is)

marked : (word : List ℕ) → is_tag word ≡ true → is_marked word ≡ true
unfolding is_tag
marked word is = left_true _ _ (left_true _ _ (left_true _ _ is))

tag_word : (line word : List ℕ) (later : List (List ℕ)) → word_list line ≡ word ∷ later → is_tag word ≡ true
    → (n : ℕ) → IsTag (take n line)
tag_word line [] later is tag n = absurd (let e = marked [] tag in cc)
tag_word line (b ∷ word) later is tag n =
    first_byte line b word later is (eqb-true b 35 (right_true _ _ (marked (b ∷ word) tag))) n

under_tag : (line : List ℕ) (n : ℕ) (call : Result Call Fault) → IsTag (take n line) → HasTag line (under n call)
under_tag line n (Ok call) tag = tag
under_tag line n (Err fault) tag = tag

no_tag : (line : List ℕ) (marked : Bool) (call : Result Call Fault)
    → HasTag line (if marked then Refused 0 Tag else under 0 call)
no_tag line true call = no_bytes line
no_tag line false call = under_tag line 0 call (no_bytes line)

by_tag : (line : List ℕ) (tagged marked : Bool) (n : ℕ) (call whole : Result Call Fault)
    → (tagged ≡ true → IsTag (take n line))
    → HasTag line (if tagged then under n call else (if marked then Refused 0 Tag else under 0 whole))
by_tag line true marked n call whole tag = under_tag line n call (tag refl)
by_tag line false marked n call whole tag = no_tag line marked whole

words_tag : (N : Names) (reports : Bool) (line : List ℕ) (words : List (List ℕ)) → word_list line ≡ words
    → HasTag line (heard_words N reports words)
unfolding heard_words
words_tag N reports line [] is = no_bytes line
words_tag N reports line (first ∷ later) is =
    by_tag line (is_tag first) (is_marked first) (length first) (call_of N reports later)
    (call_of N reports (first ∷ later)) (λ tag. tag_word line first later is tag (length first))

foreign_tag : (N : Names) (reports : Bool) (line : List ℕ) (at : Option ℕ)
    → HasTag line (elim at [ Some k ↦ Refused 0 (Byte k) | None ↦ heard_words N reports (word_list line) ])
foreign_tag N reports line (Some k) = no_bytes line
foreign_tag N reports line None = words_tag N reports line (word_list line) refl

by_length : (N : Names) (reports : Bool) (line : List ℕ) (empty long : Bool)
    → HasTag line (if empty then Empty else (if long then Refused 0 Long
    else elim (position is_foreign line) [
      | Some k ↦ Refused 0 (Byte k)
      | None ↦ heard_words N reports (word_list line)
    ]))
by_length N reports line true long = no_bytes line
by_length N reports line false true = no_bytes line
by_length N reports line false false = foreign_tag N reports line (position is_foreign line)

pub heard_tag : (N : Names) (reports : Bool) (line : List ℕ) → IsTag (take (tag_length (heard N reports line)) line)
unfolding heard
heard_tag N reports line = by_length N reports line (length line == 0) (nat_lt most_bytes (length line))
