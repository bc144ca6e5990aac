-- The words of a text.
use Rattle.std.proofs.Common.{◌≡◌, ◌≢◌, ℕ, List, [], ◌∷◌, ◌++◌, false, refl, ◌<◌, length, ap, ◌∙◌, arith}
use Rattle.std.specs.List.{All, slice_split, join_with_byte}
use Rattle.std.proofs.lemmas.Bool.{ne_eqb}
use Rattle.std.proofs.lemmas.List.Splits.{slice_split_none, slice_split_at, length-slice_split, join_with_byte-slice_split}
use Rattle.std.proofs.lemmas.List.Elements.{All-weaker}
use Rattle.move_journal.specs.Words.{word_list, is_space, HasMore}

abbrev pub IsWord : List ℕ → Type 0
IsWord w = All (λ b. b ≢ 32) w

no_space : (w : List ℕ) → IsWord w → All (λ b. is_space b ≡ false) w
no_space w plain = All-weaker (λ b. b ≢ 32) (λ b. is_space b ≡ false) (λ b ne. ne_eqb b 32 ne) w plain

pub word_list_more : (w later : List ℕ) → IsWord w → word_list (w ++ 32 ∷ later) ≡ w ∷ word_list later
unfolding word_list
word_list_more w later plain = slice_split_at is_space w 32 later (no_space w plain) refl

pub word_list_last : (w : List ℕ) → IsWord w → word_list w ≡ w ∷ []
unfolding word_list
word_list_last w plain = slice_split_none is_space w (no_space w plain)

pub words_joined : (bytes : List ℕ) → join_with_byte 32 (word_list bytes) ≡ bytes
unfolding word_list
words_joined bytes = join_with_byte-slice_split 32 bytes

cons_of : (ws : List (List ℕ)) → 0 < length ws → (w : List ℕ) × (later : List (List ℕ)) × (ws ≡ w ∷ later)
cons_of [] h = absurd (omega arith)
cons_of (w ∷ ws) h = (w, ws, refl)

pub word_list_some : (bytes : List ℕ) → (w : List ℕ) × (later : List (List ℕ)) × (word_list bytes ≡ w ∷ later)
unfolding word_list
word_list_some bytes = cons_of (slice_split is_space bytes) (omega (arith, length-slice_split is_space bytes))

pub has_more : (bytes w later : List ℕ) → bytes ≡ w ++ 32 ∷ later → IsWord w → HasMore bytes
has_more bytes w later is plain =
    let p = word_list_some later in
    record {
      first = w;
      second = p.0;
      later = p.1;
      words = ap word_list is ∙ word_list_more w later plain ∙ ap (λ ws. w ∷ ws) p.2;
    }
