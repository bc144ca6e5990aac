-- Texts of lines, of which some are lines of the journal.
use Rattle.std.proofs.Common.{◌≡◌, ℕ, zero, suc, ◌+◌, ◌/◌, ◌%◌, ◌<◌, ◌≤◌, ◌++◌, List, [], ◌∷◌, Bool, true, false, cond, codes, decimal, length, refl, sym, ap, subst, ◌∙◌, arith, add-zero}
use Rattle.std.specs.Prelude.{◌==◌, ◌&&◌, flat_map, map, if◌then◌else◌}
use Rattle.std.specs.Char.{is_ascii_digit}
use Rattle.std.specs.Fmt.{digit_glyph, digits, digits_onto}
use Rattle.std.specs.List.{concat}
use Rattle.std.proofs.lemmas.Bool.{le-leb, lt-ltb}
use Rattle.std.proofs.lemmas.List.{append-nil, map-append}
use Rattle.std.proofs.lemmas.List.Elements.{filter-append}
use Rattle.std.proofs.lemmas.List.Folds.{concat-append}
use Rattle.rail_model.specs.declared.types.Line.{Line}
use Rattle.rail_model.specs.Journal.{words as line_words}
use Rattle.rail_model.specs.Names.{Names}
use Rattle.live_lines.specs.Kinds.{begins_with_digit, ended, numbered, IsNoJournalLine, IsTag, TellsLines}
use Rattle.live_lines.specs.Lines.{line_of, tag_words}

-- a digit is one
glyph_digit : (d : ℕ) → d < 10 → is_ascii_digit (digit_glyph false d) ≡ true
glyph_digit d small =
    let low : 48 ≤ 48 + d = omega arith in
    let high : 48 + d ≤ 57 = omega arith in
    ap (λ b. is_ascii_digit (if b then 48 + d else 87 + d)) (lt-ltb d 10 small)
    ∙ (λ j. le-leb 48 (48 + d) low j && le-leb (48 + d) 57 high j)

-- and so is the first of those that are put before another, or of one at least
glyph_by : (last : Bool) (g : ℕ) (acc more : List ℕ) → begins_with_digit (g ∷ acc) ≡ true
    → begins_with_digit more ≡ true
    → begins_with_digit (if last then g ∷ acc else more) ≡ true
glyph_by true g acc more one others = one
glyph_by false g acc more one others = others

onto_digit : (k n : ℕ) (acc : List ℕ) → begins_with_digit acc ≡ true
    → begins_with_digit (digits_onto k 10 false n acc) ≡ true
onto_digit zero n acc is = is
onto_digit (suc k) n acc is =
    let g = digit_glyph false (n % 10) in
    let one : is_ascii_digit g ≡ true = glyph_digit (n % 10) (omega arith) in
    glyph_by (n / 10 == 0) g acc (digits_onto k 10 false (n / 10) (g ∷ acc)) one (onto_digit k (n / 10) (g ∷ acc) one)

decimal_begins : (n : ℕ) → begins_with_digit (decimal n) ≡ true
unfolding digits
decimal_begins n =
    let g = digit_glyph false (n % 10) in
    let one : is_ascii_digit g ≡ true = glyph_digit (n % 10) (omega arith) in
    glyph_by (n / 10 == 0) g [] (digits_onto 63 10 false (n / 10) (g ∷ [])) one (onto_digit 63 (n / 10) (g ∷ []) one)

-- what comes behind makes no difference
begins_longer : (front behind : List ℕ) → begins_with_digit front ≡ true → begins_with_digit (front ++ behind) ≡ true
begins_longer [] behind is = absurd (cc is)
begins_longer (b ∷ front) behind is = is

begins_shorter : (line : List ℕ) → begins_with_digit (ended line) ≡ false → begins_with_digit line ≡ false
begins_shorter [] is = refl
begins_shorter (b ∷ line) is = is

-- lines and later ones
numbered_more : (N : Names) (n : ℕ) (first later : List Line)
    → numbered N n (first ++ later) ≡ numbered N n first ++ numbered N (n + length first) later
numbered_more N n [] later = ap (λ m. numbered N m later) (sym (add-zero n))
numbered_more N n (l ∷ first) later =
    let behind : (n + 1) + length first ≡ n + length (l ∷ first) = omega arith in
    ap (λ ls. (decimal (n + 1) ++ line_words N l) ∷ ls)
    (numbered_more N (n + 1) first later ∙ ap (λ m. numbered N (n + 1) first ++ numbered N m later) behind)

-- no text
pub no_text : (N : Names) (n : ℕ) → TellsLines N n [] []
no_text N n = record { texts = []; joined = refl; journal = refl }

-- one line that is none of the journal
pub other_line : (N : Names) (n : ℕ) (tag words : List ℕ) → IsTag tag → IsNoJournalLine words
    → TellsLines N n [] (line_of tag words)
other_line N n tag words is other =
    let line = tag_words tag ++ words in
    record {
      texts = line ∷ [];
      joined = sym (append-nil (ended line));
      journal = ap (λ b. cond b (line ∷ []) []) (begins_shorter line (other tag is));
    }

-- one of the journal
pub journal_line : (N : Names) (n : ℕ) (l : Line)
    → TellsLines N n (l ∷ []) (decimal (n + 1) ++ line_words N l ++ codes "\n")
journal_line N n l =
    let line = decimal (n + 1) ++ line_words N l in
    record {
      texts = line ∷ [];
      joined = sym (append-nil (ended line));
      journal = ap (λ b. cond b (line ∷ []) [])
          (begins_longer (decimal (n + 1)) (line_words N l) (decimal_begins (n + 1)));
    }

-- a text and a later one
pub more_text : (N : Names) (n : ℕ) (first later : List Line) (x y : List ℕ) → TellsLines N n first x
    → TellsLines N (n + length first) later y → TellsLines N n (first ++ later) (x ++ y)
more_text N n first later x y a b = record {
  texts = a.texts ++ b.texts;
  joined = (λ j. a.joined j ++ b.joined j) ∙ sym (concat-append (map ended a.texts) (map ended b.texts))
      ∙ ap concat (sym (map-append ended a.texts b.texts));
  journal = filter-append begins_with_digit a.texts b.texts ∙ (λ j. a.journal j ++ b.journal j)
      ∙ sym (numbered_more N n first later);
}

-- where there is no line of the journal, it doesn't matter how many came before
pub others_anywhere : (N : Names) (n : ℕ) (M : Names) (m : ℕ) (x : List ℕ) → TellsLines N n [] x
    → TellsLines M m [] x
others_anywhere N n M m x a = record { texts = a.texts; joined = a.joined; journal = a.journal }

pub others_then : (N : Names) (n : ℕ) (later : List Line) (x y : List ℕ) → TellsLines N n [] x
    → TellsLines N n later y → TellsLines N n later (x ++ y)
others_then N n later x y a b =
    more_text N n [] later x y a (subst (λ m. TellsLines N m later y) (sym (add-zero n)) b)

pub then_others : (N : Names) (n : ℕ) (first : List Line) (x y : List ℕ) → TellsLines N n first x
    → TellsLines N n [] y → TellsLines N n first (x ++ y)
then_others N n first x y a b =
    subst (λ ls. TellsLines N n ls (x ++ y)) (append-nil first)
    (more_text N n first [] x y a (others_anywhere N n N (n + length first) y b))

-- No journal has one of these lines.
abbrev pub AreOthers : List (List ℕ) → Type 0
AreOthers [] = Unit {0}
AreOthers (words ∷ later) = IsNoJournalLine words × AreOthers later

pub other_lines : (N : Names) (n : ℕ) (tag : List ℕ) (rows : List (List ℕ)) → IsTag tag → AreOthers rows
    → TellsLines N n [] (flat_map (line_of tag) rows)
other_lines N n tag [] is others = no_text N n
other_lines N n tag (words ∷ later) is others =
    others_then N n [] (line_of tag words) (flat_map (line_of tag) later) (other_line N n tag words is others.0)
    (other_lines N n tag later is others.1)
