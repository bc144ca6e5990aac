-- What the bytes begin with, from the text before their first newline.
use Rattle.std.proofs.Common.{◌≡◌, ◌≢◌, ℕ, List, [], ◌∷◌, ◌++◌, refl, sym, ap, ◌∙◌, codes, decimal, subst}
use Rattle.std.proofs.lemmas.List.{append_assoc}
use Rattle.std.proofs.lemmas.Option.{none-some}
use Rattle.std.proofs.lemmas.List.Elements.{All-head, All-tail}
use Rattle.rail_model.specs.declared.types.Line.{Line}
use Rattle.rail_model.specs.Names.{Names, IsNames}
use Rattle.rail_model.specs.Journal.{words, end_text}
use Rattle.move_journal.specs.declared.reading.Head.{Head}
use Rattle.move_journal.specs.declared.reading.Head.TheVariants.{Numbered, End, Other}
use Rattle.move_journal.specs.Answers.{BeginsWithLine, BeginsWithEnd, BeginsWithNone}
use Rattle.move_journal.specs.Heads.{IsHead, IsContent}
use Rattle.move_journal.specs.Words.{word_list, numbered_of, end_of}
use Rattle.move_journal.proofs.Forms.{numbered_takes, end_takes, line_content, end_content, end_content_is}
use Rattle.move_journal.proofs.Again.{IsOneLine, numbered_again, end_again, line-one_line, end-one_line, cut_once}

-- the forms of both texts in which a newline comes after the content
pub line_cut : (N : Names) (rest : List ℕ) (n : ℕ) (l : Line) (later : List ℕ) → BeginsWithLine N rest n l later → rest ≡ (decimal n ++ words N l) ++ 10 ∷ later
line_cut N rest n l later b = b.text ∙ append_assoc (decimal n ++ words N l) (codes "\n") later

end_cut_text : (moves tables : ℕ) (later : List ℕ) → end_text moves tables ++ later ≡ end_content moves tables ++ 10 ∷ later
end_cut_text moves tables later = append_assoc (end_content moves tables) (codes "\n") later

pub end_cut : (rest : List ℕ) (moves tables : ℕ) (later : List ℕ) → BeginsWithEnd rest moves tables later → rest ≡ end_content moves tables ++ 10 ∷ later
end_cut rest moves tables later b = b.text ∙ end_cut_text moves tables later

no_newline : (a x : List ℕ) → IsOneLine (a ++ 10 ∷ x) → ⊥
no_newline [] x p = All-head (λ b. b ≢ 10) 10 x p refl
no_newline (c ∷ a) x p = no_newline a x (All-tail (λ b. b ≢ 10) c (a ++ 10 ∷ x) p)

pub begins_none : (N : Names) (rest : List ℕ) → IsOneLine rest → BeginsWithNone N rest
begins_none N rest p = record {
  no_line = λ n l later b. no_newline (decimal n ++ words N l) later (subst IsOneLine (line_cut N rest n l later b) p);
  no_end = λ moves tables later b. no_newline (end_content moves tables) later (subst IsOneLine (end_cut rest moves tables later b) p);
}

pub begins_with : (N : Names) (rest content later : List ℕ) (head : Head) → IsNames N → rest ≡ content ++ 10 ∷ later → IsOneLine content → IsContent N content head → IsHead N rest head later
begins_with N rest content later (Numbered n l) names is one h =
    let p = numbered_takes N (word_list content) n l h in
    let same : content ≡ decimal n ++ words N l = line_content N content n l p in
    record {
      number = p.number;
      line = p.line;
      text = is ∙ ap (λ x. x ++ 10 ∷ later) same ∙ sym (append_assoc (decimal n ++ words N l) (codes "\n") later);
    }
begins_with N rest content later (End moves tables) names is one h =
    let p = end_takes (word_list content) moves tables h in
    let same : content ≡ end_content moves tables = end_content_is content moves tables p in
    record {
      few_moves = p.few_moves;
      few_tables = p.few_tables;
      text = is ∙ ap (λ x. x ++ 10 ∷ later) same ∙ sym (end_cut_text moves tables later);
    }
begins_with N rest content later Other names is one h = record {
  no_line = λ n l more b.
      let cut = cut_once (decimal n ++ words N l) content more later (line-one_line N n l names b.number b.line) one (sym (line_cut N rest n l more b) ∙ is) in
      none-some (n, l) (sym h.0 ∙ sym (ap (λ x. numbered_of N (word_list x)) cut.0) ∙ numbered_again N n l names b.number b.line);
  no_end = λ moves tables more b.
      let cut = cut_once (end_content moves tables) content more later (end-one_line moves tables b.few_moves b.few_tables) one (sym (end_cut rest moves tables more b) ∙ is) in
      none-some (moves, tables) (sym h.1 ∙ sym (ap (λ x. end_of (word_list x)) cut.0) ∙ end_again moves tables b.few_moves b.few_tables);
}
