-- The lines that were written, one after another.
use Rattle.std.proofs.Common.{◌≡◌, ℕ, ◌+◌, ◌<◌, ◌≤◌, List, ◌++◌, ◌∷◌, take, drop, get_or, length, codes, decimal, drop-cons, suc, arith, sym, ap, ◌∙◌, subst}
use Rattle.std.specs.List.{All}
use Rattle.std.proofs.lemmas.List.{append_assoc, append-nil, take_more, take_all, drop_all}
use Rattle.std.proofs.lemmas.List.Elements.{All-push}
use Rattle.rail_model.specs.declared.types.Line.{Line}
use Rattle.rail_model.specs.Names.{Names}
use Rattle.rail_model.specs.Journal.{Journal, words, lines_text, end_text, text}
use Rattle.move_journal.specs.Printable.{IsPrintable}

pub printable_more : (N : Names) (lines : List Line) (i : ℕ) (d : Line) → i < length lines
    → All (IsPrintable N) (take i lines) → IsPrintable N (get_or lines i d) → All (IsPrintable N) (take (i + 1) lines)
printable_more N lines i d within all h =
    subst (All (IsPrintable N)) (sym (take_more lines i d within)) (All-push (IsPrintable N) (take i lines) (get_or lines i d) all h)

pub written_more : (N : Names) (lines : List Line) (i n : ℕ) (d : Line) (out longer whole : List ℕ) → i < length lines
    → out ++ lines_text N n (drop i lines) ≡ whole → longer ≡ out ++ (decimal n ++ words N (get_or lines i d) ++ codes "\n")
    → longer ++ lines_text N (n + 1) (drop (i + 1) lines) ≡ whole
written_more N lines i n d out longer whole within all is =
    let line = decimal n ++ words N (get_or lines i d) ++ codes "\n" in
    let later = lines_text N (n + 1) (drop (i + 1) lines) in
    let here : drop i lines ≡ get_or lines i d ∷ drop (i + 1) lines = drop-cons lines i d within ∙ (let next : suc i ≡ i + 1 = omega arith in ap (λ k. get_or lines i d ∷ drop k lines) next) in
    ap (λ o. o ++ later) is ∙ append_assoc out line later ∙ ap (λ t. out ++ t) (sym (ap (lines_text N n) here)) ∙ all

-- all lines were written, and then the end line
pub all_written : (N : Names) (K : Journal) (lines : List Line) (i n : ℕ) (out bytes : List ℕ) → lines ≡ K.lines → length lines ≤ i
    → out ++ lines_text N n (drop i lines) ≡ lines_text N 1 lines → bytes ≡ out ++ end_text K.moves K.tables → bytes ≡ text N K
all_written N K lines i n out bytes same past all is =
    let out_is : out ≡ lines_text N 1 lines = sym (append-nil out) ∙ ap (λ ls. out ++ lines_text N n ls) (sym (drop_all i lines past)) ∙ all in
    is ∙ ap (λ o. o ++ end_text K.moves K.tables) (out_is ∙ ap (lines_text N 1) same)

pub all_printable : (N : Names) (K : Journal) (lines : List Line) (i : ℕ) → lines ≡ K.lines → length lines ≤ i
    → All (IsPrintable N) (take i lines) → All (IsPrintable N) K.lines
all_printable N K lines i same past all = subst (All (IsPrintable N)) (take_all i lines past ∙ same) all
