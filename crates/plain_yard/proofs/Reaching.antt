-- From one state of the yard to the next, line by line.
use Rattle.std.proofs.Common.{◌≡◌, ℕ, List, [], ◌∷◌, ◌++◌, refl, sym, ap, ◌∙◌, subst}
use Rattle.std.proofs.lemmas.List.{append_assoc}
use Rattle.rail_model.specs.declared.types.Line.{Line}
use Rattle.rail_model.specs.Journal.{IsRound, after_line, after_lines}
use Rattle.rail_model.specs.Yard.{Offer, Yard}
use Rattle.plain_yard.specs.Rounds.{Reaches, Finishes}

pub after_append : (y : Yard) (ks ls : List Line) → after_lines y (ks ++ ls) ≡ after_lines (after_lines y ks) ls
after_append y [] ls = refl
after_append y (k ∷ ks) ls = after_append (after_line y k) ks ls

pub reaches_trans : (tables : List Offer) (x y z : Yard) (b c d : ℕ) (ks ls ms : List Line) → Reaches tables x b ks y c ls → Reaches tables y c ls z d ms → Reaches tables x b ks z d ms
reaches_trans tables x y z b c d ks ls ms p q = record {
  added = p.added ++ q.added;
  adds = q.adds ∙ ap (λ t. t ++ q.added) p.adds ∙ append_assoc ks p.added q.added;
  after = q.after ∙ ap (λ w. after_lines w q.added) p.after ∙ sym (after_append x p.added q.added);
  round = λ later r. subst (IsRound tables x b) (sym (append_assoc p.added q.added later)) (p.round (q.added ++ later) (q.round later r));
}

-- a finish that began with no lines
pub round_begun : (tables : List Offer) (y z : Yard) (b : ℕ) (lines : List Line) → Finishes tables y b [] z lines → IsRound tables y b lines
round_begun tables y z b lines f = subst (IsRound tables y b) (sym f.adds) f.round
