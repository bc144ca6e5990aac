use Rattle.zone_yard.proofs.Prelude.{ℕ, List, [], ◌∷◌, ◌++◌, get_or, sym, ap, ◌∙◌, arith}
use Rattle.zone_yard.proofs.Apart.{spread-more}
use Rattle.zone_yard.proofs.opening.spread_out.Goals as goal

pub loop-word-preserved : goal.loop-word-preserved
loop-word-preserved c = record {
  all = c.in_ok-extend_from_slice.ensures.items
      ∙ (ap (λ (l : List ℕ). l ++ get_or c.args.words.now c.loop-word.word-index 0 ∷ 0 ∷ 0 ∷ 0 ∷ 0 ∷ 0 ∷ 0 ∷ 0 ∷ []) c.loop-word.invariant.all
      ∙ sym (spread-more c.args.words.now c.loop-word.word-index (omega (arith, c.loop-word-test.true))));
}
