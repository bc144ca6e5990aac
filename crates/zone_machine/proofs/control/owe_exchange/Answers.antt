use Rattle.zone_machine.proofs.Prelude.{◌≡◌, ℕ, [], ◌∷◌, ◌++◌, length, List, map, sym, ap, ◌∙◌, arith, nat_abs, count, below, Cell, Count}
use Rattle.move_claim.specs.declared.cells.Cell.TheVariants.{Table as TableCell}
use Rattle.move_claim.proofs.Growing.{one_longer}
use Rattle.zone_machine.proofs.FirstWords.{word_more}
use Rattle.zone_machine.proofs.control.owe_exchange.Goals as goal

pub loop-section-preserved : goal.loop-section-preserved
loop-section-preserved c =
    let s = c.loop-section.section in
    let counted : ℕ → Cell × ℕ = λ n. (Count s, n) in
    let owes : ℕ → Cell × ℕ = λ t. (Count t, nat_abs (count c.args.new.now t c.args.positions.now)) in
    record {
      same = word_more owes s (counted c.count_of.result) c.push.new.self c.loop-section.owed c.push-in-loop-section.new.self c.loop-section.invariant.same
          (ap counted (sym (ap nat_abs c.count_of.ensures.count))) c.push-in-loop-section.ensures;
      few = one_longer c.push-in-loop-section.new.self c.loop-section.owed (counted c.count_of.result) s 1 c.push-in-loop-section.ensures c.loop-section.invariant.few;
    }

pub returns : goal.returns
returns c =
    let owes : ℕ → Cell × ℕ = λ t. (Count t, nat_abs (count c.args.new.now t c.args.positions.now)) in
    let whole : c.loop-section.section ≡ length c.args.new.now.sections = omega (arith, c.sections_of-section-end.ensures.count) in
    let first : c.push.new.self ≡ (TableCell, c.args.number) ∷ [] = c.push.ensures ∙ ap (λ (xs : List (Cell × ℕ)). xs ++ (TableCell, c.args.number) ∷ []) c.requires.none in
    c.loop-section.invariant.same
    ∙ (ap (λ (xs : List (Cell × ℕ)). xs ++ map owes (below c.loop-section.section)) first
    ∙ ap (λ n. (TableCell, c.args.number) ∷ map owes (below n)) whole)
