use Rattle.std.proofs.Common.{ℕ, List, sym, ap, subst, arith}
use Rattle.rail_model.specs.declared.types.Line.{Line}
use Rattle.live_yard.specs.GrantedLines.{WasTried}
use Rattle.live_yard.specs.Reported.{Reported}
use Rattle.live_yard.proofs.Answered.{tables_few}
use Rattle.live_yard.proofs.reported.ReportedYard.line_of.Goals as goal

pub line_of-requires : goal.line_of-requires
line_of-requires g c =
    omega (
      arith,
      tables_few _ c.self.invariant.0,
      ap (λ (v : Reported). v.run.yard.tried) c.self.view_is,
      c.requires.tried,
    )

pub returns : goal.returns
returns g c =
    let last = ap (λ (v : Reported). v.run.yard.tried) c.self.view_is in
    subst (λ (lines : List Line). WasTried lines c.args.table c.line_of.result)
    (ap (λ (v : Reported). v.run.lines) c.self.view_is)
    (subst (λ (n : ℕ). WasTried c.self.inside.run.lines c.args.table n) (sym c.line_of.ensures)
    (c.self.invariant.2.each c.args.table c.requires.some (omega (arith, last, c.requires.tried))))
