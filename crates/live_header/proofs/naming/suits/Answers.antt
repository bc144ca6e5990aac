use Rattle.std.proofs.Common.{drop, sym, ap₂, true}
use Rattle.std.specs.Prelude.{if◌then◌else◌}
use Rattle.std.specs.Str.{bytes_eq}
use Rattle.live_header.proofs.naming.suits.Goals as goal

pub returns-in-None : goal.returns-in-None
returns-in-None c =
    let line = c.args.line.now in
    let hash = c.args.hash.now in
    sym (ap₂ (λ a b. if a then bytes_eq (drop 14 line) hash else (if b then bytes_eq (drop 22 line) hash else true))
    c.in_default.ensures.cases c.in-None.ensures.cases)
