use Rattle.std.proofs.Common.{append_assoc, sym}
use Rattle.std.specs.Prelude.{codes, decimal}
use Rattle.refusal_lines.proofs.layouts.write_layout.Goals as goal

pub returns-in-TooMany : goal.returns-in-TooMany
returns-in-TooMany c =
    rw (c.in-TooMany.is, sym c.name-what.ensures, append_assoc c.name-what.result.now (codes " count=") (decimal c.in-TooMany.count))
    c.write.ensures.bytes
