use Rattle.std.proofs.Common.{append_assoc, sym}
use Rattle.std.specs.Prelude.{codes, decimal}
use Rattle.refusal_lines.proofs.documents.write_member.Goals as goal

pub returns-in-None : goal.returns-in-None
returns-in-None c = rw (c.in-None.is, sym c.name-member.ensures) c.write.ensures.bytes

pub returns-in-Some : goal.returns-in-Some
returns-in-Some c =
    rw (c.in-Some.is, sym c.name-member.ensures, append_assoc (decimal c.in-Some.table) (codes " member=") c.name-member.result.now)
    c.write-in-Some.ensures.bytes
