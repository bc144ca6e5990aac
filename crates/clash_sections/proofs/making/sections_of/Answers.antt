use Rattle.std.proofs.Common.{◌≡◌, length, rules}
use Rattle.clash_sections.proofs.Exact.{enough-exact}
use Rattle.clash_sections.proofs.making.sections_of.Goals as goal

pub returns-then-len-gt-MOST_SECTIONS-clause-refused : goal.returns-then-len-gt-MOST_SECTIONS-clause-refused
returns-then-len-gt-MOST_SECTIONS-clause-refused c =
    let count : length c.cover.new.sections.items ≡ c.len-then-len-gt-MOST_SECTIONS.result = search rules in (
      c.in_ok-check.ensures.ok,
      search rules,
      (
        c.cover.new.sections.items,
        count,
        enough-exact c.args.clashes.now c.cover.new.sections.items c.in_ok-cover.ensures.fit c.in_ok-cover.ensures.enough,
      ),
    )

pub returns-clause-exact : goal.returns-clause-exact
returns-clause-exact c = enough-exact c.args.clashes.now c.cover.new.sections.items c.in_ok-cover.ensures.fit c.in_ok-cover.ensures.enough
