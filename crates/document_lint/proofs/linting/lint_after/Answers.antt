use Rattle.document_lint.proofs.linting.lint_after.Goals as goal

pub returns : goal.returns
returns c = c.all_remarks.ensures
