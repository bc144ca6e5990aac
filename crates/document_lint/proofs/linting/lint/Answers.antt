use Rattle.document_lint.proofs.linting.lint.Goals as goal

pub returns : goal.returns
returns c = c.all_remarks.ensures
