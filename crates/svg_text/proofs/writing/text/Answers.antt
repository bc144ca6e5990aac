use Rattle.svg_text.proofs.writing.text.Goals as goal

pub returns-clause-formed : goal.returns-clause-formed
returns-clause-formed c = record { picture = c.args.picture.now; text = c.in_ok-bytes.ensures }
