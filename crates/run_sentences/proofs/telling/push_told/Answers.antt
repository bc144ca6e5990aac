use Rattle.std.proofs.Common.{rules, ◌≡◌, ◌++◌, codes, OnOk, List, string_bytes, subst}
use Rattle.rail_model.specs.declared.types.Line.{Line}
use Rattle.run_sentences.specs.Told.{lines_words}
use Rattle.run_sentences.proofs.RunLines.{pushed_on}
use Rattle.run_sentences.proofs.telling.push_told.Goals as goal

pub returns-in-Run : goal.returns-in-Run
returns-in-Run c =
    rw c.in-Run.is
    (subst (λ (ls : List Line). OnOk c.push_run.result (string_bytes c.push_run.new.out ≡ string_bytes c.args.out.now ++ lines_words c.args.names.now ls))
    c.deref.ensures.value c.push_run.ensures)

pub returns-in-NoRun : goal.returns-in-NoRun
returns-in-NoRun c =
    rw c.in-NoRun.is
    (pushed_on c.push_str.result (string_bytes c.args.out.now) (string_bytes c.push_str.new.self) (codes "No run from the start leads there.\n") c.push_str.ensures.bytes)

pub returns-in-Unknown : goal.returns-in-Unknown
returns-in-Unknown c = rw c.in-Unknown.is (search rules)
