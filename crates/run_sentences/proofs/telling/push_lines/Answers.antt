use Rattle.std.proofs.Common.{◌+◌, ◌<◌, ◌≤◌, ◌++◌, List, length, None, string_bytes, sym, ap, ◌∙◌}
use Rattle.std.proofs.lemmas.List.{append-nil, drop_all}
use Rattle.rail_model.specs.declared.types.Line.{Line}
use Rattle.rail_model.specs.declared.types.Line.TheVariants.{Move}
use Rattle.rail_model.specs.Journal.{lines_text}
use Rattle.move_journal.proofs.Written.{written_more}
use Rattle.run_sentences.proofs.telling.push_lines.Goals as goal

pub loop-index-preserved : goal.loop-index-preserved
loop-index-preserved c =
    let within : c.loop-index.index < length c.args.lines.now = c.loop-index-test.true in
    written_more c.args.names.now c.args.lines.now c.loop-index.index (c.loop-index.index + 1) (Move 0 0 None) (string_bytes c.loop-index.out) _
    (string_bytes c.args.out.now ++ lines_text c.args.names.now 1 c.args.lines.now) within c.loop-index.invariant c.in_ok-push_line.ensures.text

pub returns : goal.returns
returns c =
    let past : length c.args.lines.now ≤ c.loop-index.index = c.loop-index-test.false in
    let out = string_bytes c.loop-index.out in
    let N = c.args.names.now in
    sym (append-nil out) ∙ ap (λ (ls : List Line). out ++ lines_text N (c.loop-index.index + 1) ls) (sym (drop_all c.loop-index.index c.args.lines.now past)) ∙ c.loop-index.invariant
