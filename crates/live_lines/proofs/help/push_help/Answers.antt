use Rattle.std.specs.Prelude.{codes, flat_map}
use Rattle.live_lines.specs.Lines.{line_of}
use Rattle.live_lines.specs.Rows.{verb_rows}
use Rattle.live_lines.proofs.Steps.{added_then}
use Rattle.live_lines.proofs.help.push_help.Goals as goal

pub returns : goal.returns
returns c =
    added_then c.push_words.result c.args.out.now.items (flat_map (line_of c.args.tag.now) verb_rows) (line_of
    c.args.tag.now (codes "help requests=14"))
    c.push_rows.new.out.items c.push_words.new.out.items c.in_ok-push_rows.ensures c.push_words.ensures
