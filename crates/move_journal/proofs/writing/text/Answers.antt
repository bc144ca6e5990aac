use Rattle.std.proofs.Common.{◌≡◌, ℕ, ◌+◌, ◌<◌, ◌≤◌, ◌^◌, ◌++◌, length, None, Vec, Global, string_bytes, subst, ap, ◌∙◌}
use Rattle.rail_model.specs.declared.types.Line.TheVariants.{Move}
use Rattle.rail_model.specs.Journal.{lines_text, end_text}
use Rattle.move_journal.proofs.Written.{printable_more, written_more, all_written, all_printable}
use Rattle.move_journal.proofs.writing.text.Goals as goal

pub loop-index-preserved : goal.loop-index-preserved
loop-index-preserved c =
    let lines = c.lines-lines.result.now in
    let within : c.loop-index.index < length lines = c.loop-index-test.true in
    record {
      written = written_more c.args.names.now lines c.loop-index.index (c.loop-index.index + 1) (Move 0 0 None) (string_bytes c.loop-index.out) _ (lines_text c.args.names.now 1 lines) within
          c.loop-index.invariant.written c.in_ok-push_line.ensures.text;
      printable = printable_more c.args.names.now lines c.loop-index.index (Move 0 0 None) within c.loop-index.invariant.printable c.push_line.ensures.printable;
    }

pub returns : goal.returns
returns c =
    let N = c.args.names.now in
    let K = c.args.journal.now in
    let lines = c.lines-lines.result.now in
    let same : lines ≡ K.lines = c.lines-lines.ensures in
    let past : length lines ≤ c.loop-index.index = c.loop-index-test.false in
    let ended : string_bytes c.push_end.new.out ≡ string_bytes c.loop-index.out ++ end_text K.moves K.tables =
    c.in_ok-push_end.ensures.text ∙ (λ i. string_bytes c.loop-index.out ++ end_text (c.moves.ensures i) (c.tables.ensures i)) in
    record {
      has = record {
        lines = record { few = c.requires.few; each = all_printable N K lines c.loop-index.index same past c.loop-index.invariant.printable };
        moves = subst (λ n. n < 2 ^ 32) c.moves.ensures c.push_end.ensures.small.0;
        tables = subst (λ n. n < 2 ^ 32) c.tables.ensures c.push_end.ensures.small.1;
      };
      text = ap (λ (v : Vec ℕ Global). v.items) c.into_bytes.ensures.value
          ∙ all_written N K lines c.loop-index.index (c.loop-index.index + 1) (string_bytes c.loop-index.out) (string_bytes c.push_end.new.out) same past c.loop-index.invariant.written ended;
    }
