use Rattle.std.proofs.lemmas.List.Elements.{All-same}
use Rattle.rail_model.specs.Yard.{opening}
use Rattle.document_json.specs.Doc.{names_of, times_of}
use Rattle.timed_reading.specs.Runs.{IsStepIn}
use Rattle.timed_reading.proofs.Ranges.{steps_in_range}
use Rattle.timed_reading.proofs.reading.told_run.Goals as goal

pub returns : goal.returns
returns c =
    let D = c.args.doc.now in
    let lines = c.args.lines.now in
    record {
      printable = c.requires;
      starts = c.in_ok-starts.ensures;
      steps = c.in_ok-steps.ensures;
      takeovers = c.in_ok-takeovers.ensures;
      in_range = All-same (IsStepIn (names_of D)) _ _ c.in_ok-steps.ensures
          (steps_in_range (names_of D) (times_of D) (opening D.start) lines c.requires.each);
    }
