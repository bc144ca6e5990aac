-- The trains and points of a run of a document have names.
use Rattle.std.proofs.Common.{◌≡◌, ℕ, ◌<◌, List, [], ◌∷◌, ◌++◌, length, Some, refl, sym, if◌then◌else◌, is_ok, Result, Ok, Err, OnOk, ◌∙◌, ap, subst, codes, arith}
use Rattle.std.proofs.lemmas.List.{append_assoc, length-map}
use Rattle.rail_model.specs.declared.types.Line.{Line}
use Rattle.rail_model.specs.Names.{Names}
use Rattle.rail_model.specs.Journal.{lines_text}
use Rattle.rail_model.specs.Table.{Table, trains, point}
use Rattle.rail_model.specs.Yard.{opening}
use Rattle.document_json.specs.Doc.{Doc, IsDoc, offers_of, names_of}
use Rattle.document_json.proofs.Offered.{offer_count, table_offered}
use Rattle.move_journal.specs.Printable.{AreEnough}
use Rattle.move_journal.proofs.Named.{named_right}
use Rattle.run_search.specs.Answered.{AnswersRun}
use Rattle.run_search.specs.declared.finding.RunTo.{RunTo}
use Rattle.run_search.specs.declared.finding.RunTo.TheVariants.{Run, NoRun, Unknown}
use Rattle.run_sentences.specs.Told.{HasNamedLines, lines_words}

-- a text that was put behind another
pub pushed_on : {T E : Type 0} (r : Result T E) (out longer words : List ℕ) → longer ≡ (if is_ok r then out ++ words else out) → OnOk r (longer ≡ out ++ words)
pushed_on (Ok x) out longer words is = is
pushed_on (Err e) out longer words is = tt

-- what is said of a run with a line
pub told_by_lines : (N : Names) (lines : List Line) → 0 < length lines → lines_words N lines ≡ codes "A run from the start leads there:\n" ++ lines_text N 1 lines
told_by_lines N [] some = absurd (omega (arith, some))
told_by_lines N (line ∷ later) some = refl

-- a line, and then its text
pub put_on : (N : Names) (lines : List Line) (out before : List ℕ) → 0 < length lines → before ≡ out ++ codes "A run from the start leads there:\n"
    → before ++ lines_text N 1 lines ≡ out ++ lines_words N lines
put_on N lines out before some is =
    ap (λ b. b ++ lines_text N 1 lines) is ∙ append_assoc out (codes "A run from the start leads there:\n") (lines_text N 1 lines)
    ∙ ap (λ t. out ++ t) (sym (told_by_lines N lines some))

pub enough : (D : Doc) → IsDoc D → AreEnough (names_of D) (offers_of D)
enough D doc = record {
  each_train = λ t lt.
      let within = subst (λ n. t < n) (offer_count D) lt in
      omega (arith, doc.trains t within, ap trains (table_offered D t within));
  each_point = λ t i k q lt at.
      let within = subst (λ n. t < n) (offer_count D) lt in
      let there = subst (λ (T : Table). point T i k ≡ Some q) (table_offered D t within) at in
      subst (λ n. q < n) (sym (length-map D.layout.points (λ q. q.name))) (doc.points t within i k q there);
}

pub named : (D : Doc) (places : List ℕ) (t : ℕ) (told : RunTo) → IsDoc D → AnswersRun (offers_of D) D.start places t told → HasNamedLines (names_of D) told
named D places t (Run lines) doc run = named_right (names_of D) (offers_of D) (opening D.start) lines.items (enough D doc) doc.tables.some run.right
named D places t NoRun doc run = tt
named D places t (Unknown states) doc run = tt
