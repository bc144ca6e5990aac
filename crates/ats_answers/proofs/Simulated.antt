-- From a simulation's report to what is promised of its text.
use Rattle.std.proofs.Common.{◌≡◌, ℕ, suc, ◌+◌, ◌<◌, List, [], ◌∷◌, ◌++◌, length, drop, drop-cons, get_or, codes, decimal, sym, ◌∙◌, ap, subst, arith}
use Rattle.std.specs.Prelude.{slice_index_or}
use Rattle.std.proofs.lemmas.List.{append_assoc, get_or-map, length-map}
use Rattle.rail_model.specs.declared.types.Line.{Line}
use Rattle.rail_model.specs.Certificate.{Tree}
use Rattle.rail_model.specs.Table.{Table, trains}
use Rattle.rail_model.specs.Times.{AreTimes}
use Rattle.rail_model.specs.Names.{Names}
use Rattle.rail_model.specs.Yard.{Yard, opening, in_force}
use Rattle.rail_model.specs.Journal.{IsRight, IsDone, after_lines, words}
use Rattle.plain_yard.specs.Keeps.{Keeps}
use Rattle.plain_yard.proofs.Keeping.{whole}
use Rattle.train_sim.specs.Report.{HaveTimes, Simulates, IsSoon}
use Rattle.train_sim.specs.Timed.{starting, lines_of, timed_lines}
use Rattle.train_sim.proofs.Righting.{timed_right}
use Rattle.document_json.specs.Doc.{Doc, IsDoc, offers_of, names_of, times_of, doc_table, table_at}
use Rattle.document_json.proofs.Offered.{offer_count, table_offered, legal_start}
use Rattle.accepted_documents.specs.Accepting.{AreAccepted}
use Rattle.ats_answers.specs.Simulating.{IsSimulated, timed_text, last_text}
use Rattle.ats_answers.proofs.GoingOn.{goes_on_well}

times_at : (D : Doc) (t : ℕ) → t < length D.tables → slice_index_or (times_of D) t [] ≡ (doc_table D t).times
times_at D t lt = get_or-map (λ t. t.times) D.tables t _ _ lt

-- a document has one time of 1 to 1,000 for each table, train and step
pub have_times : (D : Doc) → IsDoc D → HaveTimes (offers_of D) (times_of D)
have_times D doc = record {
  one_each = length-map D.tables (λ t. t.times) ∙ sym (offer_count D);
  each = λ t lt.
      let within = subst (λ n. t < n) (offer_count D) lt in
      subst (λ (T : Table). AreTimes T (slice_index_or (times_of D) t [])) (sym (table_offered D t within))
      (subst (AreTimes (table_at D t)) (sym (times_at D t within)) (doc.times t within));
}

pub simulated : (D : Doc) (trees : List Tree) (z : Yard) (lines : List Line) (ticks : List ℕ) (tick : ℕ) (written : List ℕ) → IsDoc D → AreAccepted D trees
    → IsDone (offers_of D) z → Simulates (offers_of D) (times_of D) (opening D.start) [] lines ticks tick z → IsSoon (offers_of D) (times_of D) z.moves tick
    → written ≡ timed_text (names_of D) ticks lines ++ last_text lines tick → IsSimulated D written
simulated D trees z lines ticks tick written doc accepted done s soon printed =
    let y = opening D.start in
    let same : lines_of (timed_lines (offers_of D) y s.entries) ≡ lines = sym s.lines_are in
    let run : Keeps (offers_of D) z lines = record {
      are = doc.tables;
      start = D.start;
      legal = legal_start D doc;
      right = subst (IsRight (offers_of D) y) same (timed_right (offers_of D) (times_of D) (starting y (trains (in_force (offers_of D) y))) s.entries s.timed);
      reached = s.end_is ∙ ap (after_lines y) same;
    } in
    record {
      trees = trees;
      accepted = accepted;
      lines = lines;
      ticks = ticks;
      last_tick = tick;
      end = z;
      simulates = s;
      soon = soon;
      whole = whole (offers_of D) z lines run done;
      goes_on_well = goes_on_well D trees lines doc accepted run.right;
      printed = printed;
    }

next : {X : Type 0} (xs : List X) (i : ℕ) (d : X) → i < length xs → drop i xs ≡ get_or xs i d ∷ drop (i + 1) xs
next xs i d within = drop-cons xs i d within ∙ (let more : suc i ≡ i + 1 = omega arith in ap (λ k. get_or xs i d ∷ drop k xs) more)

-- one line more comes after its tick
pub timed_more : (N : Names) (ticks : List ℕ) (lines : List Line) (i : ℕ) (d : Line) (out longer whole : List ℕ) → i < length lines → length ticks ≡ length lines
    → out ++ timed_text N (drop i ticks) (drop i lines) ≡ whole
    → longer ≡ out ++ (decimal (get_or ticks i 0) ++ words N (get_or lines i d) ++ codes "\n")
    → longer ++ timed_text N (drop (i + 1) ticks) (drop (i + 1) lines) ≡ whole
timed_more N ticks lines i d out longer whole within one_each all is =
    let line = decimal (get_or ticks i 0) ++ words N (get_or lines i d) ++ codes "\n" in
    let later = timed_text N (drop (i + 1) ticks) (drop (i + 1) lines) in
    let ticked : i < length ticks = subst (λ n. i < n) (sym one_each) within in
    let here : timed_text N (drop i ticks) (drop i lines) ≡ line ++ later = λ j. timed_text N (next ticks i 0 ticked j) (next lines i d within j) in
    ap (λ o. o ++ later) is ∙ append_assoc out line later ∙ ap (λ t. out ++ t) (sym here) ∙ all
