-- A drill runs the generated document; what it counts is the run of the document with the certificates that are made for it.
use Rattle.std.proofs.Common.{◌≡◌, ◌∙◌, ℕ, ◌≤◌, List, [], ◌∷◌, length, map, refl, sym, ap, subst, arith}
use Rattle.std.specs.Prelude.{Ok}
use Rattle.rail_model.specs.Certificate.{Tree}
use Rattle.rail_model.specs.Journal.{IsRight, IsDone}
use Rattle.rail_model.specs.Plain.{Plain}
use Rattle.rail_model.specs.Yard.{Offer}
use Rattle.plain_yard.specs.Keeps.{Keeps}
use Rattle.shared_run.specs.declared.crews.Crew.{Crew}
use Rattle.shared_run.specs.Shared.{setup, IsAddedBy}
use Rattle.document_generator.specs.Generated.{generated}
use Rattle.document_json.specs.Doc.{Doc, DocTable, offers_of}
use Rattle.document_json.specs.Reading.{doc_of}
use Rattle.document_json.specs.Replaced.{each_with, recertified, certified}
use Rattle.document_json.specs.Written.{written}
use Rattle.document_json.proofs.FormedDoc.{read-is-formed}
use Rattle.ats_run.specs.Command.{IsDrilledInput}
use Rattle.ats_answers.specs.Making.{full_budget, tables_in, AreMade}
use Rattle.ats_run.specs.Headline.{Ends, plain_after}
use Rattle.ats_run.specs.Tasks.{LeadsTo}
use Rattle.ats_run.specs.declared.tasks.Printout.TheVariants.{Counts}
use Rattle.ats_run.proofs.Begun.{begun_keeps, drill_leads}
use Rattle.ats_answers.proofs.Generated.{has_one_table, accepts_made, reads_back}
use Rattle.ats_answers.proofs.Made.{table_count}
use Rattle.ats_run.specs.Drilling.{IsDrilled}
use Rattle.ats_answers.proofs.AcceptedText.{made_text}

-- with other certificates the same tables are offered
offers_stay : (ts : List DocTable) (cs : List Tree) → length cs ≡ length ts
    → ◌≡◌ {A = List Offer} (map (λ t. record { table = t.table; after = t.after }) (each_with recertified ts cs)) (map (λ t. record { table = t.table; after = t.after }) ts)
offers_stay [] cs h = refl
offers_stay (t ∷ ts) [] h = absurd (omega (arith, h))
offers_stay (t ∷ ts) (c ∷ cs) h = ap (λ (os : List Offer). record { table = t.table; after = t.after } ∷ os) (offers_stay ts cs (omega (arith, h)))

-- so a run ends as well
ends_so : (D : Doc) (trees : List Tree) (crew : Crew) (from end : Plain) → offers_of (certified D trees) ≡ offers_of D → Ends D crew from end → Ends (certified D trees) crew from end
ends_so D trees crew from end same ends = record {
  added = ends.added;
  adds = ends.adds;
  right = subst (λ (os : List Offer). IsRight os from.yard ends.added) (sym same) ends.right;
  after = ends.after;
  by = subst (λ (os : List Offer). IsAddedBy (setup D.layout os from) crew ends.added) (sym same) ends.by;
  done = subst (λ (os : List Offer). IsDone os end.yard) (sym same) ends.done;
}

module _ (crew : Crew) (seed trains : ℕ) (few : trains ≤ 32) (D : Doc) (is : doc_of (generated seed trains) ≡ Ok D) (trees : List Tree) (made : AreMade (tables_in D) full_budget trees) where
  -- what a run of the document with these certificates prints is the line of the drill
  drilled_input : (line : List ℕ) → IsDrilled (certified D trees) crew line → IsDrilledInput crew (generated seed trains) line
  drilled_input line h =
      let E = certified D trees in
      let again = reads_back seed trains few D is trees made in (
        written E,
        (D, is, (trees, made, made_text D E full_budget trees (written E) (omega arith) made refl refl again)),
        (E, again, h),
      )

  -- from the start, what is counted of the end is what the drill comes to
  pub drill_from : (from : Plain) → from ≡ plain_after D [] → LeadsTo crew Counts (λ line. IsDrilledInput crew (generated seed trains) line) D trees from
  drill_from from begun =
      let E = certified D trees in
      let same : offers_of E ≡ offers_of D = offers_stay D.tables trees (made.one_each ∙ table_count D) in
      let doc = (read-is-formed (generated seed trains) D is).is in
      let formed = (read-is-formed (written E) E (reads_back seed trains few D is trees made)).is in
      let drill = drill_leads E trees crew from formed (accepts_made seed trains few D is trees made) begun (has_one_table seed trains few D is trees made) in
      record {
        formed = doc;
        keeps = begun_keeps D from doc begun;
        few = made.one_each ∙ table_count D;
        leads = λ end line ends keeps printed.
            drilled_input line
            (drill.leads end line (ends_so D trees crew from end same ends) (subst (λ (os : List Offer). Keeps os end.yard end.lines) (sym same) keeps) printed);
      }
