-- A generated document has one table, and keeps it with its certificate.
use Rattle.std.proofs.Common.{◌≡◌, ℕ, ◌≤◌, List, [], ◌∷◌, length, refl, sym, ◌∙◌, ap, subst, arith}
use Rattle.std.specs.Prelude.{flat_map, Ok}
use Rattle.std.proofs.lemmas.List.Elements.{All-from_recursion}
use Rattle.rail_model.specs.Certificate.{Tree, Accepts}
use Rattle.rail_model.specs.Table.{Table}
use Rattle.rail_model.specs.Turns.{in_turn}
use Rattle.document_shapes.specs.Raw.{DocMembers, members_of}
use Rattle.document_shapes.proofs.EachLemmas.{each-length}
use Rattle.document_generator.specs.Generated.{generated, document_of, table_of}
use Rattle.document_generator.specs.Pairs.{all_pairs}
use Rattle.document_generator.specs.Pieces.{sections_of}
use Rattle.document_generator.proofs.GeneratedBack.{generated-in_range, generated-read}
use Rattle.document_json.specs.Doc.{Doc}
use Rattle.document_json.specs.Reading.{doc_of, doc_from}
use Rattle.document_json.specs.Replaced.{recertified, certified}
use Rattle.document_json.specs.Tables.{refused_as, doc_table_of}
use Rattle.document_json.specs.Trees.{tree_at}
use Rattle.document_json.specs.Written.{written}
use Rattle.document_json.specs.declared.refused.DocRefused.TheVariants.{Shape}
use Rattle.document_json.proofs.FormedDoc.{read-is-formed}
use Rattle.document_json.proofs.Remade.{length-each_with}
use Rattle.document_json.proofs.Taken.{makes}
use Rattle.accepted_documents.specs.Accepting.{AreAccepted, IsDocWith}
use Rattle.ats_answers.specs.Making.{full_budget, tables_in, AreMade, IsMade}
use Rattle.ats_answers.proofs.AcceptedText.{certified_accepted}
use Rattle.ats_answers.proofs.Forward.{AreGiven, written-back}
use Rattle.ats_answers.proofs.Made.{table_count, table_of_doc}

-- a document has as many tables as its members
tables_read : (bytes : List ℕ) (m : DocMembers) (D : Doc) → members_of bytes ≡ Ok m → doc_of bytes ≡ Ok D → length D.tables ≡ length m.tables
unfolding doc_of
tables_read bytes m D read is =
    let made = makes m D (sym (ap (λ r. in_turn (refused_as Shape r) doc_from) read) ∙ is) in
    each-length (doc_table_of m.version D.layout (length D.trains)) 0 m.tables D.tables made.tabled.made

-- other certificates change no number of tables
tables_made : (D : Doc) (budget : ℕ) (bytes : List ℕ) → IsMade D budget bytes → IsDocWith bytes (λ E. length E.tables ≡ length D.tables)
tables_made D budget bytes h = (certified D h.0, h.2.reads, length-each_with recertified D.tables h.0 (h.1.one_each ∙ table_count D))

pub one_table : (seed trains budget : ℕ) (input bytes : List ℕ) → members_of input ≡ Ok (document_of trains (all_pairs seed trains))
    → IsDocWith input (λ D. IsMade D budget bytes) → IsDocWith bytes (λ E. length E.tables ≡ 1)
one_table seed trains budget input bytes read made =
    let later = tables_made made.0 budget bytes made.2 in
    (later.0, later.1, later.2 ∙ tables_read input (document_of trains (all_pairs seed trains)) made.0 read made.1)

-- ---- the document with the certificates that are made for it

-- the members make the document
members_make : (bytes : List ℕ) (m : DocMembers) (D : Doc) → members_of bytes ≡ Ok m → doc_of bytes ≡ Ok D → doc_from m ≡ Ok D
unfolding doc_of
members_make bytes m D read is = sym (ap (λ r. in_turn (refused_as Shape r) doc_from) read) ∙ is

module _ (seed trains : ℕ) (few : trains ≤ 32) (D : Doc) (is : doc_of (generated seed trains) ≡ Ok D) (trees : List Tree) (made : AreMade (tables_in D) full_budget trees) where
  abbrev members : DocMembers
  members = document_of trains (all_pairs seed trains)

  pub has_one_table : length (certified D trees).tables ≡ 1
  has_one_table =
      length-each_with recertified D.tables trees (made.one_each ∙ table_count D) ∙ tables_read (generated seed trains) members D (generated-read seed trains few) is

  pub accepts_made : AreAccepted (certified D trees) trees
  accepts_made = certified_accepted D full_budget trees (omega arith) made

  -- its text reads as it
  pub reads_back : doc_of (written (certified D trees)) ≡ Ok (certified D trees)
  reads_back =
      let from = members_make (generated seed trains) members D (generated-read seed trains few) is in
      let formed = read-is-formed (generated seed trains) D is in
      let all = all_pairs seed trains in
      let given : AreGiven (table_of all) =
      record {
        sections = flat_map (sections_of all) all;
        sections_are = refl;
        times = flat_map (λ g. g.times) all;
        times_are = refl;
        after = 0;
        after_is = refl;
      } in
      written-back members D trees (sym (makes members D from).version_is) (generated-in_range seed trains few) (All-from_recursion AreGiven (table_of all ∷ []) (given, tt)) from
      formed.is formed.taken (made.one_each ∙ table_count D)
      (λ t lt. subst (λ (T : Table). Accepts T (tree_at trees t)) (table_of_doc D t lt) (made.accepted t (omega (arith, lt, table_count D))))
