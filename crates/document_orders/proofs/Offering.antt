-- The tables of documents as they are offered.
use Rattle.std.proofs.Common.{◌≡◌, ℕ, zero, suc, List, [], ◌∷◌, length, map, get_or, refl, sym, ap, ◌∙◌, subst, arith}
use Rattle.std.proofs.lemmas.List.{length-map}
use Rattle.rail_model.specs.Certificate.{Tree}
use Rattle.rail_model.specs.State.{Legal}
use Rattle.rail_model.specs.Table.{Table, IsTable}
use Rattle.rail_model.specs.Yard.{Offer, offer}
use Rattle.document_json.specs.Doc.{Doc, DocTable, IsDoc, offers_of}
use Rattle.document_json.specs.Replaced.{each_with, exchanged, new_table}
use Rattle.document_json.proofs.FormedDoc.{no_table}
use Rattle.order_sections.specs.Grids.{table_at}
use Rattle.reached_states.specs.Reached.{AreOffered, offered}

abbrev pub offer_from : DocTable → Offer
offer_from t = record { table = t.table; after = t.after }

pub table_there : (ts : List DocTable) (t : ℕ) → offered (map offer_from ts) t ≡ (get_or ts t no_table).table
table_there [] t = refl
table_there (x ∷ xs) zero = refl
table_there (x ∷ xs) (suc t) = table_there xs t

pub after_there : (ts : List DocTable) (t : ℕ) → (offer (map offer_from ts) t).after ≡ (get_or ts t no_table).after
after_there [] t = refl
after_there (x ∷ xs) zero = refl
after_there (x ∷ xs) (suc t) = after_there xs t

pub listed_there : (ts : List DocTable) (t : ℕ) → table_at (map (λ x. x.table) ts) t ≡ (get_or ts t no_table).table
listed_there [] t = refl
listed_there (x ∷ xs) zero = refl
listed_there (x ∷ xs) (suc t) = listed_there xs t

pub new_there : (parts : List (Table × Tree)) (t : ℕ) → table_at (map (λ p. p.0) parts) t ≡ new_table parts t
new_there [] t = refl
new_there (x ∷ xs) zero = refl
new_there (x ∷ xs) (suc t) = new_there xs t

-- tables in a list are those that are offered
pub listed_is : (ts : List DocTable) → table_at (map (λ x. x.table) ts) ≡ offered (map offer_from ts)
listed_is ts = λ i t. (listed_there ts t ∙ sym (table_there ts t)) i

-- the tables of the document with others
pub each_table : (ts : List DocTable) (parts : List (Table × Tree)) → length parts ≡ length ts
    → map (λ x. x.table) (each_with exchanged ts parts) ≡ map (λ p. p.0) parts
each_table [] [] same = refl
each_table [] (p ∷ parts) same = absurd (omega (arith, same))
each_table (t ∷ ts) [] same = absurd (omega (arith, same))
each_table (t ∷ ts) (p ∷ parts) same = ap (λ (xs : List Table). p.0 ∷ xs) (each_table ts parts (omega (arith, same)))

pub are_offered : (D : Doc) → IsDoc D → AreOffered (offers_of D) D.start
are_offered D is = record {
  are = is.tables;
  formed = λ t lt. subst IsTable (sym (table_there D.tables t)) (is.formed t (omega (arith, lt, length-map D.tables offer_from)));
  legal = subst (λ (T : Table). Legal T D.start) (sym (table_there D.tables 0)) is.start;
}
