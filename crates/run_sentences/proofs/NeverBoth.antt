-- Two trains that are never both at places, since a section that keeps an order has no room for them there.
use Rattle.std.proofs.Common.{◌≡◌, ℕ, ◌+◌, ◌<◌, pos, ◌+ℤ◌, ◌<ℤ◌, ◌≤ℤ◌, List, [], ◌∷◌, ◌++◌, length, map, take, get_or, sym, ◌∙◌, ap, subst, arith}
use Rattle.std.proofs.lemmas.Int.{ints}
use Rattle.std.proofs.lemmas.List.{get_or-map, length-map, take_more}
use Rattle.rail_model.specs.State.{Legal}
use Rattle.rail_model.specs.Table.{Table, IsTable, count, limit, place, share, trains}
use Rattle.rail_model.specs.Yard.{Offer, Yard}
use Rattle.document_json.specs.Doc.{Doc, DocTable, IsDoc, doc_table, names_of, offers_of}
use Rattle.document_json.proofs.Offered.{offer_count}
use Rattle.document_orders.proofs.Offering.{are_offered, listed_is}
use Rattle.order_sections.proofs.Reaching.{IsWithin, kept_reached, legal_with}
use Rattle.order_sections.proofs.Sums.{two_le}
use Rattle.order_sections.specs.Grids.{table_at}
use Rattle.order_sections.specs.Orders.{AddsOrders}
use Rattle.order_search.specs.declared.search.Two.{Two}
use Rattle.reached_states.specs.Reached.{AreOffered, IsReached, offered}
use Rattle.run_search.specs.Answered.{IsNotReached}
use Rattle.run_sentences.specs.declared.known.Known.{Known}
use Rattle.run_sentences.specs.declared.known.Known.TheVariants.{Searched, Apart}
use Rattle.run_sentences.specs.Told.{AreApart, AreNamed, HasNames, IsKnown, PassALimit}
use Rattle.run_sentences.proofs.RunLines.{enough, named}

-- two trains whose shares sum to more than the limit
pub pass_a_limit : (T : Table) (s : ℕ) (at : List ℕ) (i j : ℕ) → s < length T.sections → i < j → j < trains T
    → pos (limit T s) <ℤ (share T i s (place at i) +ℤ share T j s (place at j)) → PassALimit T at (record { first = i; second = j })
pass_a_limit T s at i j s_in before j_in over = record {
  s = s;
  section = s_in;
  first = omega (arith, before, j_in);
  second = j_in;
  differ = λ same. omega (arith, before, same);
  over = over;
}

-- A state that a run reaches is legal also under the tables with more sections: so two trains whose shares pass a limit are never both there.
module _ (old : List Offer) (start : List ℕ) (new : ℕ → Table) (t : ℕ) (at : List ℕ) (two : Two) (given : AreOffered old start)
    (added : AddsOrders (length old) (offered old) new start) (lt : t < length old) (table : IsTable (new t)) (over : PassALimit (new t) at two) where
  same : trains (new t) ≡ trains (offered old 0)
  same = ap trains (added.adds t lt).1 ∙ given.are.same t lt

  legal_there : (y : Yard) → IsReached old start y → y.table ≡ t → Legal (new t) y.positions
  legal_there y reached in_force =
      legal_with old new start t y.positions given added
      (subst (λ k. IsWithin old start k y.positions) in_force (kept_reached old start y given reached).within)

  never_both : (y : Yard) → IsReached old start y → y.table ≡ t → place y.positions two.first ≡ place at two.first
      → place y.positions two.second ≡ place at two.second → ⊥
  never_both y reached in_force here there =
      let T = new t in
      let s = over.s in
      let p = y.positions in
      let legal : Legal T p = legal_there y reached in_force in
      let two_shares : (share T two.first s (place p two.first) +ℤ share T two.second s (place p two.second)) ≤ℤ count T s p =
      two_le (λ k. share T k s (place p k)) (trains T) two.first two.second
      (λ k k_in. (table.sections s over.section).not_below k (place p k) k_in (legal.in_range k k_in)) over.first over.second over.differ in
      let first_share : share T two.first s (place p two.first) ≡ share T two.first s (place at two.first) = ap (share T two.first s) here in
      let second_share : share T two.second s (place p two.second) ≡ share T two.second s (place at two.second) = ap (share T two.second s) there in
      omega (arith, ints, legal.within s over.section, over.over)

  pub are_apart : AreApart old start t at two
  are_apart = record {
    first = omega (arith, same, over.first);
    second = omega (arith, same, over.second);
    differ = over.differ;
    never = never_both;
  }

-- then no run leads to places at which both are
pub no_run : (tables : List Offer) (start : List ℕ) (t : ℕ) (at : List ℕ) (two : Two) → AreApart tables start t at two → IsNotReached tables start at t
no_run tables start t at two apart y reached there table =
    apart.never y reached table (ap (λ (p : List ℕ). place p two.first) there) (ap (λ (p : List ℕ). place p two.second) there)

-- the tables of a document in a list
abbrev pub tables_of : Doc → List Table
tables_of D = map (λ t. t.table) D.tables

pub tables_count : (D : Doc) → length (tables_of D) ≡ length D.tables
tables_count D = length-map D.tables (λ (t : DocTable). t.table)

-- one table more
pub copied_more : (D : Doc) (t : ℕ) (taken longer : List Table) (new : Table) → t < length D.tables → taken ≡ take t (tables_of D)
    → new ≡ (doc_table D t).table → longer ≡ taken ++ new ∷ [] → longer ≡ take (t + 1) (tables_of D)
copied_more D t taken longer new lt so_far new_is adds =
    let within : t < length (tables_of D) = subst (λ n. t < n) (sym (tables_count D)) lt in
    let same : new ≡ get_or (tables_of D) t new = new_is ∙ sym (get_or-map (λ (x : DocTable). x.table) D.tables t _ new lt) in
    adds ∙ ap (λ (ts : List Table). ts ++ new ∷ []) so_far ∙ ap (λ (x : Table). take t (tables_of D) ++ x ∷ []) same
    ∙ sym (take_more (tables_of D) t new within)

-- the same of the copied tables of a document, and those with more sections
pub apart_in : (D : Doc) (start : List ℕ) (tables made : List Table) (at : List ℕ) (t : ℕ) (two : Two) → IsDoc D → tables ≡ tables_of D → start ≡ D.start
    → AddsOrders (length tables) (table_at tables) (table_at made) start → t < length tables → IsTable (table_at made t)
    → PassALimit (table_at made t) at two → AreApart (offers_of D) D.start t at two
apart_in D start tables made at t two is same begins adds lt table over =
    let n : length tables ≡ length (offers_of D) = ap length same ∙ tables_count D ∙ sym (offer_count D) in
    let old : table_at tables ≡ offered (offers_of D) = ap table_at same ∙ listed_is D.tables in
    are_apart (offers_of D) D.start (table_at made) t at two (are_offered D is)
    (subst (λ (p : List ℕ). AddsOrders (length (offers_of D)) (offered (offers_of D)) (table_at made) p) begins
    (subst (λ (f : ℕ → Table). AddsOrders (length (offers_of D)) f (table_at made) start) old
    (subst (λ (k : ℕ). AddsOrders k (table_at tables) (table_at made) start) n adds)))
    (subst (λ (k : ℕ). t < k) n lt) table over

-- two trains of a document have names
two_named : (D : Doc) (t : ℕ) (at : List ℕ) (two : Two) → IsDoc D → AreApart (offers_of D) D.start t at two → AreNamed (names_of D) two
two_named D t at two is apart =
    let all = (enough D is).each_train 0 is.tables.some in (omega (arith, apart.first, all), omega (arith, apart.second, all))

-- and so has all that is known
pub known_named : (D : Doc) (t : ℕ) (at : List ℕ) (known : Known) → IsDoc D → IsKnown D t at known → HasNames (names_of D) known
known_named D t at (Searched told) is so = named D at t told is so
known_named D t at (Apart two) is so = two_named D t at two is so
