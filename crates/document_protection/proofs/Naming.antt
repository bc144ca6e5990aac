-- The trains and points of a document's tables have names, and guards are stays of them.
use Rattle.std.proofs.Common.{◌≡◌, ℕ, zero, suc, ◌<◌, ◌≤◌, length, sym, ap, ap₂, ◌∙◌, ◌+◌, ◌++◌, subst, arith, add-one, append_assoc, inl, inr, List, [], ◌∷◌}
use Rattle.std.specs.Prelude.{All, slice_index_or}
use Rattle.std.proofs.lemmas.Bool.{cases_lt}
use Rattle.std.proofs.lemmas.List.{length-map, get_or_default}
use Rattle.forbidden_states.specs.Forbid.{Stay, AreStays}
use Rattle.document_json.specs.Doc.{Doc, IsDoc, names_of, table_at}
use Rattle.document_json.proofs.Offered.{offer_count}
use Rattle.rail_model.specs.Table.{Table, trains}
use Rattle.section_protect.specs.Protects.{IsGuarded}
use Rattle.section_protect.proofs.Lossless.{guards_stay}
use Rattle.state_sentences.specs.Explanation.{joined_below}
use Rattle.state_sentences.specs.Named.{HasNames}
use Rattle.document_protection.specs.Protected.{AreLeft, HaveGuards, IsProtected, guards_at}
use Rattle.document_protection.specs.declared.unprotected.Why.{Why}

pub has_names : (D : Doc) (t : ℕ) → IsDoc D → t < length D.tables → HasNames (names_of D) (table_at D t)
has_names D t is lt = record {
  trains = sym (is.trains t lt);
  points =
      λ i k q there. subst (λ n. q < n) (sym (length-map D.layout.points (λ p. p.name))) (is.points t lt i k q there);
}

-- guards are stays of the table's trains, and few
pub guards_few : (T made : Table) (guards : List (List Stay)) → IsGuarded T guards made → length guards ≤ 64
guards_few T made guards g = omega (arith, g.few)

pub guards_are_stays : (T made : Table) (guards : List (List Stay)) → IsGuarded T guards made →
    All (AreStays (trains T)) guards
guards_are_stays T made guards g = guards_stay T guards g.guards_are

-- a stay that is read in range is one of a train
pub stay_within : (n : ℕ) (b : List Stay) (k : ℕ) (s : Stay) → AreStays n b → k < length b → s ≡ slice_index_or b k s →
    s.train < n
stay_within n [] k s are lt is = absurd (omega (arith, lt))
stay_within n (t ∷ later) zero s are lt is = subst (λ (x : Stay). x.train < n) (sym is) are.0
stay_within n (t ∷ later) (suc k) s are lt is = stay_within n later k s are.3 (omega (arith, lt)) is

-- guards that are read in range are those with the number
pub guards_read : (all : List (List (List Stay))) (k : ℕ) (g : List (List Stay)) → k < length all →
    g ≡ slice_index_or all k g →
    g ≡ guards_at all k
guards_read all k g lt is = is ∙ get_or_default all k g [] lt

-- the same of stays
pub stays_read : (all : List (List Stay)) (k : ℕ) (b : List Stay) → k < length all → b ≡ slice_index_or all k b →
    b ≡ slice_index_or all k []
stays_read all k b lt is = is ∙ get_or_default all k b [] lt

-- all tables of a protected document have guards
pub protected_have_guards : (D : Doc) (guards : List (List (List Stay))) (text : List ℕ) → IsProtected D guards text →
    HaveGuards D guards
protected_have_guards D guards text is t lt =
    let within : t < length D.tables = omega (arith, lt, is.tables.guards_each) in
    record { within = within; made = _; guarded_is = (is.tables.each t within).guarded_is }

-- and so have those of one that isn't protected, as far as there are any
pub left_have_guards : (D : Doc) (k : ℕ) (guards : List (List (List Stay))) (why : Why) →
    AreLeft (length D.tables) (table_at D) k guards why →
    HaveGuards D guards
left_have_guards D k guards why left t lt =
    let within : t < length D.tables = omega (arith, lt, left.count, left.within) in
    elim (cases_lt t k) [
      | inl early ↦ let own = left.each t early in record { within = within; made = own.0; guarded_is = own.1 }
      | inr late ↦
          let there : t ≡ k = omega (arith, lt, late, left.count) in
          let last = left.left in
          record {
            within = within;
            made = last.made;
            guarded_is =
                subst (λ n. IsGuarded (table_at D n) (guards_at guards n) last.made) (sym there) last.guarded_is;
          }
    ]

-- a document has few tables
pub few_tables : (D : Doc) → IsDoc D → length D.tables ≤ 16
few_tables D is = let all = is.tables.few in omega (arith, all, offer_count D)

-- one more text behind those below a number
pub joined_more : (f : ℕ → List ℕ) (n : ℕ) (start old new words : List ℕ) → old ≡ start ++ joined_below f n →
    new ≡ old ++ words →
    words ≡ f n → new ≡ start ++ joined_below f (n + 1)
joined_more f n start old new words before more is =
    more ∙ ap₂ (λ (front back : List ℕ). front ++ back) before is ∙ append_assoc start (joined_below f n) (f n)
    ∙ ap (λ (k : ℕ). start ++ joined_below f k) (sym (add-one n))

-- three texts behind another one
pub three_joined : (before a b c one two : List ℕ) → one ≡ before ++ a → two ≡ one ++ b →
    two ++ c ≡ before ++ (a ++ (b ++ c))
three_joined before a b c one two first second =
    ap (λ (t : List ℕ). t ++ c) (second ∙ ap (λ (t : List ℕ). t ++ b) first) ∙ append_assoc (before ++ a) b c
    ∙ append_assoc before a (b ++ c)
