-- Worked rows: a certificate that is refused, and one that is made in its place, or is too large for the budget.
use Rattle.std.proofs.Common.{◌≡◌, ℕ, List, [], ◌∷◌, Ok, refl, arith, lit<, lit≤, inr}
use Rattle.rail_model.specs.declared.types.Bad.TheVariants as bad
use Rattle.rail_model.specs.declared.types.Node.TheVariants.{Arrived, Move}
use Rattle.rail_model.specs.Certificate.{full_box, Accepts}
use Rattle.cert_maker.specs.Rule.{leaf, split, IsRuleTree, Makes}
use Rattle.cert_maker.specs.declared.made.Made.TheVariants.{Cert as cert}
use Rattle.document_json.specs.Reading.{doc_of}
use Rattle.document_json.specs.Trees.{tree_at}
use Rattle.document_json.specs.Written.{written}
use Rattle.ats_answers.specs.declared.failure.Failure.TheVariants.{Certificate, Spent}
use Rattle.ats_answers.specs.Refusing.{RefusesCheck, RefusesMake}
use Rattle.accepted_documents.specs.Accepting.{IsDocWith}
use Rattle.ats_answers.specs.Making.{AreMade, table_in, IsMade}
use Rattle.accepted_documents.proofs.Rows.{not_good, bad_table}
use Rattle.accepted_documents.proofs.Samples.{table, good, the_only, trees, accepted}

refused : (input : List ℕ) → doc_of input ≡ Ok not_good → RefusesCheck input (Certificate 0 (bad.Arrived 0 0))
refused input read = (not_good, read, bad_table)

-- the rule's tree of the table has three nodes
rule_tree : IsRuleTree table (full_box table) (split 0 0 (leaf (Move 0)) (leaf Arrived))
rule_tree = (refl, refl, refl, refl, refl)

made : AreMade (table ∷ []) 3 trees
made = record {
  one_each = refl;
  made = the_only (λ t. Makes (table_in (table ∷ []) t) 3 (cert (tree_at trees t))) (split 0 0 (leaf (Move 0)) (leaf Arrived), rule_tree, (refl, lit≤ tt));
  accepted = the_only (λ t. Accepts (table_in (table ∷ []) t) (tree_at trees t)) (accepted.accepted 0 (lit< tt));
}

-- a budget of three nodes is enough, and the old certificate goes
remade : (input : List ℕ) → doc_of input ≡ Ok not_good → doc_of (written good) ≡ Ok good → IsDocWith input (λ D. IsMade D 3 (written good))
remade input read again = (not_good, read, (trees, made, record { printed = refl; reads = again; accepted = accepted }))

-- a budget of two isn't
two_spent : (input : List ℕ) → doc_of input ≡ Ok not_good → RefusesMake input 2 (Spent 0 2)
two_spent input read = inr (
  not_good,
  read,
  record {
    table = 0;
    in_range = lit< tt;
    earlier = λ u none. absurd (omega (arith, none));
    none = (refl, (split 0 0 (leaf (Move 0)) (leaf Arrived), rule_tree, (refl, lit< tt)));
  },
)
