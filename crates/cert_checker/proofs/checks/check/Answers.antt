use Rattle.std.proofs.Common.{◌≡◌, ◌∷◌, [], drop, ◌∙◌}
use Rattle.rail_model.specs.Certificate.{full_box, visits}
use Rattle.cert_checker.specs.Walked.{walked}
use Rattle.cert_checker.proofs.Whole.{walk_whole, visits_answer}
use Rattle.cert_checker.proofs.checks.check.Goals as goal

pub returns : goal.returns
returns c =
    let T = c.args.table.now in
    let cert = c.args.cert.now in
    let same : walked (c.in_ok-sums.sums.ranges ∷ []) (drop 0 c.as_slice.result.now) ≡ visits (full_box T) cert =
    (λ k. walked (c.in_ok-sums.ensures.ranges k ∷ []) (drop 0 (c.as_slice.ensures.nodes k))) ∙ walk_whole cert (full_box T) in
    let answer = visits_answer T cert _ c.visit_tree.result same c.visit_tree.ensures.good c.visit_tree.ensures.bad in
    record {
      accepted = answer.0;
      bad = answer.1;
      formed = c.in_ok-sums.ensures.formed;
    }
