use Rattle.std.proofs.Common.{◌≡◌, ◌⊎◌, List, subst}
use Rattle.std.specs.Prelude.{Err}
use Rattle.cert_checker.specs.declared.parts.Part.{Part}
use Rattle.cert_checker.specs.declared.faults.CheckFault.TheVariants.{Memory}
use Rattle.cert_checker.specs.Cut.{ArePartsChecked}
use Rattle.cert_checker.proofs.Cutting.{cut_answered}
use Rattle.cert_checker.proofs.par.check_par.Goals as goal

pub returns : goal.returns
returns g c =
    let T = c.args.table.now in
    let nodes = c.as_slice-nodes.result.now in
    let answer = cut_answered T c.args.cert.now nodes c.in_ok-parts.parts.items c.check_cut.result c.as_slice-nodes.ensures.nodes c.in_ok-parts.ensures.cut
    (subst (λ (ps : List Part). (c.check_cut.result ≡ Err Memory) ⊎ ArePartsChecked T nodes ps c.check_cut.result) c.deref.ensures.value c.check_cut.ensures) in
    record {
      accepted = answer.0;
      bad = answer.1;
      formed = c.in_ok-parts.ensures.formed;
    }
