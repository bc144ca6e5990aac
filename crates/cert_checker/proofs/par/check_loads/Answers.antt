use Rattle.std.proofs.Common.{List, ◌<◌, length, get_or, sym, ap, subst, ◌∙◌}
use Rattle.std.proofs.Crossing.{crosses, frees}
use denote.Param.Send.{sendable}
use Rattle.rayon.proofs.ListFacts.{IfOk-then}
use Rattle.rayon.proofs.ToStd.{slice-AllZip}
use Rattle.cert_checker.specs.declared.loads.Load.{Load}
use Rattle.cert_checker.specs.Cut.{IsLoad, IsLoadChecked}
use Rattle.cert_checker.proofs.par.check_loads.Goals as goal

-- one line for each `Send` and `Sync`, the allocator, and then the closure's `requires` at each part
pub collect-requires : goal.collect-requires
collect-requires g c κs =
    let T = c.args.tree.now.table.now in
    let nodes = c.args.tree.now.nodes.now in
    let slice = ap (λ it. it.base.slice.now) c.map.ensures.base ∙ ap (λ it. it.slice.now) c.with_min_len.ensures.base ∙ c.par_iter.ensures in (
      search (sendable, crosses) depth 80 fits 30000,
      (
        search (sendable, crosses) depth 80 fits 30000,
        (
          search (sendable, crosses) depth 80 fits 30000,
          (
            search (sendable, crosses) depth 80 fits 30000,
            (
              search (sendable, crosses) depth 80 fits 30000,
              (
                frees,
                rw c.map.ensures.f (λ k d lt x e. (
                  (
                    c.requires.tree,
                    subst (IsLoad T nodes) (sym (e ∙ ap (λ (ps : List Load). get_or ps k d) slice)) (c.requires.loads k d (subst (λ (ps : List Load). k < length ps) slice lt)),
                  ),
                  λ y p. tt,
                )),
              ),
            ),
          ),
        ),
      ),
    )

pub returns : goal.returns
returns g c =
    let T = c.args.tree.now.table.now in
    let nodes = c.args.tree.now.nodes.now in
    let slice = ap (λ it. it.slice.now) c.with_min_len.ensures.base ∙ c.par_iter.ensures in
    IfOk-then c.collect.result _ _ c.collect.ensures (λ v h.
    let chain = rw (c.map.ensures.base, c.map.ensures.f) at h.1 in
    rw h.2 (slice-AllZip chain.0 c.args.loads.now (chain.1 ∙ slice) (λ p r. IsLoadChecked T nodes p r) h.0 chain.2))
