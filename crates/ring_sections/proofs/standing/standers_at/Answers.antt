use Rattle.std.proofs.Common.{◌≡◌, ◌+◌, ◌∙◌, ◌++◌, ℕ, Bool, List, [], ◌∷◌, Option, Some, None, Vec, Global, cond, take, append-nil, ap, sym, arith}
use Rattle.std.specs.Prelude.{filter, slice_index_or}
use Rattle.std.proofs.lemmas.List.{take_all, get_or-map}
use Rattle.std.proofs.lemmas.List.Elements.{All-filter, All-same, filter_more}
use Rattle.rail_model.specs.Checks.{same_point}
use Rattle.ring_sections.specs.Ring.{Pair, pair_at, point_at}
use Rattle.ring_sections.specs.Search.{IsTrainPlace, stands_at}
use Rattle.ring_sections.proofs.standing.standers_at.Goals as goal
use Rattle.ring_sections.proofs.standing.standers_at.Goals.{then-is_there+in_ok-push, else-is_there}

pub loop-index-preserved : goal.loop-index-preserved
loop-index-preserved c =
    let M = c.args.missions.now in
    let q = c.args.point in
    let all = c.args.pairs.now in
    let k = c.loop-index.index in
    let before : List Pair = filter (stands_at M q) (take k all) in
    let more : (b : Bool) → c.is_there.result ≡ b → filter (stands_at M q) (take (k + 1) all) ≡ before ++ cond b (pair_at all k ∷ []) [] =
    λ b is. filter_more (stands_at M q) all k (0, 0) (omega arith)
    ∙ ap (λ x. before ++ cond (same_point x (Some q)) (pair_at all k ∷ []) []) (sym (get_or-map (point_at M) all k (0, 0) None (omega arith)))
    ∙ ap (λ (ps : List (Option ℕ)). before ++ cond (same_point (slice_index_or ps k None) (Some q)) (pair_at all k ∷ []) []) (sym c.requires.points)
    ∙ ap (λ a. before ++ cond a (pair_at all k ∷ []) []) (sym c.is_there.ensures ∙ is) in
    elim c.if-is_there.branch [
      | then-is_there+in_ok-push w ↦
          ap (λ (v : Vec Pair Global). v.items) w.standers-is ∙ w.in_ok-push.ensures.items
          ∙ ap (λ (ws : List Pair). ws ++ pair_at all k ∷ []) c.loop-index.invariant ∙ sym (more _ w.if-is_there.true)
      | else-is_there w ↦
          ap (λ (v : Vec Pair Global). v.items) w.standers-is ∙ c.loop-index.invariant ∙ sym (more _ w.if-is_there.false ∙ append-nil before)
    ]

pub lasts_of-requires : goal.lasts_of-requires
lasts_of-requires c =
    let M = c.args.missions.now in
    let all = c.args.pairs.now in
    All-same (IsTrainPlace M) c.deref.result.now (filter (stands_at M c.args.point) all)
    (c.deref.ensures.value ∙ c.loop-index.invariant ∙ ap (filter (stands_at M c.args.point)) (take_all c.loop-index.index all (omega arith)))
    (All-filter (stands_at M c.args.point) (IsTrainPlace M) all c.requires.pairs)
