use Rattle.std.proofs.Common.{ℕ, ◌∙◌, Vec, Global}
use Rattle.std.specs.Prelude.{slice_set}
use Rattle.std.proofs.lemmas.List.{map-set}
use Rattle.live_session.proofs.tags.WantTags.keep.Goals as goal

pub returns-clause-kept : goal.returns-clause-kept
returns-clause-kept c =
    map-set (λ (tag : Vec ℕ Global). tag.items) c.self.inside.tags.items c.args.train c.in_ok-self-inside.field-0
    ∙ (λ j. slice_set (c.self.view_is j) c.args.train (c.in_ok-self-inside.ensures.items j))
