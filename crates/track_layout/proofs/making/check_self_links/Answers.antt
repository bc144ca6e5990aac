use Rattle.std.proofs.Common.{◌∙◌, sym, ap, ℕ, List, bytes_eq, option_map}
use Rattle.rail_model.proofs.Places.{position-map}
use Rattle.track_layout.specs.declared.refused.LayoutRefused.TheVariants.{SelfLink}
use Rattle.track_layout.specs.Seen.{link_seen}
use Rattle.track_layout.proofs.making.check_self_links.Goals as goal

pub returns-in-Some : goal.returns-in-Some
returns-in-Some c = ap (option_map SelfLink) (c.in-Some.ensures ∙ sym (position-map (λ (l : List ℕ × List ℕ). bytes_eq l.0 l.1) link_seen c.args.links.now))

pub returns-in-None : goal.returns-in-None
returns-in-None c = ap (option_map SelfLink) (c.in-None.ensures ∙ sym (position-map (λ (l : List ℕ × List ℕ). bytes_eq l.0 l.1) link_seen c.args.links.now))
