-- A name that comes twice, as a refusal of points.
use Rattle.track_layout.specs.declared.numbers.NotNumbered.{NotNumbered}
use Rattle.track_layout.specs.declared.numbers.NotNumbered.TheVariants as numbering
use Rattle.track_layout.specs.declared.refused.LayoutRefused.{LayoutRefused}
use Rattle.track_layout.specs.declared.refused.LayoutRefused.TheVariants as refused

abbrev pub point_refusal : NotNumbered → LayoutRefused
point_refusal (numbering.Double first second) = refused.DoubleName first second
point_refusal numbering.Memory = refused.Memory
